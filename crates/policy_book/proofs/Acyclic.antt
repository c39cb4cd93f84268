-- No cycle is computed just where the hierarchy is acyclic.
use Rattle.std.proofs.Common.{◌≡◌, ℕ, List, Option, Some, None, MatchOption, refl, sym, ap, subst}
use Rattle.gt_base.specs.declared.policies.HierEdge.{HierEdge}
use Rattle.gtrbac_model.specs.Graph.{LeadsAlong}
use Rattle.least_walk.proofs.Items.{item_map}
use Rattle.gtrbac_model.specs.Cycles.{HasNoCycle, IsLeastCycle}
use Rattle.gtrbac_model.specs.Hierarchy.{all_arcs}
use Rattle.gtrbac_model.specs.EdgeCycles.{edge_cycle, every, IsAcyclic, NoneIsAcyclic}
use Rattle.policy_book.proofs.Closing.{arc_of, cycle_is_least}

module _ (es : List HierEdge) where
  pub acyclic : HasNoCycle (all_arcs es) every → IsAcyclic es
  acyclic none r n ns (arc, is, _, from, rest) =
      none n ns (record { arc = arc; is = is; is_marked = refl; leads = subst (λ z. LeadsAlong (all_arcs es) arc.to ns z) (sym from) rest })

  pub no_cycle : IsAcyclic es → HasNoCycle (all_arcs es) every
  no_cycle none n back c =
      let (e, _, same) = item_map arc_of es n c.arc c.is in
      none c.arc.from n back (c.arc, c.is, ap (λ a. a.is_open) same, refl, c.leads)

  of_none : (o : Option (List ℕ)) → MatchOption o (HasNoCycle (all_arcs es) every) (IsLeastCycle (all_arcs es) every) → o ≡ None → HasNoCycle (all_arcs es) every
  of_none None h e = h
  of_none (Some c) h e = cc

  is_none : (o : Option (List ℕ)) → MatchOption o (HasNoCycle (all_arcs es) every) (IsLeastCycle (all_arcs es) every) → HasNoCycle (all_arcs es) every → o ≡ None
  is_none None h none = refl
  is_none (Some c) h none = absurd (none h.first h.back h.closes)

  pub none_computed : HasNoCycle (all_arcs es) every → edge_cycle es ≡ None
  none_computed none = is_none (edge_cycle es) (cycle_is_least es) none

pub none_is_acyclic : NoneIsAcyclic
none_is_acyclic es = (λ e. acyclic es (of_none es (edge_cycle es) (cycle_is_least es) e), λ a. none_computed es (no_cycle es a))
