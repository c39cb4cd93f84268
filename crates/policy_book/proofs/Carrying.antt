-- Cycles of the numbered graph and of the roles are the same.
use Rattle.std.proofs.Common.{◌≡◌, ℕ, zero, suc, true, List, [], ◌∷◌, map, Option, Some, None, MatchOption, refl, ap, subst}
use Rattle.gt_base.specs.declared.events.RoleId.{RoleId}
use Rattle.gt_base.specs.declared.policies.HierEdge.{HierEdge}
use Rattle.gtrbac_model.specs.Graph.{Arc, LeadsAlong, item_at}
use Rattle.least_walk.specs.Net.{arcs_of, is_marked}
use Rattle.least_walk.specs.Net.{arc_of as net_arc}
use Rattle.least_walk.proofs.Items.{item_of_map}
use Rattle.gtrbac_model.specs.Cycles.{Closes, HasNoCycle, IsLeastCycle}
use Rattle.walk_laws.proofs.Orders.{one_least_cycle}
use Rattle.safety_cycle.specs.declared.strata.Verdict.TheVariants.{Cycle}
use Rattle.safety_cycle.specs.Judged.{IsStratified, IsVerdict}
use Rattle.gtrbac_model.specs.Hierarchy.{all_arcs}
use Rattle.gtrbac_model.specs.EdgeCycles.{edge_cycle, every}
use Rattle.policy_book.specs.Nets.{graph_edge, net_of}
use Rattle.policy_book.proofs.Closing.{arc_of, cycle_is_least}
use Rattle.policy_book.proofs.Acyclic.{none_computed}

-- the arc between the images of its ends
abbrev carried : {N M : Type 0} → (N → M) → Arc N → Arc M
carried f a = record { from = f a.from; to = f a.to; is_open = a.is_open }

-- a walk leads along the images
leads_over : {N M : Type 0} (f : N → M) (arcs : List (Arc N)) (a b : N) (ns : List ℕ) → LeadsAlong arcs a ns b → LeadsAlong (map (carried f) arcs) (f a) ns (f b)
leads_over f arcs a b [] w = ap f w
leads_over f arcs a b (n ∷ ns) (e, is, open_, from, rest) = (carried f e, item_of_map (carried f) arcs n e is, open_, ap f from, leads_over f arcs e.to b ns rest)

abbrev role : ℕ → RoleId
role n = record { 0 = n }

abbrev number : RoleId → ℕ
number r = r.0

abbrev net_arcs : List HierEdge → List (Arc ℕ)
net_arcs es = arcs_of (map graph_edge es)

numbered : (es : List HierEdge) → map (carried number) (all_arcs es) ≡ net_arcs es
numbered [] = refl
numbered (e ∷ es) = ap (λ xs. net_arc (graph_edge e) ∷ xs) (numbered es)

named : (es : List HierEdge) → map (carried role) (net_arcs es) ≡ all_arcs es
named [] = refl
named (e ∷ es) = ap (λ xs. arc_of e ∷ xs) (named es)

all_marked : (es : List HierEdge) (n : ℕ) (a : Arc ℕ) → item_at (net_arcs es) n ≡ Some a → is_marked (map graph_edge es) n ≡ true
all_marked [] n a h = cc
all_marked (e ∷ es) zero a h = refl
all_marked (e ∷ es) (suc n) a h = all_marked es n a h

module _ (es : List HierEdge) where
  up : (n : ℕ) (back : List ℕ) → Closes (net_arcs es) (is_marked (map graph_edge es)) n back → Closes (all_arcs es) every n back
  up n back c =
      record {
        arc = carried role c.arc;
        is = subst (λ xs. item_at xs n ≡ Some (carried role c.arc)) (named es) (item_of_map (carried role) (net_arcs es) n c.arc c.is);
        is_marked = refl;
        leads = subst (λ xs. LeadsAlong xs (role c.arc.to) back (role c.arc.from)) (named es) (leads_over role (net_arcs es) c.arc.to c.arc.from back c.leads);
      }

  down : (n : ℕ) (back : List ℕ) → Closes (all_arcs es) every n back → Closes (net_arcs es) (is_marked (map graph_edge es)) n back
  down n back c =
      let is : item_at (net_arcs es) n ≡ Some (carried number c.arc) =
      subst (λ xs. item_at xs n ≡ Some (carried number c.arc)) (numbered es) (item_of_map (carried number) (all_arcs es) n c.arc c.is) in
      record {
        arc = carried number c.arc;
        is = is;
        is_marked = all_marked es n _ is;
        leads = subst (λ xs. LeadsAlong xs c.arc.to.0 back c.arc.from.0) (numbered es) (leads_over number (all_arcs es) c.arc.to c.arc.from back c.leads);
      }

  least_up : (cycle : List ℕ) → IsLeastCycle (net_arcs es) (is_marked (map graph_edge es)) cycle → IsLeastCycle (all_arcs es) every cycle
  least_up cycle c =
      record {
        first = c.first;
        back = c.back;
        is = c.is;
        closes = up c.first c.back c.closes;
        earliest = λ n other k. c.earliest n other (down n other k);
        shortest = λ other k. c.shortest other (down c.first other k);
      }

  the_least : (cycle : List ℕ) → IsLeastCycle (all_arcs es) every cycle → (o : Option (List ℕ)) → MatchOption o (HasNoCycle (all_arcs es) every) (IsLeastCycle (all_arcs es) every) → o ≡ Some cycle
  the_least cycle c None none = absurd (none c.first c.back c.closes)
  the_least cycle c (Some other) least = ap Some (one_least_cycle (all_arcs es) every other cycle least c)

  pub found : (roles : ℕ) (cycle : List ℕ) → IsVerdict (net_of roles es) (Cycle cycle) → edge_cycle es ≡ Some cycle
  found roles cycle c = the_least cycle (least_up cycle c) (edge_cycle es) (cycle_is_least es)

  pub none_found : (roles : ℕ) (levels : List ℕ) → IsStratified (net_of roles es) levels → edge_cycle es ≡ None
  none_found roles levels s = none_computed es (λ n back c. s.safe n back (down n back c))
