-- The cycle that is computed is the least with a conflict.
use Rattle.std.proofs.Common.{◌≡◌, ℕ, Bool, true, false, List, [], ◌∷◌, Option, Some, None, MatchOption, refl, sym, ◌∙◌, ap, subst, if◌then◌else◌}
use Rattle.gt_base.specs.declared.events.Event.{Event}
use Rattle.gt_base.specs.Held.{TriggerView}
use Rattle.gtrbac_model.specs.Same.{same_event}
use Rattle.gtrbac_model.specs.Graph.{Arc, least_walk, LeadsAlong, item_at}
use Rattle.gtrbac_model.specs.Safety.{closing, first_closing, Dependency, dependencies, arcs_of, IsSafe, the_cycle}
use Rattle.gtrbac_model.specs.Theorems.{CycleTells}
use Rattle.gtrbac_model.proofs.Uniqueness.{is_same_event, same_event_of}
use Rattle.gtrbac_model.specs.Cycles.{HasNoCycle, IsLeastCycle, is_conflict}
use Rattle.walk_laws.proofs.LeastCycle.{item_map, item_of_map, ClosesWith, unmarked_closes, marked_closes, first_is_least}

abbrev pub arc_of : Dependency → Arc Event
arc_of d = record { from = d.source; to = d.target; is_open = true }

pub arc_at : (ds : List Dependency) (n : ℕ) (arc : Arc Event) → item_at (arcs_of ds) n ≡ Some arc → (d : Dependency) × (item_at ds n ≡ Some d) × (arc ≡ arc_of d)
arc_at ds = item_map arc_of ds

pub arc_here : (ds : List Dependency) (n : ℕ) (d : Dependency) → item_at ds n ≡ Some d → item_at (arcs_of ds) n ≡ Some (arc_of d)
arc_here ds = item_of_map arc_of ds

pub conflict_at : (ds : List Dependency) (n : ℕ) (d : Dependency) → item_at ds n ≡ Some d → is_conflict ds n ≡ d.conflict
conflict_at ds n d h = ap (λ o. elim o [ Some e ↦ e.conflict | None ↦ false ]) h

module _ (ds : List Dependency) where
  closes : (n : ℕ) (d : Dependency) → item_at ds n ≡ Some d → ClosesWith arc_of ds (is_conflict ds) n (closing ds n d)
  closes n d is = of_mark d.conflict (conflict_at ds n d is)
    where
      of_mark : (b : Bool) → is_conflict ds n ≡ b → ClosesWith arc_of ds (is_conflict ds) n (if b then elim (least_walk same_event (arcs_of ds) (same_event d.source) (d.target ∷ [])) [ Some p ↦ Some (n ∷ p.arcs) | None ↦ None ] else None)
      of_mark true q = marked_closes arc_of ds (is_conflict ds) same_event (is_same_event, same_event_of) n d is q
      of_mark false q = unmarked_closes arc_of ds (is_conflict ds) n q

  pub whole : MatchOption (first_closing ds 0 ds) (HasNoCycle (arcs_of ds) (is_conflict ds)) (IsLeastCycle (arcs_of ds) (is_conflict ds))
  whole = first_is_least arc_of ds (is_conflict ds) (closing ds) (first_closing ds) closes (λ n. refl) (λ n d rest. refl)

pub safe_of : (rules : List TriggerView) → HasNoCycle (arcs_of (dependencies rules)) (is_conflict (dependencies rules)) → IsSafe rules
safe_of rules h n d is conflict walk w =
    h n walk (record { arc = arc_of d; is = arc_here (dependencies rules) n d is; is_marked = conflict_at (dependencies rules) n d is ∙ conflict; leads = w })

pub no_cycle_of : (rules : List TriggerView) → IsSafe rules → HasNoCycle (arcs_of (dependencies rules)) (is_conflict (dependencies rules))
no_cycle_of rules safe n back c =
    let (d, is, same) = arc_at (dependencies rules) n c.arc c.is in
    safe n d is (sym (conflict_at (dependencies rules) n d is) ∙ c.is_marked) back (subst (λ a. LeadsAlong (arcs_of (dependencies rules)) a.to back a.from) same c.leads)

pub cycle_is : (rules : List TriggerView) → MatchOption (the_cycle rules) (IsSafe rules) (IsLeastCycle (arcs_of (dependencies rules)) (is_conflict (dependencies rules)))
cycle_is rules = go (the_cycle rules) (whole (dependencies rules))
  where
    go : (o : Option (List ℕ)) → MatchOption o (HasNoCycle (arcs_of (dependencies rules)) (is_conflict (dependencies rules))) (IsLeastCycle (arcs_of (dependencies rules)) (is_conflict (dependencies rules)))
        → MatchOption o (IsSafe rules) (IsLeastCycle (arcs_of (dependencies rules)) (is_conflict (dependencies rules)))
    go None h = safe_of rules h
    go (Some c) h = h

pub tells : (rules : List TriggerView) → CycleTells rules
tells rules = (λ safe. none (the_cycle rules) (cycle_is rules) safe, λ e. there (the_cycle rules) (cycle_is rules) e)
  where
    none : (o : Option (List ℕ)) → MatchOption o (IsSafe rules) (IsLeastCycle (arcs_of (dependencies rules)) (is_conflict (dependencies rules))) → IsSafe rules → o ≡ None
    none None h safe = refl
    none (Some c) h safe = absurd (no_cycle_of rules safe h.first h.back h.closes)

    there : (o : Option (List ℕ)) → MatchOption o (IsSafe rules) (IsLeastCycle (arcs_of (dependencies rules)) (is_conflict (dependencies rules))) → o ≡ None → IsSafe rules
    there None h e = h
    there (Some c) h e = cc
