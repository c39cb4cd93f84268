-- The triggers of a made policy have levels: the number of the role that an event switches.
use Rattle.std.proofs.Common.{◌≡◌, ℕ, zero, suc, ◌+◌, Bool, true, false, cond, List, [], ◌∷◌, ◌++◌, refl, ◌∙◌, arith}
use Rattle.std.specs.List.{list_all, range_with_len, flat_map}
use Rattle.std.proofs.lemmas.Bool.{le-leb, lt-ltb}
use Rattle.std.proofs.lemmas.List.Folds.{list_all-append}
use Rattle.gt_base.specs.Events.{converse}
use Rattle.gt_base.specs.Held.{TriggerView}
use Rattle.gt_base.specs.declared.events.Fluent.{Fluent}
use Rattle.gt_base.specs.declared.events.Fluent.TheVariants.{Enabled}
use Rattle.gt_base.specs.declared.events.Event.{Event}
use Rattle.gtrbac_model.specs.Safety.{Dependency, is_node, edge_if_node, of_trigger, of_triggers, rises, IsSafe}
use Rattle.gtrbac_model.proofs.Elements.{and_true}
use Rattle.gtrbac_model.proofs.Levels.{levels_are_safe}
use Rattle.gen_laws.specs.Made.{switched, passed_on, passed_both}

abbrev fluent_level : Fluent → ℕ
fluent_level (Enabled r) = r.0
fluent_level _ = 0

abbrev level : Event → ℕ
level e = fluent_level e.fluent

module _ (rules : List TriggerView) where
  one_edge : (d : Dependency) → rises level d ≡ true → list_all (rises level) (edge_if_node rules d) ≡ true
  one_edge d h = by (is_node rules d.source)
    where
      by : (b : Bool) → list_all (rises level) (cond b (d ∷ []) []) ≡ true
      by true = and_true (rises level d) true h refl
      by false = refl

  all_join : (xs ys : List Dependency) → list_all (rises level) xs ≡ true → list_all (rises level) ys ≡ true → list_all (rises level) (xs ++ ys) ≡ true
  all_join xs ys h k = list_all-append (rises level) xs ys ∙ and_true _ _ h k

  abbrev plain : Bool → ℕ → ℕ → Dependency
  plain on t n = record { source = switched on n; target = switched on (n + 1); conflict = false; trigger = t; place = 0 }

  abbrev against : Bool → ℕ → ℕ → Dependency
  against on t n = record { source = converse (switched on n); target = switched on (n + 1); conflict = true; trigger = t; place = 0 }

  -- the event on a role, plain, and its converse, in conflict, lead to an event on the next role
  of_one : (on : Bool) (t n : ℕ) → list_all (rises level) (of_trigger rules t (passed_on on n)) ≡ true
  of_one on t n =
      let first : List Dependency = edge_if_node rules (plain on t n) in
      let second : List Dependency = edge_if_node rules (against on t n) in
      all_join (first ++ second ++ []) []
      (all_join (first ++ second) [] (all_join first second (one_edge (plain on t n) (le-leb n (n + 1) (omega arith))) (one_edge (against on t n) (lt-ltb n (n + 1) (omega arith)))) refl) refl

  of_range : (t a n : ℕ) → list_all (rises level) (of_triggers rules t (flat_map passed_both (range_with_len a n))) ≡ true
  of_range t a zero = refl
  of_range t a (suc n) =
      all_join (of_trigger rules t (passed_on true a)) _ (of_one true t a)
      (all_join (of_trigger rules (t + 1) (passed_on false a)) _ (of_one false (t + 1) a) (of_range (t + 1 + 1) (a + 1) n))

pub passing_is_safe : (a n : ℕ) → IsSafe (flat_map passed_both (range_with_len a n))
passing_is_safe a n = levels_are_safe (flat_map passed_both (range_with_len a n)) level (of_range (flat_map passed_both (range_with_len a n)) 0 a n)
