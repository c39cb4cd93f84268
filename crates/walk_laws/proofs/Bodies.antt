-- Triggers without settled conditions.
use Rattle.std.proofs.Common.{◌≡◌, ◌↔◌, ℕ, ◌+◌, suc, Bool, true, false, cond, not, List, [], ◌∷◌, ◌++◌, length, All, append-nil, refl, sym, ◌∙◌, ap, subst, arith}
use Rattle.std.proofs.lemmas.List.Sums.{AllPass-from_list_all, list_all-from_AllPass}
use Rattle.std.specs.List.{list_all}
use Rattle.gt_base.specs.Held.{TriggerView}
use Rattle.gt_base.specs.Happening.{HappenedView}
use Rattle.gt_base.specs.Sets.{has}
use Rattle.gtrbac_model.specs.Conflict.{Status, won, after}
use Rattle.gtrbac_model.specs.Safety.{of_body, of_settled, of_triggers, dependencies}
use Rattle.gtrbac_model.specs.Trigger.{met, holds, immediate}
use Rattle.gtrbac_model.proofs.Meeting.{parts_met, met_by}
use Rattle.walk_laws.specs.Bare.{IsBodyMet, of_bodies}

-- a condition holds where its fluent is as it says
as_said : (on before : Bool) → cond on before (not before) ≡ true → before ≡ on
as_said true true e = refl
as_said true false e = cc
as_said false true e = cc
as_said false false e = refl

so_holds : (on before : Bool) → before ≡ on → cond on before (not before) ≡ true
so_holds true true e = refl
so_holds true false e = cc
so_holds false true e = cc
so_holds false false e = refl

pub bare_met : (r : TriggerView) (x : HappenedView) (s : Status) → r.settled ≡ [] → (met r x s ≡ true) ↔ IsBodyMet r x s
bare_met r x s none = (
  λ h.
      let m = parts_met r x s h in
      let conds = AllPass-from_list_all (holds s) r.conds m.conds in
      record {
        events = AllPass-from_list_all (won x) r.events m.events;
        signals = AllPass-from_list_all (has x.signals) r.signals m.signals;
        conds = λ k d lt. as_said _ _ (conds k d lt);
      },
  λ b.
      met_by r x s (record {
        events = list_all-from_AllPass (won x) r.events b.events;
        signals = list_all-from_AllPass (has x.signals) r.signals b.signals;
        conds = list_all-from_AllPass (holds s) r.conds (λ k d lt. so_holds _ _ (b.conds k d lt));
        settled = subst (λ cs. list_all (holds (after x s)) cs ≡ true) (sym none) refl;
      }),
)

bare_from : (triggers : List TriggerView) (t : ℕ) (rs : List TriggerView) → All (λ r. r.settled ≡ []) rs → of_triggers triggers t rs ≡ of_bodies triggers t rs
bare_from triggers t [] none = refl
bare_from triggers t (r ∷ rs) none =
    let bodies = of_body triggers r.head.event t 0 r.events in
    let one : bodies ++ of_settled triggers r.head.event t (length r.events) r.settled ≡ bodies =
    ap (λ cs. bodies ++ of_settled triggers r.head.event t (length r.events) cs) (none 0 r (omega arith)) ∙ append-nil bodies in
    ap (λ ds. cond (immediate r) ds [] ++ of_triggers triggers (t + 1) rs) one
    ∙ ap (λ ds. cond (immediate r) bodies [] ++ ds) (bare_from triggers (t + 1) rs (λ k d lt. none (suc k) d (omega (arith, lt))))

pub bare_dependencies : (triggers : List TriggerView) → All (λ r. r.settled ≡ []) triggers → dependencies triggers ≡ of_bodies triggers 0 triggers
bare_dependencies triggers none = bare_from triggers 0 triggers none
