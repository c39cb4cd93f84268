-- Which fluents an instant changes.
use Rattle.std.proofs.Common.{◌≡◌, ℕ, ◌+◌, ◌<◌, Bool, true, false, cond, ◌&&◌, ◌||◌, List, take, get_or, length, refl, sym, ◌∙◌, ap}
use Rattle.std.specs.List.{list_any}
use Rattle.std.proofs.lemmas.List.Folds.{list_any_more}
use Rattle.gt_base.specs.Happening.{HappenedView, Events}
use Rattle.gt_base.specs.Sets.{has, members}
use Rattle.gt_base.specs.declared.events.Event.{Event}
use Rattle.gt_base.specs.declared.events.Fluent.{Fluent}
use Rattle.gt_base.proofs.OrderLaws.{event_cmp-IsAntisymmetric, fluent_cmp-IsAntisymmetric}
use Rattle.gt_base.proofs.SetSteps.{event_cmp_total, fluent_cmp_total}
use Rattle.gtrbac_model.specs.Conflict.{won, after, turns_on, turns_off}
use Rattle.gtrbac_model.specs.Same.{same_fluent}
use Rattle.gtrbac_model.specs.Status.{differ}
use Rattle.gtrbac_model.proofs.Elements.{split, any_intro, equal_by, tied, elem_of_has}

-- one event more that may have changed its fluent
pub noted_more : (before status : Fluent → Bool) (es : List Event) (i at : ℕ) (old now new : Fluent → ℕ) (d0 : Event) → i < length es → (changed is_on was_on : Bool)
    → changed ≡ differ is_on was_on → is_on ≡ status (get_or es i d0).fluent → was_on ≡ before (get_or es i d0).fluent
    → ((f : Fluent) → now f ≡ cond (differ (status f) (before f) && list_any (λ e. same_fluent e.fluent f) (take i es)) at (old f))
    → ((f : Fluent) → new f ≡ cond (changed && same_fluent (get_or es i d0).fluent f) at (now f))
    → (f : Fluent) → new f ≡ cond (differ (status f) (before f) && list_any (λ e. same_fluent e.fluent f) (take (i + 1) es)) at (old f)
noted_more before status es i at old now new d0 lt changed is_on was_on is on was so_far step f =
    step f
    ∙ (λ j. cond ((is ∙ (λ k. differ (on k) (was k))) j && same_fluent d.fluent f) at (so_far f j))
    ∙ by (differ (status d.fluent) (before d.fluent)) (same_fluent d.fluent f) refl (differ (status f) (before f)) (list_any (λ e. same_fluent e.fluent f) (take i es))
    (λ same.
    let g : d.fluent ≡ f = equal_by fluent_cmp_total fluent_cmp-IsAntisymmetric d.fluent f same in
    ap (λ h. differ (status h) (before h)) g)
    ∙ ap (λ c. cond (differ (status f) (before f) && c) at (old f)) (sym (list_any_more (λ e. same_fluent e.fluent f) es i d0 lt))
  where
    d : Event
    d = get_or es i d0

    by : (c s : Bool) → s ≡ same_fluent d.fluent f → (df any : Bool) → (same_fluent d.fluent f ≡ true → c ≡ df) → cond (c && s) at (cond (df && any) at (old f)) ≡ cond (df && (any || s)) at (old f)
    by c false e true true same = second c
      where
        second : (c : Bool) → cond (c && false) at at ≡ at
        second true = refl
        second false = refl
    by c false e true false same = second c
      where
        second : (c : Bool) → cond (c && false) at (old f) ≡ old f
        second true = refl
        second false = refl
    by c false e false any same = second c
      where
        second : (c : Bool) → cond (c && false) at (old f) ≡ old f
        second true = refl
        second false = refl
    by true true e true true same = refl
    by true true e true false same = refl
    by true true e false any same = cc (same (sym e))
    by false true e true any same = cc (same (sym e))
    by false true e false any same = refl

-- a fluent changes only where an event of it was won
pub changed_won : (x : HappenedView) (s : Events) (before status : Fluent → Bool) (f : Fluent) → ((e : Event) → has s e ≡ won x e) → status f ≡ after x before f
    → (differ (status f) (before f) && list_any (λ e. same_fluent e.fluent f) (members s)) ≡ differ (status f) (before f)
changed_won x s before status f wins is =
    ap (λ b. differ b (before f) && list_any (λ e. same_fluent e.fluent f) (members s)) is
    ∙ split (won x (turns_on f))
    (λ on. ap (λ b. differ (after x before f) (before f) && b) (listed (turns_on f) refl on) ∙ and_right (differ (after x before f) (before f)))
    (λ off_on.
    split (won x (turns_off f))
    (λ off. ap (λ b. differ (after x before f) (before f) && b) (listed (turns_off f) refl off) ∙ and_right (differ (after x before f) (before f)))
    (λ off_off.
    let stays : differ (after x before f) (before f) ≡ false = (λ i. differ (cond (off_on i) true (cond (off_off i) false (before f))) (before f)) ∙ itself (before f) in
    ap (λ b. b && list_any (λ e. same_fluent e.fluent f) (members s)) stays ∙ sym stays))
    ∙ ap (λ b. differ b (before f)) (sym is)
  where
    listed : (e : Event) → e.fluent ≡ f → won x e ≡ true → list_any (λ e. same_fluent e.fluent f) (members s) ≡ true
    listed e same wins_e =
        any_intro (λ (e : Event). same_fluent e.fluent f) (members s) e (elem_of_has event_cmp_total event_cmp-IsAntisymmetric s e (wins e ∙ wins_e))
        (tied fluent_cmp_total fluent_cmp-IsAntisymmetric e.fluent f same)

    and_right : (b : Bool) → (b && true) ≡ b
    and_right true = refl
    and_right false = refl

    itself : (b : Bool) → differ b b ≡ false
    itself true = refl
    itself false = refl
