-- A certificate of a history is its execution model.
use Rattle.std.proofs.Common.{◌≡◌, ℕ, ◌-◌, ◌<◌, ◌≤◌, true, false, ◌||◌, List, [], ◌∷◌, Option, Some, None, IsTrue, inl, inr, refl, sym, ◌∙◌, ap, subst, arith}
use Rattle.std.specs.Prelude.{All}
use Rattle.gt_base.specs.Held.{TriggerView}
use Rattle.gt_base.specs.Happening.{HappenedView, nothing}
use Rattle.gt_base.specs.Orders.{prioritised_cmp, signal_cmp}
use Rattle.gt_base.specs.Sets.{has, none, set_of, with_member}
use Rattle.gt_base.specs.declared.events.Prioritised.{Prioritised}
use Rattle.gt_base.specs.declared.events.Signal.{Signal}
use Rattle.gt_base.specs.declared.requests.Entry.{Entry}
use Rattle.gt_base.proofs.OrderLaws.{prioritised_cmp-IsAntisymmetric, signal_cmp-IsAntisymmetric}
use Rattle.gt_base.proofs.SetLaws.{has-none, has-with_member}
use Rattle.gt_base.proofs.SetSteps.{prioritised_cmp_total, signal_cmp_total}
use Rattle.gtrbac_model.specs.Policy.{Policy}
use Rattle.gtrbac_model.specs.Conflict.{Status, blocked}
use Rattle.gtrbac_model.specs.Base.{status, base_at}
use Rattle.gtrbac_model.specs.History.{IsExecutionModel, is_some_item, now_of}
use Rattle.gtrbac_model.specs.Instant.{Settled}
use Rattle.gtrbac_model.specs.Safety.{IsSafe}
use Rattle.gtrbac_model.specs.Status.{Model}
use Rattle.gtrbac_model.specs.WholePolicy.{IsPolicy}
use Rattle.gtrbac_model.proofs.Elements.{tied, either_true}
use Rattle.gtrbac_model.proofs.Levels.{by_trigger}
use Rattle.gtrbac_model.proofs.OneModel.{Agree, only_model, base_same, status_same}
use Rattle.gtrbac_model.proofs.Quiet as quiet
use Rattle.gtrbac_model.proofs.Uniqueness.{settles_to_one}
use Rattle.walk_laws.proofs.Climbing.{safe_is_levelled}
use Rattle.history_laws.proofs.Quieting.{settles_nothing}
use Rattle.why_check.specs.Certificates.{Listed, set_in, set_at, says_something, listed_at, model_in, ListedAscend, IsShown, IsRight, Accepts}
use Rattle.why_check.specs.Laws.{AcceptedIsModel, AcceptedIsTheModel, AcceptedTells}

shown_settled : (rules : List TriggerView) (base : HappenedView) (s : Status) (l : Listed) → IsShown rules base s l → Settled rules base s (set_in l)
shown_settled rules base s l is = record { is_closed = is.is_closed; order = l.events; grounding = record { lists = refl; grounds = is.order }; signals = is.signals }

right_settled : (p : Policy) → IsPolicy p → (base : HappenedView) (s : Status) (o : Option Listed) → IsRight p.triggers base s o → Settled p.triggers base s (set_at o)
right_settled p is base s None right = subst (λ b. Settled p.triggers b s nothing) (sym right) (quiet.quiet_settles p.triggers s is.causes)
right_settled p is base s (Some l) right = shown_settled p.triggers base s l right

pub accepted_is_model : AcceptedIsModel
accepted_is_model p is birth h cert ok t a b = right_settled p is _ _ (listed_at cert t) (ok.minutes t a b)

pub accepted_is_the_model : AcceptedIsTheModel
accepted_is_the_model p is safe birth h cert m ok of_m =
    let levels = safe_is_levelled p.triggers safe in
    only_model p birth h m levels.0 (by_trigger p.triggers levels.0 levels.1) of_m (model_in cert) (accepted_is_model p is birth h cert ok)

pub accepted_tells : AcceptedTells
accepted_tells p is safe birth h cert m ok of_m t a b l at e =
    let same : set_in l ≡ m t = ap set_at (sym at) ∙ accepted_is_the_model p is safe birth h cert m ok of_m t a b in
    record {
      there = λ k. ap (λ (x : HappenedView). has x.events e) (sym same) ∙ k;
      blocked_there = λ k. ap (λ (x : HappenedView). blocked x e) (sym same) ∙ k;
    }

-- a list with an item is no empty set
some_event : (es : List Prioritised) → is_some_item es ≡ true → set_of {R = prioritised_cmp} es ≡ none → ⊥
some_event [] some is = cc
some_event (e ∷ es) some is =
    let there : has (with_member (set_of {R = prioritised_cmp} es) e) e ≡ true = has-with_member prioritised_cmp_total (set_of es) e e ∙ ap (λ b. b || has (set_of {R = prioritised_cmp} es) e) (tied prioritised_cmp_total prioritised_cmp-IsAntisymmetric e e refl) in
    let away : has (with_member (set_of {R = prioritised_cmp} es) e) e ≡ false = ap (λ s. has s e) is ∙ has-none prioritised_cmp e in
    cc

some_signal : (xs : List Signal) → is_some_item xs ≡ true → set_of {R = signal_cmp} xs ≡ none → ⊥
some_signal [] some is = cc
some_signal (x ∷ xs) some is =
    let there : has (with_member (set_of {R = signal_cmp} xs) x) x ≡ true = has-with_member signal_cmp_total (set_of xs) x x ∙ ap (λ b. b || has (set_of {R = signal_cmp} xs) x) (tied signal_cmp_total signal_cmp-IsAntisymmetric x x refl) in
    let away : has (with_member (set_of {R = signal_cmp} xs) x) x ≡ false = ap (λ s. has s x) is ∙ has-none signal_cmp x in
    cc

-- over an empty base nothing is shown
pub shown_over_nothing : (p : Policy) → IsPolicy p → (base : HappenedView) (s : Status) (l : Listed) → base ≡ nothing → says_something l ≡ true → IsShown p.triggers base s l → ⊥
shown_over_nothing p is base s l empty says shown =
    let settled : Settled p.triggers nothing s (set_in l) = subst (λ b. Settled p.triggers b s (set_in l)) empty (shown_settled p.triggers base s l shown) in
    let same : set_in l ≡ nothing = (settles_nothing p.triggers is.causes s).only (set_in l) settled in
    elim (either_true (is_some_item l.events) (is_some_item l.signals) says) [
      | inl e ↦ some_event l.events e (ap (λ (x : HappenedView). x.events) same)
      | inr e ↦ some_signal l.signals e (ap (λ (x : HappenedView). x.signals) same)
    ]

module _ (p : Policy) (is : IsPolicy p) (safe : IsSafe p.triggers) (birth : ℕ) (h : List Entry) (m : Model) (of_m : IsExecutionModel p birth h m) where
  -- the minute is right where the sets before it are those of the model
  abbrev pub RightAt : ℕ → Option Listed → Type 0
  RightAt t o = IsRight p.triggers (base_at p birth m h t) (status p birth m (t - 1)) o

  abbrev pub AllRight : ℕ → List Listed → Type 0
  AllRight now cert = (t : ℕ) → birth < t → t ≤ now → RightAt t (listed_at cert t)

  -- what is right at a minute is the model's set
  pub right_is : (t : ℕ) → birth < t → t ≤ now_of birth h → (o : Option Listed) → RightAt t o → set_at o ≡ m t
  right_is t a b o right =
      let levels = safe_is_levelled p.triggers safe in
      settles_to_one p.triggers (base_at p birth m h t) (status p birth m (t - 1)) levels.0 (by_trigger p.triggers levels.0 levels.1) (set_at o) (m t)
      (right_settled p is (base_at p birth m h t) (status p birth m (t - 1)) o right) (of_m t a b)

  pub accepts_of : (cert : List Listed) → ListedAscend birth (now_of birth h) cert → All (λ l. IsTrue (says_something l)) cert → AllRight (now_of birth h) cert → Accepts p birth h cert
  accepts_of cert ascends some right = record {
    ascends = ascends;
    some = some;
    minutes = λ t a b.
        let agree : Agree p birth m (model_in cert) (t - 1) = λ u c d. sym (right_is u c (omega (arith, b, d)) (listed_at cert u) (right u c (omega (arith, b, d)))) in
        subst (λ k. IsRight p.triggers k (status p birth (model_in cert) (t - 1)) (listed_at cert t)) (base_same p birth m (model_in cert) t h agree)
        (subst (λ s. IsRight p.triggers (base_at p birth m h t) s (listed_at cert t)) (status_same p birth m (model_in cert) (t - 1) (t - 1) agree (omega arith))
        (right t a b));
  }

  pub right_of : (cert : List Listed) → Accepts p birth h cert → AllRight (now_of birth h) cert
  right_of cert ok t a b =
      let agree : Agree p birth (model_in cert) m (t - 1) = λ u c d. accepted_is_the_model p is safe birth h cert m ok of_m u c (omega (arith, b, d)) in
      subst (λ k. IsRight p.triggers k (status p birth m (t - 1)) (listed_at cert t)) (base_same p birth (model_in cert) m t h agree)
      (subst (λ s. IsRight p.triggers (base_at p birth (model_in cert) h t) s (listed_at cert t)) (status_same p birth (model_in cert) m (t - 1) (t - 1) agree (omega arith))
      (ok.minutes t a b))
