-- Lists of signals as sets, and when they stand in a base.
use Rattle.std.proofs.Common.{◌≡◌, ℕ, ◌+◌, ◌≤◌, Bool, true, false, ◌||◌, nat_eq, List, [], ◌∷◌, ◌++◌, Option, Some, None, refl, sym, ◌∙◌, ap, arith, if◌then◌else◌}
use Rattle.std.specs.Prelude.{◌↔◌, IsNone, IfSome}
use Rattle.std.specs.List.{list_any}
use Rattle.std.specs.Ordering.{eq_by_cmp}
use Rattle.std.proofs.lemmas.Bool.{eq-eqb, ne_eqb}
use Rattle.gt_base.specs.Orders.{signal_cmp}
use Rattle.gt_base.specs.Sets.{has, members, none, set_of, with_member}
use Rattle.gt_base.specs.declared.events.Signal.{Signal}
use Rattle.gt_base.proofs.OrderLaws.{signal_cmp-IsAntisymmetric}
use Rattle.gt_base.proofs.SetLaws.{same_sets, has-members, has-set_of, has-with_member, members-none}
use Rattle.gt_base.proofs.SetSteps.{signal_cmp_total}
use Rattle.gt_base.specs.declared.limits.TheConstants.{LAST_MINUTE}
use Rattle.gtrbac_model.specs.History.{is_some_item}
use Rattle.gtrbac_model.proofs.Elements.{tied, left_true}
use Rattle.instant_bases.specs.Nexts.{IsNextOf}
use Rattle.instant_bases.specs.Timelines.{Signals, signals_for}
use Rattle.time_engine.proofs.Booleans.{any-append}

or_swap : (a b : Bool) → (a || (b || false)) ≡ (b || a)
or_swap true true = refl
or_swap true false = refl
or_swap false true = refl
or_swap false false = refl

-- one signal more
pub set_of_more : (xs : List Signal) (x : Signal) → set_of {R = signal_cmp} (xs ++ x ∷ []) ≡ with_member (set_of xs) x
set_of_more xs x =
    same_sets signal_cmp_total signal_cmp-IsAntisymmetric _ _
    (λ y. has-set_of signal_cmp_total (xs ++ x ∷ []) y ∙ any-append (eq_by_cmp signal_cmp y) xs (x ∷ []) ∙ or_swap (list_any (eq_by_cmp signal_cmp y) xs) (eq_by_cmp signal_cmp y x)
    ∙ sym (has-with_member signal_cmp_total (set_of xs) x y ∙ ap (λ b. eq_by_cmp signal_cmp y x || b) (has-set_of signal_cmp_total xs y)))

-- a list has what its set's members have
pub listed : (xs : List Signal) (s : Signals) → set_of xs ≡ s → (x : Signal) → list_any (eq_by_cmp signal_cmp x) xs ≡ list_any (eq_by_cmp signal_cmp x) (members s)
listed xs s e x = sym (has-set_of signal_cmp_total xs x) ∙ ap (λ (u : Signals). has u x) e ∙ has-members s x

pub some_any : {A : Type 0} (p : A → Bool) (ys : List A) → list_any p ys ≡ true → is_some_item ys ≡ true
some_any p [] e = e
some_any p (y ∷ ys) e = refl

-- and has one where they do
pub some_listed : (xs : List Signal) (s : Signals) → set_of xs ≡ s → is_some_item xs ≡ is_some_item (members s)
some_listed [] s e = sym (ap is_some_item (members-none signal_cmp)) ∙ ap (λ (u : Signals). is_some_item (members u)) e
some_listed (x ∷ xs) s e =
    sym (some_any (eq_by_cmp signal_cmp x) (members s)
    (sym (listed (x ∷ xs) s e x) ∙ left_true (eq_by_cmp signal_cmp x x) _ (tied signal_cmp_total signal_cmp-IsAntisymmetric x x refl)))

-- signals stand in the base of the next minute
pub for_next : (now t : ℕ) (s : Signals) → t ≡ now + 1 → signals_for now s t ≡ members s
for_next now t s e = λ i. if eq-eqb t (now + 1) e i then members s else []

-- and in no other
pub for_other : (now t : ℕ) (s : Signals) → (t ≡ now + 1 → ⊥) → signals_for now s t ≡ []
for_other now t s ne = λ i. if ne_eqb t (now + 1) ne i then members s else []

-- so the next minute is the next instant where there is one
pub signals_next : (now : ℕ) (s : Signals) (r : Option ℕ) → is_some_item (members s) ≡ true → IfSome r (λ u. u ≡ now + 1) → (IsNone r ↔ (LAST_MINUTE ≤ now))
    → IsNextOf (λ t. is_some_item (signals_for now s t)) now r
signals_next now s None some at ends = λ u low high. absurd (omega (arith, ends.0 refl, low, high))
signals_next now s (Some t) some at ends = record {
  later = omega (arith, at);
  passes = ap is_some_item (for_next now t s at) ∙ some;
  least = λ u low high. absurd (omega (arith, at, low, high));
}

-- and where no signal waits there is none
pub none_next : (now : ℕ) (s : Signals) (u : ℕ) → is_some_item (members s) ≡ false → is_some_item (signals_for now s u) ≡ false
none_next now s u none = by (nat_eq u (now + 1))
  where
    by : (b : Bool) → ◌≡◌ {A = Bool} (is_some_item {A = Signal} (if b then members s else [])) false
    by true = none
    by false = refl
