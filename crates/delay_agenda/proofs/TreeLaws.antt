-- What of a tree of pairs is due at an instant.
use Rattle.std.proofs.Common.{◌≡◌, ℕ, ◌<◌, ◌≤◌, Bool, true, false, cond, ◌&&◌, ◌||◌, not, get_or, List, [], ◌∷◌, ◌++◌, filter, refl, sym, ◌∙◌, ap, arith}
use Rattle.std.proofs.lemmas.Bool.{eq-eqb, eqb-true, ne_eqb}
use Rattle.std.specs.BTreeMap.{is_at}
use Rattle.std.specs.BTreeMap.Range.{range_contains, is_past_end}
use Rattle.std.specs.Cmp.{ranks}
use Rattle.std.specs.Ordering.{eq_by_cmp, nat_cmp, ordering_then, is_le, is_lt, MatchOrdering}
use Rattle.std.specs.Set.{remove_key}
use Rattle.std.specs.declared.cmp.Ordering.{Ordering}
use Rattle.std.specs.declared.cmp.Ordering.TheVariants.{Less, Equal, Greater}
use Rattle.std.specs.declared.ops.Bound.{Bound}
use Rattle.std.specs.declared.ops.Bound.TheVariants.{Included}
use Rattle.gt_base.specs.declared.events.Prioritised.{Prioritised}
use Rattle.gt_base.specs.declared.events.Fluent.{Fluent}
use Rattle.gt_base.specs.declared.events.Fluent.TheVariants.{Enabled, Assigned, Granted, Limit, Edge}
use Rattle.gt_base.specs.Orders.{fluent_cmp, event_cmp, prioritised_cmp}
use Rattle.delay_agenda.specs.declared.pairs.Pending.{Pending}
use Rattle.delay_agenda.specs.Due.{pending_cmp, pending_at, is_due_at}
use Rattle.delay_agenda.specs.Rows.{due_in, first_event, others_in, stands_in}
use Rattle.delay_agenda.specs.Order.{pending_cmp_total}
use Rattle.gt_base.proofs.SetLaws.{eq_itself}
use Rattle.delay_agenda.proofs.RowLaws.{or_true, tied}

then_le : (r s : Ordering) → is_le r ≡ true → is_le s ≡ true → is_le (ordering_then r s) ≡ true
then_le Less s a b = refl
then_le Equal s a b = b
then_le Greater s a b = a

zero_le : (n : ℕ) → is_le (nat_cmp 0 n) ≡ true
zero_le n = by (nat_cmp 0 n) (ranks 0 n)
  where
    by : (r : Ordering) → MatchOrdering r (0 < n) (0 ≡ n) (n < 0) → is_le r ≡ true
    by Less h = refl
    by Equal h = refl
    by Greater h = absurd (omega (arith, h))

first_fluent : (f : Fluent) → is_le (fluent_cmp first_event.event.fluent f) ≡ true
first_fluent (Enabled r) = zero_le r.0
first_fluent (Assigned u r) = refl
first_fluent (Granted q r) = refl
first_fluent (Limit l) = refl
first_fluent (Edge n) = refl

first_of_all : (e : Prioritised) → is_le (prioritised_cmp first_event e) ≡ true
first_of_all e = then_le (nat_cmp 0 e.prio) (event_cmp first_event.event e.event) (zero_le e.prio) (off_first e.event.on)
  where
    off_first : (b : Bool) → is_le (event_cmp first_event.event (record { on = b; fluent = e.event.fluent })) ≡ true
    off_first true = refl
    off_first false = first_fluent e.event.fluent

-- between the first that is due at the instant and those that are due before it
module _ (t : ℕ) (end : Bound Pending) (behind : (p : Pending) → p.due < t → is_past_end pending_cmp end p ≡ true) (before : (p : Pending) → t ≤ p.due → is_past_end pending_cmp end p ≡ false) where
  within : (p : Pending) → range_contains pending_cmp (Included (pending_at t first_event)) end p ≡ is_due_at t p
  within p = by (nat_cmp p.due t) (ranks p.due t)
    where
      by : (r : Ordering) → MatchOrdering r (p.due < t) (p.due ≡ t) (t < p.due) → (is_le (ordering_then r (prioritised_cmp first_event p.event)) && not (is_past_end pending_cmp end p)) ≡ is_due_at t p
      by Less h = ap not (behind p h) ∙ sym (ne_eqb p.due t (λ e. absurd (omega (arith, h, e))))
      by Equal h =
          ap (λ b. b && not (is_past_end pending_cmp end p)) (first_of_all p.event)
          ∙ ap not (before p (omega (arith, h))) ∙ sym (eq-eqb p.due t h)
      by Greater h = sym (ne_eqb p.due t (λ e. absurd (omega (arith, h, e))))

  pub between : (ks : List Pending) → filter (range_contains pending_cmp (Included (pending_at t first_event)) end) ks ≡ due_in ks t
  between ks = ap (λ test. filter test ks) (λ i p. within p i)

-- a pair that is due is taken out
pub others_stay : (p : Pending) (t : ℕ) (ks : List Pending) → is_due_at t p ≡ true → others_in (remove_key (is_at (pending_cmp p)) ks) t ≡ others_in ks t
others_stay p t [] due = refl
others_stay p t (x ∷ xs) due =
    elim (is_at (pending_cmp p) x) as (λ b. is_at (pending_cmp p) x ≡ b → others_in (cond b xs (x ∷ remove_key (is_at (pending_cmp p)) xs)) t ≡ others_in (x ∷ xs) t) [
      | true ↦ λ tie. sym (ap (λ b. cond (not b) (x ∷ others_in xs t) (others_in xs t)) (ap (is_due_at t) (sym (tied p x tie)) ∙ due))
      | false ↦ λ _. ap (λ ks. cond (not (is_due_at t x)) (x ∷ ks) ks) (others_stay p t xs due)
    ] refl

-- where none is due, all are others
pub none_due : (t : ℕ) (ks : List Pending) → due_in ks t ≡ [] → others_in ks t ≡ ks
none_due t [] e = refl
none_due t (x ∷ xs) e =
    elim (is_due_at t x) as (λ b. cond b (x ∷ due_in xs t) (due_in xs t) ≡ [] → cond (not b) (x ∷ others_in xs t) (others_in xs t) ≡ x ∷ xs) [
      | true ↦ λ e. cc
      | false ↦ λ e. ap (λ ks. x ∷ ks) (none_due t xs e)
    ] e

-- the first that is due is one of all, and due
pub one_due : (t : ℕ) (ks : List Pending) (p : Pending) (rest : List Pending) → due_in ks t ≡ p ∷ rest → (p.due ≡ t) × (stands_in ks p ≡ true)
one_due t [] p rest e = cc
one_due t (x ∷ xs) p rest e =
    elim (is_due_at t x) as (λ b. is_due_at t x ≡ b → cond b (x ∷ due_in xs t) (due_in xs t) ≡ p ∷ rest → (p.due ≡ t) × (stands_in (x ∷ xs) p ≡ true)) [
      | true ↦ λ due e.
          let is : x ≡ p = ap (λ ks. get_or ks 0 x) e in
          (ap (λ y. y.due) (sym is) ∙ eqb-true x.due t due, ap (λ y. eq_by_cmp pending_cmp p y || stands_in xs p) is ∙ ap (λ b. b || stands_in xs p) (eq_itself pending_cmp_total p))
      | false ↦ λ _ e. let there = one_due t xs p rest e in (there.0, or_true (eq_by_cmp pending_cmp p x) _ there.1)
    ] refl e

-- none is due at an instant before one that is due next
not_later : (p x : Pending) → is_lt (pending_cmp p x) ≡ false → p.due ≤ x.due
not_later p x e = by (nat_cmp x.due p.due) (ranks x.due p.due) e
  where
    by : (r : Ordering) → MatchOrdering r (x.due < p.due) (x.due ≡ p.due) (p.due < x.due) → is_lt (ordering_then r (prioritised_cmp p.event x.event)) ≡ false → p.due ≤ x.due
    by Less h e = cc
    by Equal h e = omega (arith, h)
    by Greater h e = omega (arith, h)

pub none_reached : (t : ℕ) (p : Pending) (ks : List Pending) → t < p.due → ((q : Pending) → stands_in ks q ≡ true → is_lt (pending_cmp p q) ≡ false) → due_in ks t ≡ []
none_reached t p [] lt last = refl
none_reached t p (x ∷ xs) lt last =
    let le : p.due ≤ x.due = not_later p x (last x (ap (λ b. b || stands_in xs x) (eq_itself pending_cmp_total x))) in
    ap (λ b. cond b (x ∷ due_in xs t) (due_in xs t)) (ne_eqb x.due t (λ e. absurd (omega (arith, lt, le, e))))
    ∙ none_reached t p xs lt (λ q there. last q (or_true (eq_by_cmp pending_cmp q x) _ there))

-- the last is taken out, which is due
pub last_goes : (t : ℕ) (ks : List Pending) (p : Pending) → p.due ≡ t → others_in (ks ++ p ∷ []) t ≡ others_in ks t
last_goes t [] p due = ap (λ b. cond (not b) (p ∷ []) []) (eq-eqb p.due t due)
last_goes t (x ∷ xs) p due = ap (λ ks. cond (not (is_due_at t x)) (x ∷ ks) ks) (last_goes t xs p due)
