-- What is due when, in a list of pairs.
use Rattle.std.proofs.Common.{◌≡◌, ℕ, zero, suc, ◌+◌, ◌-◌, ◌<◌, ◌≤◌, Bool, true, false, cond, ◌&&◌, ◌||◌, not, T, List, [], ◌∷◌, length, filter, get_or, refl, sym, ◌∙◌, ap, subst, arith, length-append}
use Rattle.std.specs.List.{list_any}
use Rattle.std.specs.Prelude.{slice_get, Option, Some, None, IsSome, ◌++◌}
use Rattle.std.specs.Option.{option_to_list}
use Rattle.std.proofs.lemmas.Bool.{eqb-false}
use Rattle.std.proofs.lemmas.List.{get_or_push}
use Rattle.std.proofs.lemmas.List.Folds.{list_any_at}
use Rattle.std.proofs.lemmas.Option.{slice_get_within, get_or_from_slice_get, slice_get-get_or}
use Rattle.std.specs.Cmp.{ranks, unsigned_ties, both_tied, tied_itself, Equal-is}
use Rattle.std.specs.Ordering.{nat_cmp, ordering_then, eq_by_cmp, is_eq, is_lt, MatchOrdering}
use Rattle.std.specs.declared.cmp.Ordering.{Ordering}
use Rattle.std.specs.declared.cmp.Ordering.TheVariants.{Less, Equal, Greater}
use Rattle.std.specs.FinMap.Entries.{below_all}
use Rattle.gt_base.specs.declared.events.Prioritised.{Prioritised}
use Rattle.gt_base.specs.Orders.{prioritised_cmp}
use Rattle.gt_base.specs.Sets.{SetOf, pairs, has, with_member, Rises}
use Rattle.gt_base.proofs.Rising.{left_of, right_of}
use Rattle.gt_base.proofs.SetLaws.{has-with_member}
use Rattle.gt_base.proofs.SetSteps.{prioritised_cmp_total}
use Rattle.delay_agenda.specs.declared.pairs.Pending.{Pending}
use Rattle.delay_agenda.specs.Due.{pending_cmp, pending_at, is_due_at, IsLeastDue, Pendings}
use Rattle.delay_agenda.specs.Rows.{due_in, lists_event, stands_in}
use Rattle.delay_agenda.proofs.PendingLaws.{pending_cmp_total, pending_cmp-IsAntisymmetric}

-- who stands before another is not due before it
not_before : (x y : Pending) → T (is_lt (pending_cmp x y)) → y.due ≤ x.due
not_before x y = by (nat_cmp y.due x.due) (ranks y.due x.due)
  where
    by : (r : Ordering) → MatchOrdering r (y.due < x.due) (y.due ≡ x.due) (x.due < y.due) → T (is_lt (ordering_then r (prioritised_cmp x.event y.event))) → y.due ≤ x.due
    by Less h _ = omega (arith, h)
    by Equal h _ = omega (arith, h)
    by Greater h l = absurd l

below_all_due : (x : Pending) (ks : List Pending) → T (below_all pending_cmp x (pairs ks)) → (i : ℕ) (d : Pending) → i < length ks → (get_or ks i d).due ≤ x.due
below_all_due x [] h i d lt = absurd (omega (arith, lt))
below_all_due x (y ∷ ys) h zero d lt = not_before x y (left_of (is_lt (pending_cmp x y)) _ h)
below_all_due x (y ∷ ys) h (suc i) d lt = below_all_due x ys (right_of (is_lt (pending_cmp x y)) _ h) i d (omega (arith, lt))

-- along a row the instants do not rise
pub dues_fall : (ks : List Pending) → Rises pending_cmp ks → (i j : ℕ) (d : Pending) → i ≤ j → j < length ks → (get_or ks j d).due ≤ (get_or ks i d).due
dues_fall [] h i j d le lt = absurd (omega (arith, lt))
dues_fall (x ∷ xs) h zero zero d le lt = omega arith
dues_fall (x ∷ xs) h zero (suc j) d le lt = below_all_due x xs (left_of (below_all pending_cmp x (pairs xs)) _ h) j d (omega (arith, lt))
dues_fall (x ∷ xs) h (suc i) zero d le lt = absurd (omega (arith, le))
dues_fall (x ∷ xs) h (suc i) (suc j) d le lt = dues_fall xs (right_of (below_all pending_cmp x (pairs xs)) _ h) i j d (omega (arith, le)) (omega (arith, lt))

-- a pair is the event at the instant exactly where it is due then and its event is the event
pub tied_at : (t : ℕ) (e : Prioritised) (k : Pending) → (is_due_at t k && eq_by_cmp prioritised_cmp e k.event) ≡ eq_by_cmp pending_cmp (pending_at t e) k
tied_at t e k = both_tied _ _ (nat_cmp k.due t) (prioritised_cmp e k.event) (unsigned_ties k.due t) refl

-- to look among those that pass is to look for one that passes both tests
list_any_both : (p q : Pending → Bool) (ks : List Pending) → list_any q (filter p ks) ≡ list_any (λ k. p k && q k) ks
list_any_both p q [] = refl
list_any_both p q (k ∷ ks) =
    elim (p k) as (λ b. list_any q (cond b (k ∷ filter p ks) (filter p ks)) ≡ ((b && q k) || list_any (λ x. p x && q x) ks)) [
      | true ↦ ap (λ b. q k || b) (list_any_both p q ks)
      | false ↦ list_any_both p q ks
    ]

-- an event is due at the instant where its pair stands
pub stands_due : (t : ℕ) (e : Prioritised) (ks : List Pending) → stands_in ks (pending_at t e) ≡ lists_event (due_in ks t) e
stands_due t e ks = sym (list_any_both (is_due_at t) (λ p. eq_by_cmp prioritised_cmp e p.event) ks ∙ ap (λ test. list_any test ks) (λ i k. tied_at t e k i))

-- one event is told, and others are left
pub told_more : (s u : SetOf prioritised_cmp) (p : Pending) (left ks : List Pending) (e : Prioritised) (b : Bool) → left ≡ p ∷ ks → u ≡ with_member s p.event
    → (has s e || lists_event left e) ≡ b → (has u e || lists_event ks e) ≡ b
told_more s u p left ks e b next is so_far =
    ap (λ v. has v e || lists_event ks e) is ∙ ap (λ c. c || lists_event ks e) (has-with_member prioritised_cmp_total s p.event e)
    ∙ around (eq_by_cmp prioritised_cmp e p.event) (has s e) (lists_event ks e) ∙ ap (λ l. has s e || lists_event l e) (sym next) ∙ so_far
  where
    around : (a h l : Bool) → ((a || h) || l) ≡ (h || (a || l))
    around true true l = refl
    around true false l = refl
    around false h l = refl

-- no pair of the list is due before n where none that is read there is
none_before : (ks : List Pending) (n : ℕ) → ((i : ℕ) (d : Pending) → i < length ks → n ≤ (get_or ks i d).due) → (q : Pending) → stands_in ks q ≡ true → n ≤ q.due
none_before [] n h q e = cc
none_before (x ∷ xs) n h q e =
    elim (eq_by_cmp pending_cmp q x) as (λ b. eq_by_cmp pending_cmp q x ≡ b → (b || stands_in xs q) ≡ true → n ≤ q.due) [
      | true ↦ λ tie _. subst (λ y. n ≤ y.due) (sym (pending_cmp-IsAntisymmetric q x ((Equal-is (pending_cmp q x)).0 tie))) (h 0 x (omega arith))
      | false ↦ λ _ e. none_before xs n (λ i d lt. h (suc i) d (omega (arith, lt))) q e
    ] refl e

-- what stands last is due next
pub last_is_least : (ks : List Pending) (p : Pending) → Rises pending_cmp ks → slice_get ks (length ks - 1) ≡ Some p
    → (stands_in ks p ≡ true) × ((q : Pending) → stands_in ks q ≡ true → p.due ≤ q.due)
last_is_least ks p h e =
    let lt : length ks - 1 < length ks = slice_get_within ks _ p e in
    let is : (d : Pending) → get_or ks (length ks - 1) d ≡ p = λ d. get_or_from_slice_get ks _ p d e in (
      list_any_at (eq_by_cmp pending_cmp p) ks (length ks - 1) p lt (ap (eq_by_cmp pending_cmp p) (is p) ∙ ap is_eq (tied_itself pending_cmp_total p)),
      none_before ks p.due (λ i d below. subst (λ x. x.due ≤ (get_or ks i d).due) (is d) (dues_fall ks h i (length ks - 1) d (omega (arith, below)) lt)),
    )

pub and_left : (a b : Bool) → (a && b) ≡ true → a ≡ true
and_left true b e = refl
and_left false b e = e

and_right : (a b : Bool) → (a && b) ≡ true → b ≡ true
and_right true b e = e
and_right false b e = cc

not_true : (a : Bool) → not a ≡ true → a ≡ false
not_true true e = cc
not_true false e = refl

-- a set has one least due
pub one_least : (s : Pendings) (t u : ℕ) → IsLeastDue s t → IsLeastDue s u → t ≡ u
one_least s t u f g = omega (arith, f.least (pending_at u g.event) g.is_due, g.least (pending_at t f.event) f.is_due)

-- what stays after the least due is due later
pub later_stay : (s : Pendings) (t : ℕ) (p : Pending) → IsLeastDue s t → (has s p && not (is_due_at t p)) ≡ true → t < p.due
later_stay s t p f e =
    let ne : p.due ≡ t → ⊥ = eqb-false p.due t (not_true _ (and_right (has s p) _ e)) in
    let le : t ≤ p.due = f.least p (and_left (has s p) _ e) in
    omega (arith, ne, le)

-- ---- the ends of a list
pub no_last : (ks : List Pending) → None ≡ slice_get ks (length ks - 1) → ks ≡ []
no_last [] e = refl
no_last (x ∷ xs) e = let there = slice_get-get_or (x ∷ xs) (length (x ∷ xs) - 1) x (omega arith) in cc

pub some_last : (ks : List Pending) (p : Pending) → slice_get ks (length ks - 1) ≡ Some p → 1 ≤ length ks
some_last ks p e = let lt = slice_get_within ks _ p e in omega (arith, lt)

-- what is popped is what stood last
pub popped : (ks rest : List Pending) (o : Option Pending) (p : Pending) → ks ≡ rest ++ option_to_list o → Some p ≡ slice_get ks (length ks - 1) → (0 < length ks → IsSome o) → ks ≡ rest ++ p ∷ []
popped ks rest (Some k) p e there some =
    let long : length ks ≡ length rest + 1 = ap length e ∙ length-append rest (k ∷ []) in
    let at : get_or ks (length ks - 1) k ≡ p = get_or_from_slice_get ks _ p k (sym there) in
    let is : k ≡ p = sym (get_or_push rest k k (length ks - 1) (omega (arith, long))) ∙ ap (λ xs. get_or xs (length ks - 1) k) (sym e) ∙ at in
    e ∙ ap (λ x. rest ++ x ∷ []) is
popped ks rest None p e there some = let lt = slice_get_within ks _ p (sym there) in let is = some (omega (arith, lt)) in cc
