-- The greatest priority of an event in a set, and who is blocked by it.
use Rattle.std.proofs.Common.{◌≡◌, ℕ, zero, suc, ◌+◌, ◌-◌, ◌<◌, ◌≤◌, Bool, true, false, cond, not, ◌&&◌, T, ◌⊎◌, inl, inr, List, [], ◌∷◌, map, length, get_or, slice_get, Option, Some, None, refl, sym, ◌∙◌, ap, subst, arith}
use Rattle.std.proofs.lemmas.Bool.Decides.{nat_tests}
use Rattle.std.proofs.lemmas.Bool.{cases_lt, false≢true}
use Rattle.std.proofs.lemmas.Option.{slice_get_within, slice_get-get_or, get_or_from_slice_get}
use Rattle.std.proofs.lemmas.List.Folds.{list_any_at}
use Rattle.std.specs.Cmp.{ranks, both_ways, tied_itself}
use Rattle.std.specs.FinMap.Entries.{below_all, is_sorted}
use Rattle.std.specs.List.{AllWithin, HoldsAt}
use Rattle.std.specs.List.Sorted.{IsBinarySearchResult}
use Rattle.std.specs.Ordering.{nat_cmp, ordering_then, eq_by_cmp, is_eq, MatchOrdering}
use Rattle.std.specs.Prelude.{Err, min}
use Rattle.std.specs.declared.cmp.Ordering.{Ordering}
use Rattle.std.specs.declared.cmp.Ordering.TheVariants.{Less, Equal, Greater}
use Rattle.gt_base.specs.declared.events.Event.{Event}
use Rattle.gt_base.specs.declared.events.Prioritised.{Prioritised}
use Rattle.gt_base.specs.declared.requests.Seen.TheVariants.{Unblocked, Blocked, Absent}
use Rattle.gt_base.specs.declared.limits.TheConstants.{MAX_PRIO}
use Rattle.gt_base.specs.Events.{converse}
use Rattle.gt_base.specs.Happening.{HappenedView}
use Rattle.gt_base.specs.Orders.{event_cmp, prioritised_cmp}
use Rattle.gt_base.specs.Sets.{SetOf, has, members, pairs, Rises}
use Rattle.gt_base.proofs.Rising.{answers_rise, below_at, left_of, right_of, turned}
use Rattle.gt_base.proofs.SetLaws.{has-members}
use Rattle.gt_base.proofs.SetSteps.{prioritised_cmp_total}
use Rattle.gtrbac_model.specs.Conflict.{beats, blocked, greatest_below, seen, stands_at, won_at}
use Rattle.gtrbac_model.specs.Same.{same_event}
use Rattle.gtrbac_model.proofs.Elements.{Elem, and_true, any_elim, any_intro, both_true, split}
use Rattle.gtrbac_model.proofs.Uniqueness.{elem, of_elem, is_same_event, same_event_of}
use Rattle.priority_conflict.specs.Winning.{IsStrongest, StandsTop}

-- who stands before another has no greater priority
not_above : (x y : Prioritised) → prioritised_cmp x y ≡ Less → x.prio ≤ y.prio
not_above x y = by (nat_cmp x.prio y.prio) (ranks x.prio y.prio)
  where
    by : (r : Ordering) → MatchOrdering r (x.prio < y.prio) (x.prio ≡ y.prio) (y.prio < x.prio) → ordering_then r (event_cmp x.event y.event) ≡ Less → x.prio ≤ y.prio
    by Less h _ = omega (arith, h)
    by Equal h _ = omega (arith, h)
    by Greater h l = cc

none_of : (xs : List Prioritised) (o : Prioritised) → length xs ≡ 0 → Elem xs o → ⊥
none_of [] o e m = m
none_of (x ∷ xs) o e m = absurd (omega (arith, e))

-- along a row the priorities rise, so that the last has the greatest
last_top : (ks : List Prioritised) → Rises prioritised_cmp ks → (n : ℕ) (d : Prioritised) → length ks ≡ n + 1 → (o : Prioritised) → Elem ks o → o.prio ≤ (get_or ks n d).prio
last_top [] h n d e o m = absurd m
last_top (x ∷ xs) h zero d e o (inl q) = let is : o.prio ≡ x.prio = ap (λ z. z.prio) q in omega (arith, is)
last_top (x ∷ xs) h zero d e o (inr m) = absurd (none_of xs o (omega (arith, e)) m)
last_top (x ∷ xs) h (suc n) d e o (inl q) =
    let is : o.prio ≡ x.prio = ap (λ z. z.prio) q in
    let below : x.prio ≤ (get_or xs n d).prio =
    not_above x (get_or xs n d) (below_at prioritised_cmp_total x xs (left_of (below_all prioritised_cmp x (pairs xs)) _ h) n d (omega (arith, e))) in
    omega (arith, is, below)
last_top (x ∷ xs) h (suc n) d e o (inr m) = last_top xs (right_of (below_all prioritised_cmp x (pairs xs)) _ h) n d (omega (arith, e)) o m

keys_paired : (es : List (Prioritised × Unit {0})) → es ≡ pairs (map (λ e. e.0) es)
keys_paired [] = refl
keys_paired (e ∷ es) = ap (λ xs. e ∷ xs) (keys_paired es)

members_rise : (s : SetOf prioritised_cmp) → Rises prioritised_cmp (members s)
unfolding members
members_rise s = subst (λ es. T (is_sorted prioritised_cmp es)) (keys_paired s.entries) s.ascending

-- no event of the set has a greater priority than its last
pub under_last : (x : HappenedView) (last : Prioritised) → slice_get (members x.events) (length (members x.events) - 1) ≡ Some last → (o : Prioritised) → has x.events o ≡ true → o.prio ≤ last.prio
under_last x last e o h =
    let lt : length (members x.events) - 1 < length (members x.events) = slice_get_within (members x.events) _ last e in
    let is : get_or (members x.events) (length (members x.events) - 1) last ≡ last = get_or_from_slice_get (members x.events) _ last last e in
    subst (λ z. o.prio ≤ z.prio) is
    (last_top (members x.events) (members_rise x.events) (length (members x.events) - 1) last (omega (arith, lt)) o (elem x o h))

-- a number that passes is below one that doesn't, where it is no greater
still : (p : ℕ → Bool) (n k : ℕ) → k < n + 1 → p k ≡ true → p n ≡ false → k < n
still p n k lt h f =
    elim (cases_lt k n) [
      | inl less ↦ less
      | inr ge ↦ let is : k ≡ n = omega (arith, lt, ge) in absurd (false≢true (sym f ∙ ap p (sym is) ∙ h))
    ]

-- what is found below a number, and what is not
module _ (p : ℕ → Bool) where
  pub found_below : (n q : ℕ) → greatest_below p n ≡ Some q → p q ≡ true
  found_below zero q e = cc
  found_below (suc n) q e =
      elim (p n) as (λ b. p n ≡ b → cond b (Some n) (greatest_below p n) ≡ Some q → p q ≡ true) [
        | true ↦ λ t e. let is : n ≡ q = cc in ap p (sym is) ∙ t
        | false ↦ λ t e. found_below n q e
      ] refl e

  pub no_greater : (n q k : ℕ) → greatest_below p n ≡ Some q → k < n → p k ≡ true → k ≤ q
  no_greater zero q k e lt h = absurd (omega (arith, lt))
  no_greater (suc n) q k e lt h =
      elim (p n) as (λ b. p n ≡ b → cond b (Some n) (greatest_below p n) ≡ Some q → k ≤ q) [
        | true ↦ λ t e. let is : n ≡ q = cc in omega (arith, lt, is)
        | false ↦ λ t e. no_greater n q k e (still p n k (omega (arith, lt)) h t) h
      ] refl e

  pub none_below : (n k : ℕ) → greatest_below p n ≡ None → k < n → p k ≡ true → ⊥
  none_below zero k e lt h = omega (arith, lt)
  none_below (suc n) k e lt h =
      elim (p n) as (λ b. p n ≡ b → cond b (Some n) (greatest_below p n) ≡ None → ⊥) [
        | true ↦ λ t e. cc
        | false ↦ λ t e. none_below n k e (still p n k (omega (arith, lt)) h t) h
      ] refl e

  pub found_under : (n q : ℕ) → greatest_below p n ≡ Some q → q < n
  found_under zero q e = cc
  found_under (suc n) q e =
      elim (p n) as (λ b. cond b (Some n) (greatest_below p n) ≡ Some q → q < suc n) [
        | true ↦ λ e. let is : n ≡ q = cc in omega (arith, is)
        | false ↦ λ e. let lt : q < n = found_under n q e in omega (arith, lt)
      ] e

  -- numbers that don't pass are passed over
  pub passed_over : (n m : ℕ) → n ≤ m → ((q : ℕ) → n ≤ q → q < m → p q ≡ false) → greatest_below p m ≡ greatest_below p n
  passed_over n zero le none = let is : 0 ≡ n = omega (arith, le) in ap (greatest_below p) is
  passed_over n (suc m) le none =
      elim (cases_lt n (suc m)) [
        | inl lt ↦ ap (λ b. cond b (Some m) (greatest_below p m)) (none m (omega (arith, lt)) (omega arith)) ∙ passed_over n m (omega (arith, lt)) (λ q low high. none q low (omega (arith, high)))
        | inr ge ↦ let is : suc m ≡ n = omega (arith, le, ge) in ap (greatest_below p) is
      ]

  -- a number that passes and is above the others that do
  pub is_greatest : (n q : ℕ) → q < n → p q ≡ true → ((k : ℕ) → k < n → p k ≡ true → k ≤ q) → greatest_below p n ≡ Some q
  is_greatest n q lt h top =
      passed_over (suc q) n (omega (arith, lt)) (λ k low high. split (p k) (λ t. absurd (let le : k ≤ q = top k high t in omega (arith, low, le))) (λ f. f))
      ∙ ap (λ b. cond b (Some q) (greatest_below p q)) h

-- what is looked up below the number after a greatest one
pub looked_up : (x : HappenedView) (e : Event) (m : ℕ) (found : Option ℕ) → ((o : Prioritised) → has x.events o ≡ true → o.prio ≤ m) → found ≡ greatest_below (stands_at x e) (m + 1) → IsStrongest (has x.events) e found
looked_up x e m None top is = λ o.
    split (stands_at x e o)
    (λ h. let le : o ≤ m = top (record { prio = o; event = e }) h in absurd (none_below (stands_at x e) (m + 1) o (sym is) (omega (arith, le)) h))
    (λ h. h)
looked_up x e m (Some q) top is = record {
  stands = found_below (stands_at x e) (m + 1) q (sym is);
  top = λ o h. let le : o ≤ m = top (record { prio = o; event = e }) h in no_greater (stands_at x e) (m + 1) q o (sym is) (omega (arith, le)) h;
}

-- nothing stands in a list without a last
is_there : (ks : List Prioritised) (o : Prioritised) → Elem ks o → 0 < length ks
is_there [] o m = absurd m
is_there (k ∷ ks) o m = omega arith

pub none_stands : (x : HappenedView) (e : Event) → slice_get (members x.events) (length (members x.events) - 1) ≡ None → IsStrongest (has x.events) e None
none_stands x e is = λ o.
    split (has x.events (record { prio = o; event = e }))
    (λ h.
    let some : 0 < length (members x.events) = is_there (members x.events) (record { prio = o; event = e }) (elem x _ h) in
    let last : ◌≡◌ {A = Option Prioritised} None (Some (get_or (members x.events) (length (members x.events) - 1) (record { prio = o; event = e }))) =
    sym is ∙ slice_get-get_or (members x.events) (length (members x.events) - 1) (record { prio = o; event = e }) (omega (arith, some)) in
    cc)
    (λ h. h)

beats_more : (on : Bool) (o q p : ℕ) → beats on o p ≡ true → o ≤ q → beats on q p ≡ true
beats_more true o q p h le = grind (arith, nat_tests)
beats_more false o q p h le = grind (arith, nat_tests)

-- who blocks an event is its converse, at some priority
blocker : (x : HappenedView) (p : Prioritised) → blocked x p ≡ true → (o : ℕ) × (has x.events (record { prio = o; event = converse p.event }) ≡ true) × (beats p.event.on o p.prio ≡ true)
blocker x p h =
    let (o, m, t) = any_elim (λ o. same_event o.event (converse p.event) && beats p.event.on o.prio p.prio) (members x.events) h in
    let both = both_true (same_event o.event (converse p.event)) _ t in
    let is : o.event ≡ converse p.event = is_same_event o.event (converse p.event) both.0 in
    (o.prio, subst (λ e. has x.events (record { prio = o.prio; event = e }) ≡ true) is (of_elem x o m), both.1)

-- the converse at its greatest priority blocks an event, if any does
pub blocked_by_top : (x : HappenedView) (p : Prioritised) (q : ℕ) → StandsTop (has x.events) (converse p.event) q → beats p.event.on q p.prio ≡ blocked x p
blocked_by_top x p q s =
    both_ways _ _
    (λ b.
    any_intro (λ o. same_event o.event (converse p.event) && beats p.event.on o.prio p.prio) (members x.events) (record { prio = q; event = converse p.event }) (elem x _ s.stands)
    (and_true (same_event (converse p.event) (converse p.event)) _ (same_event_of (converse p.event) (converse p.event) refl) b))
    (λ h. let (o, there, b) = blocker x p h in beats_more p.event.on o q p.prio b (s.top o there))

pub not_blocked : (x : HappenedView) (p : Prioritised) → IsStrongest (has x.events) (converse p.event) None → false ≡ blocked x p
not_blocked x p none =
    split (blocked x p) (λ h. let (o, there, b) = blocker x p h in absurd (false≢true (sym (none o) ∙ there))) (λ h. sym h)

all_of : (P : Prioritised → Type 0) (xs : List Prioritised) → AllWithin P xs 0 (length xs) → (o : Prioritised) → Elem xs o → P o
all_of P [] h o m = absurd m
all_of P (x ∷ xs) h o (inl q) = subst P (sym q) (h 0 x (omega arith) (omega arith))
all_of P (x ∷ xs) h o (inr m) = all_of P xs (λ j d low high. h (suc j) d (omega arith) (omega (arith, high))) o m

-- who stands in a row stands behind a place, or has no greater priority than who stands at it
behind_or_under : (P : Prioritised → Type 0) (xs : List Prioritised) (n : ℕ) (d : Prioritised) → Rises prioritised_cmp xs → n < length xs → AllWithin P xs (n + 1) (length xs) → (o : Prioritised) → Elem xs o
    → P o ⊎ (o.prio ≤ (get_or xs n d).prio)
behind_or_under P [] n d h lt behind o m = absurd m
behind_or_under P (x ∷ xs) zero d h lt behind o (inl q) = let is : o.prio ≡ x.prio = ap (λ z. z.prio) q in inr (omega (arith, is))
behind_or_under P (x ∷ xs) zero d h lt behind o (inr m) = inl (all_of P xs (λ j e low high. behind (suc j) e (omega arith) (omega (arith, high))) o m)
behind_or_under P (x ∷ xs) (suc n) d h lt behind o (inl q) =
    let is : o.prio ≡ x.prio = ap (λ z. z.prio) q in
    let below : x.prio ≤ (get_or xs n d).prio =
    not_above x (get_or xs n d) (below_at prioritised_cmp_total x xs (left_of (below_all prioritised_cmp x (pairs xs)) _ h) n d (omega (arith, lt))) in
    inr (omega (arith, is, below))
behind_or_under P (x ∷ xs) (suc n) d h lt behind o (inr m) =
    behind_or_under P xs n d (right_of (below_all prioritised_cmp x (pairs xs)) _ h) (omega (arith, lt)) (λ j e low high. behind (suc j) e (omega (arith, low)) (omega (arith, high))) o m

-- what a search for an event at a priority tells
module _ (x : HappenedView) (e : Event) (prio : ℕ) where
  abbrev key : Prioritised
  key = record { prio = prio; event = e }

  pub found_there : (i : ℕ) → i < length (members x.events) → HoldsAt (λ y. prioritised_cmp y key ≡ Equal) (members x.events) i → stands_at x e prio ≡ true
  found_there i lt at =
      has-members x.events key
      ∙ list_any_at (eq_by_cmp prioritised_cmp key) (members x.events) i key lt (ap is_eq (turned prioritised_cmp_total (get_or (members x.events) i key) key Equal (at key)))

  module _ (i : ℕ) (front : AllWithin (λ y. prioritised_cmp y key ≡ Less) (members x.events) 0 i) (back : AllWithin (λ y. prioritised_cmp y key ≡ Greater) (members x.events) i (length (members x.events))) where
    never_ties : (o : Prioritised) → Elem (members x.events) o → prioritised_cmp o key ≡ Equal → ⊥
    never_ties = all_of (λ o. prioritised_cmp o key ≡ Equal → ⊥) (members x.events) (λ j d low high.
        elim (cases_lt j i) [
          | inl lt ↦ λ e. let less : prioritised_cmp (get_or (members x.events) j d) key ≡ Less = front j d low lt in cc
          | inr ge ↦ λ e. let greater : prioritised_cmp (get_or (members x.events) j d) key ≡ Greater = back j d ge high in cc
        ])

    -- behind the place no event is found at a lower priority
    not_behind : (q : ℕ) → q ≤ prio → stands_at x e q ≡ true → prioritised_cmp (record { prio = q; event = e }) key ≡ Greater → ⊥
    not_behind q le h greater =
        let ge : prio ≤ q = not_above key (record { prio = q; event = e }) (turned prioritised_cmp_total (record { prio = q; event = e }) key Greater greater) in
        let is : q ≡ prio = omega (arith, le, ge) in
        never_ties key (elem x key (ap (stands_at x e) (sym is) ∙ h)) (tied_itself prioritised_cmp_total key)

    none_from : (past : ℕ) → i ≤ length (members x.events) → (0 < i → HoldsAt (λ p. past ≡ p.prio + 1) (members x.events) (i - 1))
        → (q : ℕ) → min prio past ≤ q → q < prio + 1 → stands_at x e q ≡ true → ⊥
    none_from past le at q low high h =
        elim (cases_lt 0 i) [
          | inl some ↦
              let last : past ≡ (get_or (members x.events) (i - 1) key).prio + 1 = at some key in
              elim (behind_or_under (λ y. prioritised_cmp y key ≡ Greater) (members x.events) (i - 1) key (members_rise x.events) (omega (arith, some, le)) (λ j d from to. back j d (omega (arith, some, from)) to) (record { prio = q; event = e }) (elem x _ h)) [
                | inl greater ↦ not_behind q (omega (arith, high)) h greater
                | inr under ↦
                    let is : q ≡ prio = omega (arith, low, high, under, last) in
                    never_ties (record { prio = q; event = e }) (elem x _ h) (ap (λ p. prioritised_cmp (record { prio = p; event = e }) key) is ∙ tied_itself prioritised_cmp_total key)
              ]
          | inr first ↦ not_behind q (omega (arith, high)) h (all_of (λ y. prioritised_cmp y key ≡ Greater) (members x.events) (λ j d from to. back j d (omega (arith, first)) to) (record { prio = q; event = e }) (elem x _ h))
        ]

  -- an event that is not found at a priority stands at none below it that is above who stands in front
  pub lower_down : (i past : ℕ) → i ≤ length (members x.events) → IsBinarySearchResult (λ y. prioritised_cmp y key) (members x.events) (Err i)
      → (0 < i → HoldsAt (λ p. past ≡ p.prio + 1) (members x.events) (i - 1)) → greatest_below (stands_at x e) (prio + 1) ≡ greatest_below (stands_at x e) (min prio past)
  lower_down i past le searched at =
      let parts = searched (answers_rise prioritised_cmp_total key (members x.events) (members_rise x.events)) in
      passed_over (stands_at x e) (min prio past) (prio + 1) (omega arith)
      (λ q low high. split (stands_at x e q) (λ h. absurd (none_from i parts.0 parts.1 past le at q low high h)) (λ h. h))

beats_less : (on : Bool) (o k q : ℕ) → k ≤ q → beats on o q ≡ true → beats on o k ≡ true
beats_less true o k q le h = grind (arith, nat_tests)
beats_less false o k q le h = grind (arith, nat_tests)

-- what is blocked at a priority is so at each lower one
blocked_below : (x : HappenedView) (e : Event) (k q : ℕ) → k ≤ q → blocked x (record { prio = q; event = e }) ≡ true → blocked x (record { prio = k; event = e }) ≡ true
blocked_below x e k q le h =
    let (o, there, b) = blocker x (record { prio = q; event = e }) h in
    any_intro (λ o. same_event o.event (converse e) && beats e.on o.prio k) (members x.events) (record { prio = o; event = converse e }) (elem x _ there)
    (and_true (same_event (converse e) (converse e)) _ (same_event_of (converse e) (converse e) refl) (beats_less e.on o k q le b))

-- what is seen of an event, by its greatest priority in the set and whether it is blocked there
module _ (x : HappenedView) (e : Event) (n : ℕ) where
  free_at : (k : ℕ) → won_at x e k ≡ true → (stands_at x e k ≡ true) × (not (blocked x (record { prio = k; event = e })) ≡ true)
  free_at k h = both_true (stands_at x e k) _ h

  pub top_free : (q : ℕ) → greatest_below (stands_at x e) n ≡ Some q → blocked x (record { prio = q; event = e }) ≡ false → greatest_below (won_at x e) n ≡ Some q
  top_free q is free =
      is_greatest (won_at x e) n q (found_under (stands_at x e) n q is) (and_true (stands_at x e q) _ (found_below (stands_at x e) n q is) (ap not free))
      (λ k lt h. no_greater (stands_at x e) n q k is lt (free_at k h).0)

  pub top_blocked : (q : ℕ) → greatest_below (stands_at x e) n ≡ Some q → blocked x (record { prio = q; event = e }) ≡ true → greatest_below (won_at x e) n ≡ None
  top_blocked q is hit =
      passed_over (won_at x e) 0 n (omega arith)
      (λ k low lt. split (won_at x e k) (λ h. absurd (false≢true (ap not (sym (blocked_below x e k q (no_greater (stands_at x e) n q k is lt (free_at k h).0) hit)) ∙ (free_at k h).1))) (λ h. h))

  pub none_free : greatest_below (stands_at x e) n ≡ None → greatest_below (won_at x e) n ≡ None
  none_free is =
      passed_over (won_at x e) 0 n (omega arith)
      (λ k low lt. split (won_at x e k) (λ h. absurd (none_below (stands_at x e) n k is lt (free_at k h).0)) (λ h. h))

-- what is seen, by what is found of both
module _ (x : HappenedView) (e : Event) where
  pub seen_free : (q : ℕ) → greatest_below (won_at x e) (MAX_PRIO + 1) ≡ Some q → seen x e ≡ Unblocked q
  seen_free q is = rw is refl

  pub seen_blocked : (q : ℕ) → greatest_below (won_at x e) (MAX_PRIO + 1) ≡ None → greatest_below (stands_at x e) (MAX_PRIO + 1) ≡ Some q → seen x e ≡ Blocked q
  seen_blocked q none some = rw (none, some) refl

  pub seen_absent : greatest_below (won_at x e) (MAX_PRIO + 1) ≡ None → greatest_below (stands_at x e) (MAX_PRIO + 1) ≡ None → seen x e ≡ Absent
  seen_absent free none = rw (free, none) refl
