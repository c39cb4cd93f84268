-- Administrators and what is on at first, from their lines.
use Rattle.std.proofs.Common.{◌≡◌, ℕ, zero, suc, not, length, inl, inr, ◌+◌, ◌≤◌, ◌<◌, Bool, true, false, cond, ◌||◌, nat_eq, nat_lt, List, [], ◌∷◌, ◌++◌, map, filter, Option, Some, None, refl, sym, ap, ◌∙◌, subst, arith}
use Rattle.std.specs.List.{list_all, list_any, filter_map, cons_option}
use Rattle.std.proofs.lemmas.Bool.{false≢true, or_cases, eqb-true, eqb-false, ne_eqb, ltb-true, ltb-false, or_from, cond-true, cond-false}
use Rattle.std.proofs.lemmas.List.Folds.{list_any-append}
use Rattle.gt_base.specs.Sets.{members, set_of, has}
use Rattle.gt_base.specs.Happening.{Fluents}
use Rattle.gt_base.specs.declared.events.UserId.{UserId}
use Rattle.gt_base.specs.declared.events.Fluent.{Fluent}
use Rattle.gt_base.specs.declared.events.Fluent.TheVariants as base
use Rattle.gt_base.proofs.SetLaws.{has-members, has-set_of, same_sets}
use Rattle.gt_base.proofs.SetSteps.{fluent_cmp_total}
use Rattle.gt_base.proofs.OrderLaws.{fluent_cmp-IsAntisymmetric}
use Rattle.gtrbac_model.specs.Same.{same_user, same_fluent, lists}
use Rattle.gtrbac_model.proofs.Elements.{both_true, split, equal_by}
use Rattle.gtrbac_model.specs.Valid.{rises_above}
use Rattle.gtrbac_model.specs.Policy.{Policy}
use Rattle.gtrbac_model.specs.WholePolicy.{admins_rise, is_fluent}
use Rattle.policy_words.specs.Sayings.{SaidView}
use Rattle.policy_words.specs.Naming.{Names}
use Rattle.policy_words.specs.Making.{DraftView, adding, drafted, with_new, admin_said, opening_said, users_from, edges_from, linked_at_first}
use Rattle.policy_words.specs.declared.parts.Sort.TheVariants.{Enabling, Assigning, Granting, Arming, Linking}
use Rattle.policy_words.specs.Sorts.{has_sort}

-- each item goes to the end, unless it is there
abbrev pub with_all : {A : Type 0} → (A → A → Bool) → List A → List A → List A
with_all same xs [] = xs
with_all same xs (y ∷ ys) = with_all same (with_new same (Some y) xs) ys

module _ (ns : Names) {A : Type 0} (same : A → A → Bool) (of : DraftView → List A) (said : SaidView → Option A) (step : (d : DraftView) (x : SaidView) → of (adding ns d x) ≡ with_new same (said x) (of d)) where
  drafted_new : (d : DraftView) (xs : List SaidView) → of (drafted ns d xs) ≡ with_all same (of d) (filter_map said xs)
  drafted_new d [] = refl
  drafted_new d (x ∷ xs) = drafted_new (adding ns d x) xs ∙ ap (λ z. with_all same z (filter_map said xs)) (step d x) ∙ by (said x)
    where
      by : (o : Option A) → with_all same (with_new same o (of d)) (filter_map said xs) ≡ with_all same (of d) (cons_option o (filter_map said xs))
      by None = refl
      by (Some a) = refl

pub drafted_admins : (ns : Names) (d : DraftView) (xs : List SaidView) → (drafted ns d xs).admins ≡ with_all same_user d.admins (filter_map (admin_said ns) xs)
drafted_admins ns d xs = drafted_new ns same_user (λ e. e.admins) (admin_said ns) (λ _ _. refl) d xs

pub drafted_on : (ns : Names) (d : DraftView) (xs : List SaidView) → (drafted ns d xs).on_at_first ≡ with_all same_fluent d.on_at_first (filter_map (opening_said ns) xs)
drafted_on ns d xs = drafted_new ns same_fluent (λ e. e.on_at_first) (opening_said ns) (λ _ _. refl) d xs

module _ {A : Type 0} (same : A → A → Bool) (tells : (a b : A) → same a b ≡ true → a ≡ b) where
  lists_new : (xs : List A) (y z : A) → lists same (with_new same (Some y) xs) z ≡ (lists same xs z || same z y)
  lists_new xs y z = by (lists same xs y) refl
    where
      or_false : (a b : Bool) → (a || (b || false)) ≡ (a || b)
      or_false true b = refl
      or_false false true = refl
      or_false false false = refl

      old_one : (a b : Bool) → (b ≡ true → a ≡ true) → a ≡ (a || b)
      old_one true b h = refl
      old_one false false h = refl
      old_one false true h = h refl

      by : (b : Bool) → lists same xs y ≡ b → lists same (cond b xs (xs ++ y ∷ [])) z ≡ (lists same xs z || same z y)
      by true e = old_one (lists same xs z) (same z y) (λ s. ap (lists same xs) (tells z y s) ∙ e)
      by false e = list_any-append (same z) xs (y ∷ []) ∙ or_false (lists same xs z) (same z y)

  -- what is listed after that was there or is new
  pub lists_all : (xs ys : List A) (z : A) → lists same (with_all same xs ys) z ≡ (lists same xs z || lists same ys z)
  lists_all xs [] z = by (lists same xs z)
    where
      by : (a : Bool) → a ≡ (a || false)
      by true = refl
      by false = refl
  lists_all xs (y ∷ ys) z = lists_all (with_new same (Some y) xs) ys z ∙ ap (λ b. b || lists same ys z) (lists_new xs y z) ∙ by (lists same xs z) (same z y) (lists same ys z)
    where
      by : (a b c : Bool) → ((a || b) || c) ≡ (a || (b || c))
      by true b c = refl
      by false b c = refl

-- what is on at first

first : (x a b : Bool) → ((x || a) || b) ≡ (x || (a || b))
first true a b = refl
first false a b = refl

second : (a x b c : Bool) → (a || ((x || b) || c)) ≡ (x || (a || (b || c)))
second true true b c = refl
second true false b c = refl
second false x b c = first x b c

third : (a b x c d : Bool) → (a || (b || ((x || c) || d))) ≡ (x || (a || (b || (c || d))))
third true b true c d = refl
third true b false c d = refl
third false b x c d = second b x c d

fourth : (a b c x d e : Bool) → (a || (b || (c || ((x || d) || e)))) ≡ (x || (a || (b || (c || (d || e)))))
fourth true b c true d e = refl
fourth true b c false d e = refl
fourth false b c x d e = third b c x d e

fifth : (a b c d x e f : Bool) → (a || (b || (c || (d || ((x || e) || f))))) ≡ (x || (a || (b || (c || (d || (e || f))))))
fifth true b c d true e f = refl
fifth true b c d false e f = refl
fifth false b c d x e f = fourth b c d x e f

module _ (q : Fluent → Bool) where
  abbrev any_sort : List Fluent → Bool
  any_sort ms = list_any q (filter (has_sort Enabling) ms) || (list_any q (filter (has_sort Assigning) ms) || (list_any q (filter (has_sort Granting) ms) || (list_any q (filter (has_sort Arming) ms) || (list_any q (filter (has_sort Linking) ms) || false))))

  one_more : (n : Fluent) (ms : List Fluent) → any_sort (n ∷ ms) ≡ (q n || any_sort ms)
  one_more (base.Enabled r) ms =
      first (q (base.Enabled r)) (list_any q (filter (has_sort Enabling) ms))
      (list_any q (filter (has_sort Assigning) ms) || (list_any q (filter (has_sort Granting) ms) || (list_any q (filter (has_sort Arming) ms) || (list_any q (filter (has_sort Linking) ms) || false))))
  one_more (base.Assigned u r) ms =
      second (list_any q (filter (has_sort Enabling) ms)) (q (base.Assigned u r)) (list_any q (filter (has_sort Assigning) ms))
      (list_any q (filter (has_sort Granting) ms) || (list_any q (filter (has_sort Arming) ms) || (list_any q (filter (has_sort Linking) ms) || false)))
  one_more (base.Granted p r) ms =
      third (list_any q (filter (has_sort Enabling) ms)) (list_any q (filter (has_sort Assigning) ms)) (q (base.Granted p r)) (list_any q (filter (has_sort Granting) ms))
      (list_any q (filter (has_sort Arming) ms) || (list_any q (filter (has_sort Linking) ms) || false))
  one_more (base.Limit l) ms =
      fourth (list_any q (filter (has_sort Enabling) ms)) (list_any q (filter (has_sort Assigning) ms)) (list_any q (filter (has_sort Granting) ms)) (q (base.Limit l)) (list_any q (filter (has_sort Arming) ms))
      (list_any q (filter (has_sort Linking) ms) || false)
  one_more (base.Edge n) ms =
      fifth (list_any q (filter (has_sort Enabling) ms)) (list_any q (filter (has_sort Assigning) ms)) (list_any q (filter (has_sort Granting) ms)) (list_any q (filter (has_sort Arming) ms)) (q (base.Edge n))
      (list_any q (filter (has_sort Linking) ms)) false

  sorted : (ms : List Fluent) → any_sort ms ≡ list_any q ms
  sorted [] = refl
  sorted (m ∷ ms) = one_more m ms ∙ ap (λ b. q m || b) (sorted ms)

-- the opening fluents as they are written, edges in version 2 alone
abbrev pub by_sort : Bool → List Fluent → List Fluent
by_sort one ms = filter (has_sort Enabling) ms ++ (filter (has_sort Assigning) ms ++ (filter (has_sort Granting) ms ++ (filter (has_sort Arming) ms ++ (cond one [] (filter (has_sort Linking) ms) ++ []))))

module _ (q : Fluent → Bool) (ms : List Fluent) where
  any_written : (one : Bool) → list_any q (by_sort one ms)
      ≡ (list_any q (filter (has_sort Enabling) ms) || (list_any q (filter (has_sort Assigning) ms) || (list_any q (filter (has_sort Granting) ms) || (list_any q (filter (has_sort Arming) ms) || list_any q (cond one [] (filter (has_sort Linking) ms) ++ [])))))
  any_written one =
      list_any-append q (filter (has_sort Enabling) ms) _
      ∙ ap (λ b. list_any q (filter (has_sort Enabling) ms) || b)
      (list_any-append q (filter (has_sort Assigning) ms) _
      ∙ ap (λ b. list_any q (filter (has_sort Assigning) ms) || b)
      (list_any-append q (filter (has_sort Granting) ms) _ ∙ ap (λ b. list_any q (filter (has_sort Granting) ms) || b) (list_any-append q (filter (has_sort Arming) ms) (cond one [] (filter (has_sort Linking) ms) ++ []))))

  -- in version 2 all are written
  all_written : list_any q (by_sort false ms) ≡ list_any q ms
  all_written =
      any_written false
      ∙ ap (λ b. list_any q (filter (has_sort Enabling) ms) || (list_any q (filter (has_sort Assigning) ms) || (list_any q (filter (has_sort Granting) ms) || (list_any q (filter (has_sort Arming) ms) || b))))
      (list_any-append q (filter (has_sort Linking) ms) [])
      ∙ sorted q ms

  split_off : (a b c d l : Bool) → (a || (b || (c || (d || (l || false))))) ≡ ((a || (b || (c || (d || false)))) || l)
  split_off true b c d l = refl
  split_off false true c d l = refl
  split_off false false true d l = refl
  split_off false false false true l = refl
  split_off false false false false true = refl
  split_off false false false false false = refl

  -- in version 1 all but edges
  but_edges : (list_any q (by_sort true ms) || list_any q (filter (has_sort Linking) ms)) ≡ list_any q ms
  but_edges =
      ap (λ b. b || list_any q (filter (has_sort Linking) ms)) (any_written true)
      ∙ sym
      (split_off (list_any q (filter (has_sort Enabling) ms)) (list_any q (filter (has_sort Assigning) ms)) (list_any q (filter (has_sort Granting) ms)) (list_any q (filter (has_sort Arming) ms))
      (list_any q (filter (has_sort Linking) ms)))
      ∙ sorted q ms

either : (e n l h : Bool) → (e ≡ true → h ≡ true) → (l ≡ true → e ≡ true) → (n || l) ≡ h → (e || n) ≡ h
either true n l h on off is = sym (on refl)
either false true l h on off is = is
either false false true h on off is = absurd (false≢true (off refl))
either false false false h on off is = is

module _ (p : Policy) (x : Fluent) where
  edge_listed : (n from k : ℕ) → same_fluent x (base.Edge n) ≡ true → from ≤ n → n < from + k → list_any (same_fluent x) (edges_from from k) ≡ true
  edge_listed n from zero same low high = absurd (omega arith)
  edge_listed n from (suc k) same low high = by (nat_eq n from) refl (λ above. edge_listed n (from + 1) k same above (omega arith))
    where
      on_right : (a b : Bool) → b ≡ true → (a || b) ≡ true
      on_right true b h = refl
      on_right false b h = h

      by : (b : Bool) → nat_eq n from ≡ b → (from + 1 ≤ n → list_any (same_fluent x) (edges_from (from + 1) k) ≡ true) → list_any (same_fluent x) (edges_from from (suc k)) ≡ true
      by true e later = ap (λ a. a || list_any (same_fluent x) (edges_from (from + 1) k)) (ap (λ m. same_fluent x (base.Edge m)) (sym (eqb-true n from e)) ∙ same)
      by false e later = on_right _ _ (later (omega (arith, low, eqb-false n from e)))

  -- a member that is an edge has a number of the policy
  linked_listed : (ms : List Fluent) → list_all (is_fluent p) ms ≡ true → list_any (same_fluent x) (filter (has_sort Linking) ms) ≡ true → list_any (same_fluent x) (edges_from 0 (length p.edges)) ≡ true
  linked_listed [] all h = cc
  linked_listed (base.Enabled r ∷ ms) all h = linked_listed ms (both_true _ _ all).1 h
  linked_listed (base.Assigned u r ∷ ms) all h = linked_listed ms (both_true (is_fluent p (base.Assigned u r)) _ all).1 h
  linked_listed (base.Granted q r ∷ ms) all h = linked_listed ms (both_true (is_fluent p (base.Granted q r)) _ all).1 h
  linked_listed (base.Limit l ∷ ms) all h = linked_listed ms (both_true _ _ all).1 h
  linked_listed (base.Edge n ∷ ms) all h =
      let parts = both_true (nat_lt n (length p.edges)) _ all in
      elim (or_cases (same_fluent x (base.Edge n)) _ h) [
        | inl e ↦ edge_listed n 0 (length p.edges) e (omega arith) (omega (arith, ltb-true _ _ parts.0))
        | inr more ↦ linked_listed ms parts.1 more
      ]

  listed_on : (s : Fluents) (xs : List Fluent) → list_all (has s) xs ≡ true → list_any (same_fluent x) xs ≡ true → has s x ≡ true
  listed_on s [] all h = cc
  listed_on s (y ∷ ys) all h =
      let parts = both_true (has s y) _ all in
      elim (or_cases (same_fluent x y) _ h) [
        | inl e ↦ ap (has s) (equal_by fluent_cmp_total fluent_cmp-IsAntisymmetric x y e) ∙ parts.0
        | inr more ↦ listed_on s ys parts.1 more
      ]

-- what the written lines make
abbrev pub opening_made : Policy → Bool → Fluents
opening_made p one = set_of (linked_at_first (not one) p.edges ++ with_all same_fluent [] (by_sort one (members p.opening)))

-- what is on at first is what is written, with every edge in version 1
pub opening_back : (p : Policy) (one : Bool) → list_all (is_fluent p) (members p.opening) ≡ true
    → (one ≡ true → list_all (has p.opening) (edges_from 0 (length p.edges)) ≡ true)
    → opening_made p one ≡ p.opening
opening_back p one all linked = same_sets fluent_cmp_total fluent_cmp-IsAntisymmetric (opening_made p one) p.opening (λ x. by one linked x)
  where
    listed : (x : Fluent) (o : Bool) → lists same_fluent (with_all same_fluent [] (by_sort o (members p.opening))) x ≡ list_any (same_fluent x) (by_sort o (members p.opening))
    listed x o = lists_all same_fluent (equal_by fluent_cmp_total fluent_cmp-IsAntisymmetric) [] (by_sort o (members p.opening)) x

    by : (o : Bool) → (o ≡ true → list_all (has p.opening) (edges_from 0 (length p.edges)) ≡ true) → (x : Fluent) → has (opening_made p o) x ≡ has p.opening x
    by false on x =
        has-set_of fluent_cmp_total (with_all same_fluent [] (by_sort false (members p.opening))) x ∙ listed x false ∙ all_written (same_fluent x) (members p.opening) ∙ sym (has-members p.opening x)
    by true on x =
        let edges : List Fluent = edges_from 0 (length p.edges) in
        has-set_of fluent_cmp_total (edges ++ with_all same_fluent [] (by_sort true (members p.opening))) x
        ∙ list_any-append (same_fluent x) edges _
        ∙ ap (λ b. list_any (same_fluent x) edges || b) (listed x true)
        ∙ either (list_any (same_fluent x) edges) (list_any (same_fluent x) (by_sort true (members p.opening))) (list_any (same_fluent x) (filter (has_sort Linking) (members p.opening))) (has p.opening x)
        (listed_on p x p.opening edges (on refl)) (linked_listed p x (members p.opening) all)
        (but_edges (same_fluent x) (members p.opening) ∙ sym (has-members p.opening x))

-- administrators

abbrev RisesFrom : ℕ → List UserId → Type 0
RisesFrom n [] = Unit {0}
RisesFrom n (u ∷ us) = (n ≤ u.0) × (rises_above u.0 (map (λ v. v.0) us) ≡ true)

rises_from : (b : ℕ) (us : List UserId) → rises_above b (map (λ v. v.0) us) ≡ true → RisesFrom (b + 1) us
rises_from b [] h = tt
rises_from b (u ∷ us) h = let parts = both_true (nat_lt b u.0) _ h in (let lt : b < u.0 = ltb-true b u.0 parts.0 in omega (arith, lt), parts.1)

pub from_zero : (us : List UserId) → admins_rise us ≡ true → RisesFrom 0 us
from_zero [] h = tt
from_zero (u ∷ us) h = (omega arith, h)

not_listed : (n : ℕ) (us : List UserId) → RisesFrom (n + 1) us → lists same_user us (record { 0 = n }) ≡ false
not_listed n [] h = refl
not_listed n (u ∷ us) h =
    or_from (nat_eq n u.0) _ (ne_eqb n u.0 (λ e. omega (arith, e, h.0))) (not_listed n us (lower us (rises_from u.0 us h.1)))
  where
    lower : (vs : List UserId) → RisesFrom (u.0 + 1) vs → RisesFrom (n + 1) vs
    lower [] k = tt
    lower (v ∷ vs) k = (omega (arith, k.0, h.0), k.1)

-- of users by number those that a rising list has are the list
pub users_back : (test : UserId → Bool) (m n k : ℕ) (us : List UserId) → ((v : UserId) → n ≤ v.0 → test v ≡ lists same_user us v) → RisesFrom n us → list_all (λ u. nat_lt u.0 m) us ≡ true → n + k ≡ m
    → filter test (users_from n k) ≡ us
users_back test m n zero [] agrees rises below e = refl
users_back test m n zero (u ∷ us) agrees rises below e = let lt : u.0 < m = ltb-true u.0 m (both_true (nat_lt u.0 m) _ below).0 in absurd (omega (arith, lt, rises.0, e))
users_back test m n (suc k) [] agrees rises below e =
    cond-false (test (record { 0 = n })) _ _ (agrees (record { 0 = n }) (omega arith)) ∙ users_back test m (n + 1) k [] (λ v le. agrees v (omega arith)) tt refl (omega arith)
users_back test m n (suc k) (u ∷ us) agrees rises below e =
    split (nat_eq n u.0)
    (λ q.
    let same : n ≡ u.0 = eqb-true n u.0 q in
    cond-true (test (record { 0 = n })) _ _ (agrees (record { 0 = n }) (omega arith) ∙ ap (λ b. b || lists same_user us (record { 0 = n })) q)
    ∙ (λ i. record { 0 = same i } ∷ users_back test m (n + 1) k us (later same) (from_next same) (both_true (nat_lt u.0 m) _ below).1 (omega arith) i))
    (λ q.
    let apart : n ≡ u.0 → ⊥ = eqb-false n u.0 q in
    cond-false (test (record { 0 = n })) _ _ (agrees (record { 0 = n }) (omega arith) ∙ not_listed n (u ∷ us) (above apart, rises.1))
    ∙ users_back test m (n + 1) k (u ∷ us) (λ v le. agrees v (omega arith)) (above apart, rises.1) below (omega arith))
  where
    above : (n ≡ u.0 → ⊥) → n + 1 ≤ u.0
    above apart = split (nat_lt n u.0) (λ q. let lt : n < u.0 = ltb-true n u.0 q in omega (arith, lt)) (λ q. let le : u.0 ≤ n = ltb-false n u.0 q in absurd (apart (omega (arith, le, rises.0))))

    from_next : n ≡ u.0 → RisesFrom (n + 1) us
    from_next same = subst (λ z. RisesFrom (z + 1) us) (sym same) (rises_from u.0 us rises.1)

    later : n ≡ u.0 → (v : UserId) → n + 1 ≤ v.0 → test v ≡ lists same_user us v
    later same v le = agrees v (omega arith) ∙ ap (λ b. b || lists same_user us v) (ne_eqb v.0 u.0 (λ e. omega (arith, e, same, le)))

pub admins_back : (us : List UserId) (m : ℕ) → list_all (λ u. nat_lt u.0 m) us ≡ true → admins_rise us ≡ true → filter (lists same_user (with_all same_user [] us)) (users_from 0 m) ≡ us
admins_back us m below rise =
    users_back (lists same_user (with_all same_user [] us)) m 0 m us
    (λ v _. lists_all same_user (λ a b e. let same : a.0 ≡ b.0 = eqb-true a.0 b.0 e in λ i. record { 0 = same i }) [] us v)
    (from_zero us rise) below (omega arith)
