-- The fluents of words as lists.
use Rattle.std.proofs.Common.{◌≡◌, ℕ, ◌+◌, ◌*◌, Bool, true, false, cond, ◌||◌, ◌&&◌, eqb, T, bit_and, ◌≢◌, ◌/◌, ◌^◌, List, [], ◌∷◌, ◌++◌, map, filter, refl, sym, ◌∙◌, ap, subst, inl, inr, append-nil, arith}
use Rattle.std.proofs.lemmas.Bool.Decides.{eqb_tells}
use Rattle.std.proofs.lemmas.Nat.Bits.{shr_and_one}
use Rattle.std.proofs.lemmas.List.{map-append}
use Rattle.std.proofs.lemmas.List.FromFn.{filter_of_map_range_with_len_more}
use Rattle.std.proofs.lemmas.List.Kept.{IsStrictlySortedBy-dedup}
use Rattle.std.proofs.lemmas.List.Sorted.{list_any-IsPermutation}
use Rattle.std.specs.Cmp.{Equal-is}
use Rattle.std.specs.FinMap.Entries.{below_all}
use Rattle.std.specs.Int.{bit_at}
use Rattle.std.specs.List.{list_any, range_with_len, dedup, dedup_from, AllByRecursion}
use Rattle.std.specs.List.Sorted.{IsPermutation, IsSorted, IsStrictlySortedBy}
use Rattle.std.specs.Ordering.{eq_by_cmp, is_lt}
use Rattle.std.specs.declared.cmp.Ordering.{Ordering}
use Rattle.std.specs.declared.cmp.Ordering.TheVariants.{Less}
use Rattle.gt_base.specs.declared.events.Fluent.{Fluent}
use Rattle.gt_base.specs.declared.words.FlagWord.{FlagWord}
use Rattle.gt_base.specs.contracts.events.FluentOrd.TheImpl.Laws as fluent_laws
use Rattle.gt_base.specs.Orders.{fluent_cmp, fluent_eq}
use Rattle.gt_base.specs.Sets.{members, none, set_of, set_of_rising, pairs, Rises}
use Rattle.gt_base.specs.Words.{fluent_in, fluents_of, set_of_words}
use Rattle.gt_base.proofs.OrderLaws.{fluent_cmp-IsAntisymmetric}
use Rattle.gt_base.proofs.Rising.{has-set_of_rising}
use Rattle.gt_base.proofs.SetLaws.{has-set_of, members-set_of_rising}
use Rattle.gt_base.proofs.SetSteps.{fluent_cmp_total}
use Rattle.gt_base.proofs.SetsAreSets.{fluents_are_sets}

-- the fluents of a word's n lowest bits
abbrev pub lowest : FlagWord → ℕ → List Fluent
lowest w n = map (λ b. fluent_in w.place.row (w.place.below * 64 + b)) (filter (λ b. eqb (bit_at w.bits b) 1) (range_with_len 0 n))

-- one number more in a list that starts at 0
filter_more : (p : ℕ → Bool) (n : ℕ) → filter p (range_with_len 0 (n + 1)) ≡ filter p (range_with_len 0 n) ++ cond (p n) (n ∷ []) []
filter_more p n =
    sym (ap (filter p) (same (range_with_len 0 (n + 1)))) ∙ filter_of_map_range_with_len_more p (λ b. b) 0 n n (omega arith)
    ∙ ap (λ xs. filter p xs ++ cond (p n) (n ∷ []) []) (same (range_with_len 0 n))
  where
    same : (xs : List ℕ) → map (λ b. b) xs ≡ xs
    same [] = refl
    same (x ∷ xs) = ap (λ ys. x ∷ ys) (same xs)

lowest_more : (w : FlagWord) (n : ℕ) → lowest w (n + 1) ≡ lowest w n ++ map (λ b. fluent_in w.place.row (w.place.below * 64 + b)) (cond (eqb (bit_at w.bits n) 1) (n ∷ []) [])
lowest_more w n =
    let name : ℕ → Fluent = λ b. fluent_in w.place.row (w.place.below * 64 + b) in
    ap (map name) (filter_more (λ b. eqb (bit_at w.bits b) 1) n) ∙ map-append name (filter (λ b. eqb (bit_at w.bits b) 1) (range_with_len 0 n)) (cond (eqb (bit_at w.bits n) 1) (n ∷ []) [])

pub lowest_with : (w : FlagWord) (n : ℕ) → bit_and (w.bits / 2 ^ n) 1 ≡ 1 → lowest w (n + 1) ≡ lowest w n ++ fluent_in w.place.row (w.place.below * 64 + n) ∷ []
lowest_with w n e =
    lowest_more w n ∙ ap (λ m. lowest w n ++ map (λ b. fluent_in w.place.row (w.place.below * 64 + b)) (cond (eqb m 1) (n ∷ []) [])) (sym (shr_and_one w.bits n) ∙ e)

pub lowest_without : (w : FlagWord) (n : ℕ) → bit_and (w.bits / 2 ^ n) 1 ≢ 1 → lowest w (n + 1) ≡ lowest w n
lowest_without w n e =
    lowest_more w n
    ∙ ap (λ m. lowest w n ++ map (λ b. fluent_in w.place.row (w.place.below * 64 + b)) (cond (eqb m 1) (n ∷ []) [])) (sym (shr_and_one w.bits n))
    ∙ ap (λ t. lowest w n ++ map (λ b. fluent_in w.place.row (w.place.below * 64 + b)) (cond t (n ∷ []) [])) off ∙ append-nil (lowest w n)
  where
    off : eqb (bit_and (w.bits / 2 ^ n) 1) 1 ≡ false
    off = elim (eqb_tells (bit_and (w.bits / 2 ^ n) 1) 1) [ inl t ↦ absurd (e t.1) | inr t ↦ t.0 ]

pub lowest_all : (w : FlagWord) → lowest w 64 ≡ fluents_of w
unfolding fluents_of
lowest_all w = refl

-- ---- a list in order, each item once
both : (a b : Bool) → T a → T b → T (a && b)
both true b g h = h
both false b g h = absurd g

below_by : {K : Type 0} (R : K → K → Ordering) (k : K) (ks : List K) → AllByRecursion (λ y. R k y ≡ Less) ks → T (below_all R k (pairs ks))
below_by R k [] h = tt
below_by R k (x ∷ xs) h = both (is_lt (R k x)) _ (subst (λ r. T (is_lt r)) (sym h.0) tt) (below_by R k xs h.1)

rises_by : {K : Type 0} (R : K → K → Ordering) (ks : List K) → IsStrictlySortedBy R ks → Rises R ks
unfolding IsStrictlySortedBy
rises_by R [] h = tt
rises_by R (k ∷ ks) h = both (below_all R k (pairs ks)) _ (below_by R k ks h.0) (rises_by R ks h.1)

any_dedup_from : {K : Type 0} (p : K → Bool) (same : K → K → Bool) → ((x y : K) → same x y ≡ true → p x ≡ p y) → (k : K) (xs : List K) → list_any p (dedup_from same k xs) ≡ (p k || list_any p xs)
any_dedup_from p same alike k [] = refl
any_dedup_from p same alike k (x ∷ xs) =
    elim (same x k) as (λ b. same x k ≡ b → list_any p (cond b (dedup_from same k xs) (k ∷ dedup_from same x xs)) ≡ (p k || (p x || list_any p xs))) [
      | true ↦ λ e. any_dedup_from p same alike k xs ∙ twice (p k) (p x) (list_any p xs) (alike x k e)
      | false ↦ λ _. ap (λ b. p k || b) (any_dedup_from p same alike x xs)
    ] refl
  where
    twice : (a b c : Bool) → b ≡ a → (a || c) ≡ (a || (b || c))
    twice true b c e = refl
    twice false true c e = cc
    twice false false c e = refl

any_dedup : {K : Type 0} (p : K → Bool) (same : K → K → Bool) → ((x y : K) → same x y ≡ true → p x ≡ p y) → (xs : List K) → list_any p (dedup same xs) ≡ list_any p xs
any_dedup p same alike [] = refl
any_dedup p same alike (x ∷ xs) = any_dedup_from p same alike x xs

pub in_order : (given sorted kept : List Fluent) → IsPermutation given sorted → IsSorted fluent_cmp sorted → kept ≡ dedup fluent_eq sorted → kept ≡ members (set_of {R = fluent_cmp} given)
in_order given sorted kept moved order is =
    let ties : (x y : Fluent) → fluent_eq x y ≡ eq_by_cmp fluent_cmp x y = fluent_laws.matches_eq-law in
    let rises : Rises fluent_cmp kept = rises_by fluent_cmp kept (subst (IsStrictlySortedBy fluent_cmp) (sym is) (IsStrictlySortedBy-dedup fluent_cmp_total ties sorted order)) in
    let alike : (x y z : Fluent) → fluent_eq y z ≡ true → eq_by_cmp fluent_cmp x y ≡ eq_by_cmp fluent_cmp x z =
    λ x y z e. ap (eq_by_cmp fluent_cmp x) (fluent_cmp-IsAntisymmetric y z ((Equal-is (fluent_cmp y z)).0 (sym (ties y z) ∙ e))) in
    let set : set_of_rising {R = fluent_cmp} kept ≡ set_of given =
    fluents_are_sets.same _ _ (λ x.
    has-set_of_rising fluent_cmp_total kept x rises ∙ ap (list_any (eq_by_cmp fluent_cmp x)) is ∙ any_dedup (eq_by_cmp fluent_cmp x) fluent_eq (alike x) sorted
    ∙ sym (list_any-IsPermutation (eq_by_cmp fluent_cmp x) given sorted moved) ∙ sym (has-set_of fluent_cmp_total given x)) in
    sym (members-set_of_rising fluent_cmp kept rises) ∙ ap members set

-- no word, no fluent
pub set_of_no_words : set_of_words [] ≡ none
unfolding set_of_words
set_of_no_words = refl
