-- A word is a number exactly where it is the decimal text of the number.
use Rattle.std.proofs.Common.{if◌then◌else◌, ◌≡◌, ◌≢◌, ℕ, zero, suc, ◌≤◌, ◌<◌, ◌^◌, Bool, true, false, ◌&&◌, List, [], ◌∷◌, length, get_or, Option, Some, None, decimal, refl, sym, ap, ◌∙◌, arith, rules, ◌↔◌, ltb, leb, inl, inr}
use Rattle.std.specs.List.{list_all}
use Rattle.std.proofs.lemmas.Str.Parse.{IsNumeralModel, numerals_by_fold}
use Rattle.std.proofs.lemmas.Fmt.{digits_decimal, digits_value-decimal, decimal-digits_value, decimal_nonempty, first_decimal, decimal_digit}
use Rattle.std.proofs.lemmas.Bool.{false≢true, lt-ltb, le-leb, ltb-true, leb-true, and_parts, and_from, cases_Bool, false_from_ne_true}
use Rattle.gt_base.specs.Names.{is_digit, counted, is_number, number_in, number_from}

own : IsNumeralModel (λ ds. list_all is_digit ds ≡ true) (counted 0)
own = numerals_by_fold _ (search rules) counted (search rules)

digits_of_number : (w : List ℕ) → is_number w ≡ true → list_all is_digit w ≡ true
digits_of_number [] h = cc
digits_of_number (b ∷ []) h = and_from (is_digit b) true h refl
digits_of_number (b ∷ c ∷ bs) h =
    let outer = and_parts (is_digit b && ltb 48 b) (list_all is_digit (c ∷ bs)) h in
    and_from (is_digit b) (list_all is_digit (c ∷ bs)) (and_parts (is_digit b) (ltb 48 b) outer.0).0 outer.1

some_digit : (w : List ℕ) → is_number w ≡ true → 0 < length w
some_digit [] h = absurd (false≢true h)
some_digit (b ∷ bs) h = omega arith

alone : (w : List ℕ) → is_number w ≡ true → get_or w 0 0 ≡ 48 → length w ≡ 1
alone [] h e = absurd (false≢true h)
alone (b ∷ []) h e = refl
alone (b ∷ c ∷ bs) h e =
    let outer = and_parts (is_digit b && ltb 48 b) (list_all is_digit (c ∷ bs)) h in
    let above = and_parts (is_digit b) (ltb 48 b) outer.0 in
    absurd (omega (arith, ltb-true 48 b above.1, e))

number_of_digits : (w : List ℕ) → list_all is_digit w ≡ true → 0 < length w → (1 < length w → 48 < get_or w 0 0) → is_number w ≡ true
number_of_digits [] h some first = absurd (omega (arith, some))
number_of_digits (b ∷ []) h some first = (and_parts (is_digit b) true h).0
number_of_digits (b ∷ c ∷ bs) h some first =
    let parts = and_parts (is_digit b) (list_all is_digit (c ∷ bs)) h in
    and_from (is_digit b && ltb 48 b) (list_all is_digit (c ∷ bs)) (and_from (is_digit b) (ltb 48 b) parts.0 (lt-ltb 48 b (first (omega arith)))) parts.1

counted_is : (w : List ℕ) (n : ℕ) → number_in w ≡ Some n → (is_number w ≡ true) × (counted 0 w ≡ n)
counted_is w n e = elim (cases_Bool (is_number w)) [
  | inl t ↦ (t, some_is (sym (ap (λ b. if b then Some (counted 0 w) else None) t) ∙ e))
  | inr f ↦ absurd (none_some (sym (ap (λ b. if b then Some (counted 0 w) else None) f) ∙ e))
]
  where
    some_is : {m : ℕ} → Some m ≡ Some n → m ≡ n
    some_is e = cc

    none_some : None ≡ Some n → ⊥
    none_some e = cc

pub number_text : (w : List ℕ) (n : ℕ) → n < 2 ^ 64 → number_in w ≡ Some n → w ≡ decimal n
number_text w n small e =
    let is = counted_is w n e in
    sym (decimal-digits_value own w (digits_of_number w is.0) (some_digit w is.0) (alone w is.0) (omega (arith, is.1))) ∙ ap decimal is.1

first_of : (n : ℕ) → n < 2 ^ 64 → 1 < length (decimal n) → 48 < get_or (decimal n) 0 0
first_of zero small long = absurd (omega (arith, long, ap length (decimal_digit 0 (omega arith))))
first_of (suc n) small long = first_decimal (suc n) (omega arith) small

pub is_number-decimal : (n : ℕ) → n < 2 ^ 64 → is_number (decimal n) ≡ true
is_number-decimal n small = number_of_digits (decimal n) (digits_decimal own n small) (decimal_nonempty n small) (first_of n small)

pub counted_decimal : (n : ℕ) → n < 2 ^ 64 → counted 0 (decimal n) ≡ n
counted_decimal n small = digits_value-decimal own n small

pub number_in-decimal : (n : ℕ) → n < 2 ^ 64 → number_in (decimal n) ≡ Some n
number_in-decimal n small =
    ap (λ b. if b then Some (counted 0 (decimal n)) else None) (is_number-decimal n small) ∙ ap (λ k. Some k) (counted_decimal n small)

pub numbers_are_decimal : (word : List ℕ) (n : ℕ) → n < 2 ^ 64 → (number_in word ≡ Some n) ↔ (word ≡ decimal n)
numbers_are_decimal word n small = (number_text word n small, λ e. ap number_in e ∙ number_in-decimal n small)

-- numbers between bounds

pub number_from-decimal : (least most n : ℕ) → least ≤ n → n ≤ most → most < 2 ^ 64 → number_from least most (decimal n) ≡ Some n
number_from-decimal least most n low high small =
    ap (λ (r : Option ℕ). elim r [ None ↦ None | Some n ↦ if leb least n && leb n most then Some n else None ]) (number_in-decimal n (omega arith))
    ∙ ap (λ b. if b then Some n else None) (and_from (leb least n) (leb n most) (le-leb least n low) (le-leb n most high))

number_from-low : (least most n : ℕ) → n < least → n ≤ most → most < 2 ^ 64 → number_from least most (decimal n) ≡ None
number_from-low least most n low high small =
    ap (λ (r : Option ℕ). elim r [ None ↦ None | Some n ↦ if leb least n && leb n most then Some n else None ]) (number_in-decimal n (omega arith))
    ∙ ap (λ b. if b then Some n else None) (false_from_ne_true (leb least n && leb n most) (λ t. absurd (omega (arith, low, leb-true least n (and_parts (leb least n) (leb n most) t).0))))

pub number_from_is : (least most : ℕ) (w : List ℕ) (n : ℕ) → most < 2 ^ 64 → number_from least most w ≡ Some n → (least ≤ n) × (n ≤ most) × (w ≡ decimal n)
number_from_is least most w n small e = by (number_in w) refl
  where
    within : (k : ℕ) → number_in w ≡ Some k → (b : Bool) → (leb least k && leb k most) ≡ b → if b then Some k else None ≡ Some n → (least ≤ n) × (n ≤ most) × (w ≡ decimal n)
    within k is true t e =
        let same : k ≡ n = cc in
        let bounds = and_parts (leb least k) (leb k most) t in
        let low : least ≤ n = omega (arith, leb-true least k bounds.0, same) in
        let high : n ≤ most = omega (arith, leb-true k most bounds.1, same) in
        (low, high, number_text w n (omega arith) (is ∙ ap (λ j. Some j) same))
    within k is false t e = absurd (none_is e)
      where
        none_is : None ≡ Some n → ⊥
        none_is e = cc

    by : (r : Option ℕ) → number_in w ≡ r → (least ≤ n) × (n ≤ most) × (w ≡ decimal n)
    by None is = absurd (none_is (sym (ap (λ (r : Option ℕ). elim r [ None ↦ None | Some n ↦ if leb least n && leb n most then Some n else None ]) is) ∙ e))
      where
        none_is : None ≡ Some n → ⊥
        none_is e = cc
    by (Some k) is = within k is (leb least k && leb k most) refl (sym (ap (λ (r : Option ℕ). elim r [ None ↦ None | Some n ↦ if leb least n && leb n most then Some n else None ]) is) ∙ e)

-- what is read as no number up to `most` is the text of none
pub number_from_none : (most : ℕ) (w : List ℕ) (n : ℕ) → most < 2 ^ 64 → None ≡ number_from 0 most w → n ≤ most → w ≢ decimal n
number_from_none most w n small none high e =
    none_is (none ∙ ap (number_from 0 most) e ∙ number_from-decimal 0 most n (omega arith) high small)
  where
    none_is : None ≡ Some n → ⊥
    none_is e = cc

pub all_digits : (n : ℕ) → n < 2 ^ 64 → list_all is_digit (decimal n) ≡ true
all_digits n small = digits_decimal own n small
