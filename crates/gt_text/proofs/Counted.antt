-- What is counted from the front is the number that the word is.
use Rattle.std.proofs.Common.{if◌then◌else◌, ◌≡◌, ℕ, ◌+◌, ◌-◌, ◌*◌, ◌≤◌, Bool, true, false, cond, ◌&&◌, List, [], ◌∷◌, Option, Some, None, refl, sym, ap, ◌∙◌, arith, leb, ltb, inl, inr}
use Rattle.std.specs.List.{list_all}
use Rattle.std.proofs.lemmas.Bool.{false≢true, le-leb, leb-true, and_parts, and_from, cases_Bool, false_from_ne_true}
use Rattle.gt_base.specs.Names.{is_digit, counted, is_number, number_from}
use Rattle.gt_text.specs.Numbers.{is_plain, count_to}

-- a number grows by its digits
counted_up : (n : ℕ) (ds : List ℕ) → n ≤ counted n ds
counted_up n [] = omega arith
counted_up n (b ∷ bs) = omega (arith, counted_up (10 * n + (b - 48)) bs)

abbrev found : Bool → ℕ → Option ℕ
found t n = if t then Some n else None

abbrev kept : ℕ → ℕ → List ℕ → Option ℕ
kept most n ds = found (list_all is_digit ds && leb (counted n ds) most) (counted n ds)

abbrev behind : ℕ → List ℕ → Option ℕ → Option ℕ
behind most bs r = elim r as (λ _. Option ℕ) [ None ↦ None | Some m ↦ count_to most m bs ]

count_step : (most n b : ℕ) (bs : List ℕ) (t : Bool) → (is_digit b && leb (10 * n + (b - 48)) most) ≡ t
    → count_to most n (b ∷ bs) ≡ behind most bs (cond t (Some (10 * n + (b - 48))) None)
count_step most n b bs t e = ap (λ t. behind most bs (cond t (Some (10 * n + (b - 48))) None)) e

kept_step : (most n b : ℕ) (bs : List ℕ) (d : Bool) → is_digit b ≡ d
    → kept most n (b ∷ bs) ≡ found (d && list_all is_digit bs && leb (counted (10 * n + (b - 48)) bs) most) (counted (10 * n + (b - 48)) bs)
kept_step most n b bs d e = ap (λ d. found (d && list_all is_digit bs && leb (counted (10 * n + (b - 48)) bs) most) (counted (10 * n + (b - 48)) bs)) e

count_to_is : (most n : ℕ) (ds : List ℕ) → n ≤ most → count_to most n ds ≡ kept most n ds
count_to_is most n [] h = sym (ap (λ t. found t n) (le-leb n most h))
count_to_is most n (b ∷ bs) h =
    let m = 10 * n + (b - 48) in
    elim (cases_Bool (is_digit b)) [
      | inl d ↦
          elim (cases_Bool (leb m most)) [
            | inl u ↦
                count_step most n b bs true (and_from (is_digit b) (leb m most) d u)
                ∙ count_to_is most m bs (leb-true m most u) ∙ sym (kept_step most n b bs true d)
            | inr u ↦
                let none : (list_all is_digit bs && leb (counted m bs) most) ≡ false =
                false_from_ne_true _ (λ t. false≢true (sym u
                ∙ le-leb m most (omega (arith, counted_up m bs, leb-true (counted m bs) most (and_parts (list_all is_digit bs) _ t).1)))) in
                count_step most n b bs false (ap (λ z. z && leb m most) d ∙ u)
                ∙ sym (kept_step most n b bs true d ∙ ap (λ t. found t (counted m bs)) none)
          ]
      | inr d ↦ count_step most n b bs false (ap (λ z. z && leb m most) d) ∙ sym (kept_step most n b bs false d)
    ]

and_swap : (a b c : Bool) → (a && b && c) ≡ (b && (a && c))
and_swap true true c = refl
and_swap true false c = refl
and_swap false true c = refl
and_swap false false c = refl

and_one : (a : Bool) → a ≡ (a && true)
and_one true = refl
and_one false = refl

is_number_plain : (w : List ℕ) → is_number w ≡ (is_plain w && list_all is_digit w)
is_number_plain [] = refl
is_number_plain (b ∷ []) = and_one (is_digit b)
is_number_plain (b ∷ c ∷ bs) = and_swap (is_digit b) (ltb 48 b) (list_all is_digit (c ∷ bs))

abbrev between : ℕ → Option ℕ → Option ℕ
between most r = elim r as (λ _. Option ℕ) [ None ↦ None | Some n ↦ found (leb 0 n && leb n most) n ]

by_test : (most n : ℕ) (t : Bool) → between most (found t n) ≡ found (t && leb n most) n
by_test most n true = ap (λ z. found (z && leb n most) n) (le-leb 0 n (omega arith))
by_test most n false = refl

from_number : (most : ℕ) (w : List ℕ) (t : Bool) → is_number w ≡ t → number_from 0 most w ≡ found (t && leb (counted 0 w) most) (counted 0 w)
from_number most w t e = ap (λ b. between most (found b (counted 0 w))) e ∙ by_test most (counted 0 w) t

pub number_to_none : (most : ℕ) (w : List ℕ) → is_plain w ≡ false → None ≡ number_from 0 most w
number_to_none most w h = sym (from_number most w false (is_number_plain w ∙ rw h refl))

pub number_to_count : (most : ℕ) (w : List ℕ) → is_plain w ≡ true → count_to most 0 w ≡ number_from 0 most w
number_to_count most w h =
    count_to_is most 0 w (omega arith) ∙ sym (from_number most w (list_all is_digit w) (is_number_plain w ∙ rw h refl))
