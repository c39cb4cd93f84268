-- The names of a made policy, and where they stand.
use Rattle.std.proofs.Common.{◌≡◌, ℕ, ◌+◌, ◌≤◌, ◌<◌, Bool, true, false, ◌||◌, List, [], ◌∷◌, length, refl, ap, arith, decimal, rules, nat_eq}
use Rattle.std.specs.Prelude.{bytes_eq, unwrap_or}
use Rattle.std.specs.List.{list_all}
use Rattle.std.proofs.lemmas.Bool.{lt-ltb, le-leb, false_from_ne_true, not_from_false}
use Rattle.std.proofs.lemmas.Fmt.{decimal_injective, length-decimal-le, digits_decimal}
use Rattle.std.proofs.lemmas.List.FromFn.{length-map-range_with_len}
use Rattle.std.proofs.lemmas.Slice.Eq.{bytes_eq-Decides}
use Rattle.std.proofs.lemmas.Str.Parse.{IsNumeralModel, numerals_by_fold}
use Rattle.gt_base.specs.Names.{is_name, is_name_byte, is_letter, is_digit, counted}
use Rattle.gtrbac_model.proofs.Elements.{and_true, both_true}
use Rattle.policy_words.specs.Naming.{role_name, user_name, perm_name}
use Rattle.policy_words.specs.Valid.{are_names, repeats_later}
use Rattle.policy_gen.specs.Texts.{one, for_each}
use Rattle.gen_laws.specs.Made.{role_named, user_named, perm_named, names_of_made, role_at}
use Rattle.gen_laws.proofs.Ranges.{all_range, apart_range, get_range}

own : IsNumeralModel (λ ds. list_all is_digit ds ≡ true) (counted 0)
own = numerals_by_fold _ (search rules) counted (search rules)

digit_in_name : (b : ℕ) → is_digit b ≡ true → is_name_byte b ≡ true
digit_in_name b h = by (is_letter b) (is_digit b) h
  where
    by : (a d : Bool) → d ≡ true → (((a || d || nat_eq b 95) || nat_eq b 45) || nat_eq b 46) ≡ true
    by true d e = refl
    by false true e = refl
    by false false e = cc

digits_in_name : (ds : List ℕ) → list_all is_digit ds ≡ true → list_all is_name_byte ds ≡ true
digits_in_name [] h = refl
digits_in_name (d ∷ ds) h = let parts = both_true (is_digit d) _ h in and_true _ _ (digit_in_name d parts.0) (digits_in_name ds parts.1)

-- a letter and a number below 1,000
module _ (c : ℕ) where
  abbrev named : ℕ → List ℕ
  named i = one (c ∷ []) i

  tail_same : (xs ys : List ℕ) → ◌≡◌ {A = List ℕ} (c ∷ xs) (c ∷ ys) → xs ≡ ys
  tail_same xs ys e = cc

  pub named_apart : (i j : ℕ) → i < j → j < 1_000 → bytes_eq (named i) (named j) ≡ false
  named_apart i j lt high =
      false_from_ne_true _ (λ e.
      let same : i ≡ j = decimal_injective i j (omega (arith, lt, high)) (omega (arith, high)) (tail_same (decimal i) (decimal j) ((bytes_eq-Decides (named i) (named j)).0 e)) in
      omega (arith, same, lt))

  pub named_name : is_letter c ≡ true → (i : ℕ) → i < 1_000 → is_name (named i) ≡ true
  named_name letter i lt =
      let short : length (decimal i) ≤ 3 = length-decimal-le 3 i (omega arith) lt (omega arith) in
      and_true _ _ (and_true (is_letter c) _ letter (digits_in_name (decimal i) (digits_decimal own i (omega (arith, lt))))) (lt-ltb (length (decimal i)) 32 (omega (arith, short)))

  pub named_good : is_letter c ≡ true → (k most : ℕ) → k ≤ 200 → 200 ≤ most → are_names most (for_each named k) ≡ true
  named_good letter k most few big =
      let many : length (for_each named k) ≡ k = length-map-range_with_len named 1 k in
      and_true _ _
      (and_true _ _ (le-leb (length (for_each named k)) most (omega (arith, many))) (all_range is_name named 1 k (λ i low high. named_name letter i (omega (arith, high)))))
      (not_from_false _ (apart_range bytes_eq repeats_later refl (λ _ _. refl) named 1 k (λ i j lt high. named_apart i j lt (omega (arith, high)))))

-- names by their numbers

module _ (k n : ℕ) (lt : n < k) where
  pub role_name_of : role_name (names_of_made k) (role_at n) ≡ role_named (n + 1)
  role_name_of = ap (λ o. unwrap_or o []) (get_range role_named 1 k n (n + 1) lt (omega arith))

  pub user_name_of : user_name (names_of_made k) (record { 0 = n }) ≡ user_named (n + 1)
  user_name_of = ap (λ o. unwrap_or o []) (get_range user_named 1 k n (n + 1) lt (omega arith))

  pub perm_name_of : perm_name (names_of_made k) (record { 0 = n }) ≡ perm_named (n + 1)
  perm_name_of = ap (λ o. unwrap_or o []) (get_range perm_named 1 k n (n + 1) lt (omega arith))
