-- A word that is cut at its first colon.
use Rattle.std.proofs.Common.{◌≡◌, ℕ, ◌+◌, ◌<◌, ◌≤◌, true, List, [], length, take, drop, get_or, sym, ◌∙◌, ap, arith}
use Rattle.std.specs.List.{before_first, after_first, position_or_len}
use Rattle.std.proofs.lemmas.List.Sums.{position_or_len_is}
use Rattle.std.proofs.lemmas.List.{drop_all, drop-drop}
use Rattle.policy_words.specs.Wording.{is_colon}
use Rattle.policy_lines.proofs.Truths.{not_true}

module _ (word : List ℕ) where
  colon_at : (k : ℕ) → k < length word → is_colon (get_or word k 0) ≡ true → ((i : ℕ) → 0 ≤ i → i < k → is_colon (get_or word i 0) ≡ true → ⊥) → position_or_len is_colon word ≡ k
  colon_at k lt is before = position_or_len_is is_colon word k 0 (omega (arith, lt)) (λ i l. not_true _ (before i (omega arith) l)) (λ l. is)

  pub front_is : (k : ℕ) (front : List ℕ) → k < length word → is_colon (get_or word k 0) ≡ true → ((i : ℕ) → 0 ≤ i → i < k → is_colon (get_or word i 0) ≡ true → ⊥) → front ≡ take k word → front ≡ before_first is_colon word
  front_is k front lt is before e = e ∙ ap (λ j. take j word) (sym (colon_at k lt is before))

  pub back_is : (k : ℕ) (rest back : List ℕ) → k < length word → is_colon (get_or word k 0) ≡ true → ((i : ℕ) → 0 ≤ i → i < k → is_colon (get_or word i 0) ≡ true → ⊥) → rest ≡ drop k word → back ≡ drop 1 rest → back ≡ after_first is_colon word
  back_is k rest back lt is before e f = f ∙ ap (drop 1) e ∙ drop-drop 1 k word ∙ ap (λ j. drop j word) (omega arith) ∙ ap (λ j. drop (j + 1) word) (sym (colon_at k lt is before))

  -- without a colon nothing is behind it
  pub nothing_behind : ((i : ℕ) → 0 ≤ i → i < length word → is_colon (get_or word i 0) ≡ true → ⊥) → after_first is_colon word ≡ []
  nothing_behind nowhere =
      let at : position_or_len is_colon word ≡ length word = position_or_len_is is_colon word (length word) 0 (omega arith) (λ i l. not_true _ (nowhere i (omega arith) l)) (λ l. absurd (omega (arith, l))) in
      ap (λ j. drop (j + 1) word) at ∙ drop_all (length word + 1) word (omega arith)
