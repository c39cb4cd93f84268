-- A text that is cut at its first feed, and a line at its first blank.
use Rattle.std.proofs.Common.{◌≡◌, ◌<◌, ◌≤◌, ◌+◌, ℕ, zero, suc, Bool, true, false, cond, nat_lt, eqb, List, [], ◌∷◌, length, get_or, take, drop, refl, sym, ap, ◌∙◌, arith, add-one, inl, inr}
use Rattle.std.specs.List.{slice_split, onto_first, filter}
use Rattle.std.proofs.lemmas.List.Splits.{slice_split-cons_yes, slice_split-cons_no}
use Rattle.std.proofs.lemmas.Bool.{lt-ltb, cases_lt, false≢true}
use Rattle.std.proofs.lemmas.List.{take_all, drop_all, length-take}
use Rattle.std.proofs.Math.Seq.{drop-cons}
use Rattle.gt_text.specs.Lines.{is_feed, but_empty_last, lines_of}
use Rattle.gt_text.specs.Words.{is_blank, blank_cut}

not_true : (b : Bool) → (b ≡ true → ⊥) → b ≡ false
not_true true h = absurd (h refl)
not_true false h = refl

-- the first part ends at the first element that passes
cut_at : (p : ℕ → Bool) (text : List ℕ) (k : ℕ) → k < length text → p (get_or text k 0) ≡ true
    → ((i : ℕ) → i < k → p (get_or text i 0) ≡ false) → slice_split p text ≡ take k text ∷ slice_split p (drop (suc k) text)
cut_at p [] k h t n = absurd (omega arith)
cut_at p (x ∷ xs) zero h t n = slice_split-cons_yes p x xs t
cut_at p (x ∷ xs) (suc k) h t n =
    slice_split-cons_no p x xs (n 0 (omega arith)) ∙ ap (onto_first x) (cut_at p xs k (omega arith) t (λ i l. n (suc i) (omega arith)))

-- where none passes there is one part
cut_nowhere : (p : ℕ → Bool) (text : List ℕ) → ((i : ℕ) → i < length text → p (get_or text i 0) ≡ false) → slice_split p text ≡ text ∷ []
cut_nowhere p [] n = refl
cut_nowhere p (x ∷ xs) n =
    slice_split-cons_no p x xs (n 0 (omega arith)) ∙ ap (onto_first x) (cut_nowhere p xs (λ i l. n (suc i) (omega arith)))

-- a byte that was put onto the first part leaves a part
kept_onto : (part : List ℕ) (x : ℕ) (parts : List (List ℕ)) → but_empty_last (part ∷ onto_first x parts) ≡ part ∷ but_empty_last (onto_first x parts)
kept_onto part x [] = refl
kept_onto part x (next ∷ more) = refl

-- a part that was cut off stays
kept_first : (p : ℕ → Bool) (part text : List ℕ) → but_empty_last (part ∷ slice_split p text) ≡ part ∷ but_empty_last (slice_split p text)
kept_first p part [] = refl
kept_first p part (x ∷ xs) =
    elim (p x) as (λ b. but_empty_last (part ∷ cond b ([] ∷ slice_split p xs) (onto_first x (slice_split p xs)))
    ≡ part ∷ but_empty_last (cond b ([] ∷ slice_split p xs) (onto_first x (slice_split p xs)))) [
      | true ↦ refl
      | false ↦ kept_onto part x (slice_split p xs)
    ]

pub lines_at : (text : List ℕ) (end : ℕ) → end < length text → is_feed (get_or text end 0) ≡ true
    → ((k : ℕ) → 0 ≤ k → k < end → is_feed (get_or text k 0) ≡ true → ⊥) → lines_of text ≡ take end text ∷ lines_of (drop (end + 1) text)
lines_at text end h t before =
    ap but_empty_last (cut_at is_feed text end h t (λ k l. not_true _ (before k (omega arith) l)))
    ∙ kept_first is_feed (take end text) (drop (suc end) text)
    ∙ ap (λ n. take end text ∷ lines_of (drop n text)) (sym (add-one end))

pub lines_nowhere : (text : List ℕ) → eqb (length text) 0 ≡ false → ((k : ℕ) → 0 ≤ k → k < length text → is_feed (get_or text k 0) ≡ true → ⊥)
    → lines_of text ≡ text ∷ []
lines_nowhere text some nowhere =
    ap but_empty_last (cut_nowhere is_feed text (λ k l. not_true _ (nowhere k (omega arith) l))) ∙ ap (λ b. cond b [] (text ∷ [])) some

abbrev is_some_word : List ℕ → Bool
is_some_word word = nat_lt 0 (length word)

kept_word : (word : List ℕ) (words : List (List ℕ)) → 0 < length word → filter is_some_word (word ∷ words) ≡ word ∷ filter is_some_word words
kept_word word words h = ap (λ b. cond b (word ∷ filter is_some_word words) (filter is_some_word words)) (lt-ltb 0 (length word) h)

words_blank : (x : ℕ) (xs : List ℕ) → is_blank x ≡ true → blank_cut (x ∷ xs) ≡ blank_cut xs
words_blank x xs t = ap (filter is_some_word) (slice_split-cons_yes is_blank x xs t)

-- a line that begins with a word
words_cut : (line : List ℕ) (end : ℕ) → 0 < end → end ≤ length line → ((k : ℕ) → k < end → is_blank (get_or line k 0) ≡ false)
    → (end < length line → is_blank (get_or line end 0) ≡ true) → blank_cut line ≡ take end line ∷ blank_cut (drop end line)
words_cut line end some h before at =
    elim (cases_lt end (length line)) [
      | inl l ↦
          ap (filter is_some_word) (cut_at is_blank line end l (at l) before)
          ∙ kept_word (take end line) (slice_split is_blank (drop (suc end) line)) (omega (arith, length-take end line))
          ∙ ap (λ words. take end line ∷ words)
          (sym (ap blank_cut (drop-cons line end 0 l) ∙ words_blank (get_or line end 0) (drop (suc end) line) (at l)))
      | inr g ↦
          ap (filter is_some_word) (cut_nowhere is_blank line (λ k l. before k (omega arith)))
          ∙ kept_word line [] (omega arith)
          ∙ sym (ap (λ word. word ∷ blank_cut (drop end line)) (take_all end line g) ∙ ap (λ rest. line ∷ blank_cut rest) (drop_all end line g))
    ]

-- a line that begins with a word, up to the first blank or the end
pub words_upto : (text : List ℕ) (end : ℕ) → 0 < length text → is_blank (get_or text 0 0) ≡ false → end ≤ length text
    → ((k : ℕ) → k < end → is_blank (get_or text k 0) ≡ false) → (end < length text → is_blank (get_or text end 0) ≡ true)
    → blank_cut text ≡ take end text ∷ blank_cut (drop end text)
words_upto text zero some first high before at = absurd (false≢true (sym first ∙ at some))
words_upto text (suc end) some first high before at = words_cut text (suc end) (omega arith) high before at

one_at_most : (part : List ℕ) → length (but_empty_last (part ∷ [])) ≤ 1
one_at_most part =
    elim (eqb (length part) 0) as (λ b. length (cond {A = List (List ℕ)} b [] (part ∷ [])) ≤ 1) [ true ↦ omega arith | false ↦ omega arith ]

onto_counts : (x : ℕ) (parts : List (List ℕ)) (n : ℕ) → length (but_empty_last parts) ≤ n → length (but_empty_last (onto_first x parts)) ≤ n + 1
onto_counts x [] n h = omega arith
onto_counts x (part ∷ []) n h = omega (arith, one_at_most (x ∷ part))
onto_counts x (part ∷ next ∷ more) n h = omega arith

-- a text has no more lines than bytes
pub line_count : (text : List ℕ) → length (lines_of text) ≤ length text
line_count [] = omega arith
line_count (x ∷ xs) = elim (is_feed x) as (λ b. length (but_empty_last (cond b ([] ∷ slice_split is_feed xs) (onto_first x (slice_split is_feed xs)))) ≤ suc (length xs)) [
  | true ↦ rw (kept_first is_feed [] xs) (omega (arith, line_count xs))
  | false ↦ omega (arith, onto_counts x (slice_split is_feed xs) (length xs) (line_count xs))
]

pub ruleset line_counts = (line_count)
