-- Words of a line.
use Rattle.std.specs.Prelude.{ℕ, Bool, true, false, ◌==◌, ◌||◌, List, [], ◌∷◌, ◌++◌, length, filter, flat_map, nat_lt}
use Rattle.std.specs.List.{slice_split}
use Rattle.gt_text.specs.Lines.{without_return}

-- a space or a tab
abbrev pub is_blank : ℕ → Bool
is_blank b = b == 32 || b == 9

-- what stands between blanks
abbrev pub blank_cut : List ℕ → List (List ℕ)
blank_cut line = filter (λ word. nat_lt 0 (length word)) (slice_split is_blank line)

-- a line's words: what stands between blanks, without a carriage return at its end
abbrev pub words_of : List ℕ → List (List ℕ)
words_of line = blank_cut (without_return line)

abbrev pub begins_with : ℕ → List ℕ → Bool
begins_with c [] = false
begins_with c (b ∷ bs) = b == c

-- no words, or `#` before all else
abbrev pub are_silent : List (List ℕ) → Bool
are_silent [] = true
are_silent (word ∷ words) = begins_with 35 word

-- words with one space between two of them
abbrev pub joined_by : List ℕ → List (List ℕ) → List ℕ
joined_by between [] = []
joined_by between (word ∷ []) = word
joined_by between (word ∷ next ∷ more) = word ++ between ++ joined_by between (next ∷ more)

abbrev pub spaced : List (List ℕ) → List ℕ
spaced words = joined_by (32 ∷ []) words

-- each line with its line feed
abbrev pub as_text : List (List ℕ) → List ℕ
as_text lines = flat_map (λ line. line ++ 10 ∷ []) lines
