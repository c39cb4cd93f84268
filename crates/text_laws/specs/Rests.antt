-- Where the rest of a line after some words stands.
use Rattle.std.specs.Prelude.{◌≡◌, ℕ, true, false, List, [], ◌∷◌, ◌++◌, take, drop}
use Rattle.std.specs.List.{list_all}
use Rattle.gt_text.specs.Lines.{without_return}
use Rattle.gt_text.specs.Words.{is_blank, blank_cut}
use Rattle.policy_words.specs.Rests.{trimmed, rest_after}
use Rattle.policy_words.specs.Reading.{expr_of_line}

-- the text is a front, the rest, and blanks: the front has the first n words and the rest has the
-- others, and the rest neither begins nor ends with a blank
pub record IsRestAfter (n : ℕ) (text rest : List ℕ) : Type 0 where
  pub front : List ℕ
  pub blanks : List ℕ
  pub whole : text ≡ front ++ rest ++ blanks
  pub only_blanks : list_all is_blank blanks ≡ true
  pub words : blank_cut front ≡ take n (blank_cut text)
  pub others : blank_cut rest ≡ drop n (blank_cut text)
  pub begins : (b : ℕ) (bs : List ℕ) → rest ≡ b ∷ bs → is_blank b ≡ false
  pub ends : (bs : List ℕ) (b : ℕ) → rest ≡ bs ++ b ∷ [] → is_blank b ≡ false

abbrev pub RestsAreCut : Type 0
RestsAreCut = (n : ℕ) (text : List ℕ) → IsRestAfter n text (trimmed (rest_after n text))

-- the expression of a period line is the rest after four words
abbrev pub ExprsAreCut : Type 0
ExprsAreCut = (line : List ℕ) → IsRestAfter 4 (without_return line) (expr_of_line line)
