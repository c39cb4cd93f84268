-- The rest of a line after some words.
use Rattle.std.specs.Prelude.{ℕ, zero, suc, List, [], ◌∷◌, if◌then◌else◌}
use Rattle.gt_text.specs.Words.{is_blank}

-- the line without the blanks before it
abbrev pub unindented : List ℕ → List ℕ
unindented [] = []
unindented (b ∷ bs) = if is_blank b then unindented bs else b ∷ bs

-- what follows the first word
abbrev pub past_word : List ℕ → List ℕ
past_word [] = []
past_word (b ∷ bs) = if is_blank b then b ∷ bs else past_word bs

-- the line without the blanks at its end
abbrev pub trimmed : List ℕ → List ℕ
trimmed [] = []
trimmed (b ∷ bs) = elim (trimmed bs)
    [ [] ↦ if is_blank b then [] else b ∷ [] | c ∷ cs ↦ b ∷ c ∷ cs ]

-- the rest of a line after so many words and the blanks behind them
abbrev pub rest_after : ℕ → List ℕ → List ℕ
rest_after zero line = unindented line
rest_after (suc n) line = rest_after n (past_word (unindented line))
