-- Words with one space between two of them, by the first and those behind it.
use Rattle.std.specs.Prelude.{ℕ, List, [], ◌∷◌, ◌++◌, codes, flat_map}
use Rattle.policy_words.specs.declared.parts.Item.{Item}
use Rattle.policy_words.specs.Wording.{item_words}

abbrev pub behind_space : List ℕ → List ℕ
behind_space word = 32 ∷ word

-- each with a space before it
abbrev pub later : List (List ℕ) → List ℕ
later words = flat_map behind_space words

-- the first without one
abbrev pub led : List (List ℕ) → List ℕ
led [] = []
led (word ∷ words) = word ++ later words

-- a further item
abbrev pub linked_item : Item → List ℕ
linked_item i = later (codes "and" ∷ item_words i)
