-- The texts of faults of the lines together.
use Rattle.std.specs.Prelude.{ℕ, List, [], ◌∷◌, ◌++◌, flat_map, codes}
use Rattle.policy_words.specs.PolicyRead.{at_line, kind_word}
use Rattle.policy_book.specs.declared.faults.BookFault.{BookFault}
use Rattle.policy_book.specs.declared.faults.BookFault.TheVariants.{Unknown, Twice, TooMany, HierarchyCycle, Memory}

abbrev pub with_bar : List ℕ → List ℕ
with_bar name = codes ">" ++ name

-- names with a bar between them
abbrev pub joined : List (List ℕ) → List ℕ
joined [] = []
joined (n ∷ ns) = n ++ flat_map with_bar ns

abbrev pub cycle_of_names : List (List ℕ) → List ℕ
cycle_of_names names = codes "policy: cycle " ++ joined names ++ codes "\n"

-- the text of a fault; want of memory has none
abbrev pub text_of_book : BookFault → List ℕ
text_of_book (Unknown n) = at_line n (codes "unknown")
text_of_book (Twice n) = at_line n (codes "twice")
text_of_book (TooMany n k) = at_line n (codes "many " ++ kind_word k)
text_of_book (HierarchyCycle es names) = cycle_of_names names.items
text_of_book Memory = []
