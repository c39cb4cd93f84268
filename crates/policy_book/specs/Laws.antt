-- Laws of the policies that lines make.
use Rattle.std.specs.Prelude.{◌≡◌, ℕ, ◌+◌, List, [], ◌∷◌, All, Ok, IsTrue}
use Rattle.policy_words.specs.Sayings.{SaidView, is_saying}
use Rattle.policy_words.specs.Reading.{Numbered}
use Rattle.policy_words.specs.Naming.{NamedPolicy}
use Rattle.policy_words.specs.LinesTogether.{build}
use Rattle.policy_words.specs.Valid.{IsWellFormed}

-- what lines in range without a fault make is well formed
abbrev pub BuildIsWellFormed : Type 0
BuildIsWellFormed = (ss : List (Numbered SaidView)) (np : NamedPolicy)
    → All (λ s. IsTrue (is_saying s.it)) ss → build ss ≡ Ok np → IsWellFormed np

-- lines with their numbers, from this one on
abbrev pub numbered_from : ℕ → List SaidView → List (Numbered SaidView)
numbered_from n [] = []
numbered_from n (s ∷ ss) = record { line = n; it = s } ∷ numbered_from (n + 1) ss
