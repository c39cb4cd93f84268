-- Answers that are remembered.
use Rattle.std.specs.Prelude.{ℕ, Bool}
use Rattle.instant_bases.specs.Nexts.{IsNextOf}
use Rattle.instant_bases.specs.declared.remembered.Remembered.{Remembered}
use Rattle.instant_bases.specs.declared.remembered.Remembered.TheVariants.{Unasked, Next}

-- what was asked is the next instant after this one that passes the test
abbrev pub IsNextAsked : (ℕ → Bool) → ℕ → Remembered → Type 0
IsNextAsked test at Unasked = Unit {0}
IsNextAsked test at (Next t) = IsNextOf test at t
