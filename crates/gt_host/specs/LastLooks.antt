-- What looks for a file have told.
use Rattle.std.specs.Prelude.{ℕ, ◌+◌, ◌-◌, ◌^◌, Bool, Ok, Err, min}
use Rattle.std.specs.declared.result.Result.{Result}

-- what the last look that did not fail has told, and how many have failed since
pub record LastLook : Type 0 where
  pub stands : Bool
  pub failed : ℕ

-- what a look makes of it; the count goes up to the end of its type
abbrev pub seen_by : {E : Type 0} → Result Bool E → LastLook → LastLook
seen_by (Ok stands) s = record { stands = stands; failed = 0 }
seen_by (Err e) s = record s { failed = min (s.failed + 1) (2 ^ 32 - 1) }
