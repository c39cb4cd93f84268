-- The least instant that passes a test.
use Rattle.std.specs.Prelude.{◌≡◌, ℕ, ◌+◌, ◌-◌, ◌≤◌, ◌<◌, Bool, true, false, not}
use Rattle.gt_base.specs.declared.limits.TheConstants.{LAST_MINUTE}
use Rattle.gtrbac_model.specs.Calendar.{minute_of}
use Rattle.gtrbac_model.specs.Period.{Period, inside}
use Rattle.calendar_match.specs.Reach.{unit_first}

-- the least number from this one on that passes
pub record IsLeast (test : ℕ → Bool) (from t : ℕ) : Type 0 where
  pub later : from ≤ t
  pub passes : test t ≡ true
  pub least : (u : ℕ) → from ≤ u → u < t → test u ≡ false

-- the least instant after this one that passes
abbrev pub IsNext : (ℕ → Bool) → ℕ → ℕ → Type 0
IsNext test after t = IsLeast test (after + 1) t

-- no instant from this one on passes
abbrev pub IsNever : (ℕ → Bool) → ℕ → Type 0
IsNever test from = (u : ℕ) → from ≤ u → u ≤ LAST_MINUTE → test u ≡ false

-- none after this one does
abbrev pub HasNone : (ℕ → Bool) → ℕ → Type 0
HasNone test after = IsNever test (after + 1)

abbrev pub differ : Bool → Bool → Bool
differ true b = not b
differ false b = b

-- being inside differs from the minute before
abbrev pub turns : Period → ℕ → Bool
turns p t = differ (inside p t) (inside p (t - 1))

abbrev pub outside : Period → ℕ → Bool
outside p t = not (inside p t)

-- inside at each instant from this one to the last one of the period that lies before the unit k
abbrev pub StaysIn : Period → ℕ → ℕ → Type 0
StaysIn p from k =
    (u : ℕ) → from ≤ u → u ≤ p.last → minute_of u < unit_first p.expr k → inside p u ≡ true

-- inside at each instant from this one to the last one of the period
abbrev pub StaysAll : Period → ℕ → Type 0
StaysAll p from = (u : ℕ) → from ≤ u → u ≤ p.last → inside p u ≡ true

-- what is inside to beyond this minute stays so
abbrev pub IsHorizon : Period → ℕ → ℕ → Type 0
IsHorizon p from stop = (k : ℕ) → stop < unit_first p.expr k → StaysIn p from k → StaysAll p from
