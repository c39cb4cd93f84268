-- What the searches for begins find.
use Rattle.std.specs.Prelude.{◌≡◌, ℕ, ◌+◌, ◌≤◌, ◌<◌, true, false}
use Rattle.gt_base.specs.declared.limits.TheConstants.{MAX_LENGTH}
use Rattle.gtrbac_model.specs.Calendar.{first_minute}
use Rattle.gtrbac_model.specs.Period.{Expr, begins, begun_within}

-- the first minute of an interval of the length's calendar
abbrev pub unit_first : Expr → ℕ → ℕ
unit_first e k = first_minute e.unit k

-- no minute from this one on and below the end is a begin
abbrev pub HasNoBegin : Expr → ℕ → ℕ → Type 0
HasNoBegin e from end = (m : ℕ) → from ≤ m → m < end → begins e m ≡ false

-- the first begin from this minute on, not after the minute `upto`
pub record IsFirstBegin (e : Expr) (from upto m : ℕ) : Type 0 where
  pub low : from ≤ m
  pub within : m ≤ upto
  pub begin : begins e m ≡ true
  pub before : HasNoBegin e from m

-- the last begin up to the minute `upto`, not before this one
pub record IsLastBegin (e : Expr) (from upto m : ℕ) : Type 0 where
  pub low : from ≤ m
  pub within : m ≤ upto
  pub begin : begins e m ≡ true
  pub after : HasNoBegin e (m + 1) (upto + 1)

-- each unit from k to before j lies within the length of a begin
pub record IsCovered (e : Expr) (k j : ℕ) : Type 0 where
  pub later : k < j
  pub near : j ≤ k + MAX_LENGTH
  pub within : (h : ℕ) → k ≤ h → h < j → begun_within e e.count h ≡ true
