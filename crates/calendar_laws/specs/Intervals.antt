-- How the intervals of a calendar lie on the minutes.
use Rattle.std.specs.Prelude.{◌≡◌, ℕ, ◌+◌, ◌≤◌, ◌<◌}
use Rattle.gtrbac_model.specs.declared.calendars.Calendar.{Calendar}
use Rattle.gtrbac_model.specs.Calendar.{first_minute, interval_of}

-- Each minute lies in just one interval of each calendar. The first two days of year 0 are in no
-- week.
pub record IntervalsCover : Type 0 where
  pub rising : (c : Calendar) (j k : ℕ) → j < k → first_minute c j < first_minute c k
  pub begun : (c : Calendar) (m : ℕ) → 2880 ≤ m → first_minute c (interval_of c m) ≤ m
  pub goes_on : (c : Calendar) (m : ℕ) → m < first_minute c (interval_of c m + 1)
  pub only : (c : Calendar) (m k : ℕ) → first_minute c k ≤ m → m < first_minute c (k + 1)
      → interval_of c m ≡ k
