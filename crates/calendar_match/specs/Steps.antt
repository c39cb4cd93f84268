-- Which numbers a set picks next, and which minutes a search passes over.
use Rattle.std.specs.Prelude.{◌≡◌, ℕ, ◌+◌, ◌-◌, ◌≤◌, ◌<◌, Bool, true, false, ◌&&◌, ◌||◌, nat_eq, nat_le, nat_lt, List, [], ◌∷◌, slice_index, length, Option, Some, None, if◌then◌else◌}
use Rattle.std.specs.List.{AllWithin, list_any}
use Rattle.gtrbac_model.specs.declared.calendars.Calendar.{Calendar}
use Rattle.gtrbac_model.specs.declared.calendars.Calendar.TheVariants.{Years, Months, Weeks, Days, Hours, Minutes}
use Rattle.gtrbac_model.specs.Calendar.{number_within}
use Rattle.gtrbac_model.specs.Period.{Part, Expr, picks}
use Rattle.gtrbac_model.specs.Valid.{is_same, is_set}
use Rattle.gtrbac_model.specs.Selects.{last_calendar}

-- the least number from n on that the set picks
pub record IsNextPicked (set : Option (List ℕ)) (n k : ℕ) : Type 0 where
  pub low : n ≤ k
  pub high : k ≤ n + 999_999_999
  pub picked : picks set k ≡ true
  pub between : (j : ℕ) → n ≤ j → j < k → picks set j ≡ false

-- the set picks no number from n on
abbrev pub PicksNoneFrom : Option (List ℕ) → ℕ → Type 0
PicksNoneFrom set n = (j : ℕ) → n ≤ j → picks set j ≡ false

-- the first i are those less than n
pub record LesserAreFirst (n : ℕ) (ns : List ℕ) (i : ℕ) : Type 0 where
  pub bound : i ≤ length ns
  pub first : AllWithin (λ m. m < n) ns 0 i
  pub others : AllWithin (λ m. n ≤ m) ns i (length ns)

-- the last number before the first that is greater than n, or else the one before the list
abbrev pub last_low : ℕ → Option ℕ → List ℕ → Option ℕ
last_low n last [] = last
last_low n last (m ∷ ms) = if nat_lt n m then last else last_low n (Some m) ms

-- the greatest number up to n that the set picks
pub record IsLastPicked (set : Option (List ℕ)) (n k : ℕ) : Type 0 where
  pub low : 1 ≤ k
  pub high : k ≤ n
  pub picked : picks set k ≡ true
  pub between : (j : ℕ) → k < j → j ≤ n → picks set j ≡ false

-- the set picks no number up to n
abbrev pub PicksNoneTo : Option (List ℕ) → ℕ → Type 0
PicksNoneTo set n = (j : ℕ) → j ≤ n → picks set j ≡ false

-- no minute from m on and below r passes, and r may be m itself only where it passes
pub record IsAhead (test : ℕ → Bool) (m r : ℕ) : Type 0 where
  pub later : m ≤ r
  pub passed : (u : ℕ) → m ≤ u → u < r → test u ≡ false
  pub here : r ≡ m → test m ≡ true

-- the same back from m
pub record IsBehind (test : ℕ → Bool) (m r : ℕ) : Type 0 where
  pub earlier : r ≤ m
  pub passed : (u : ℕ) → r < u → u ≤ m → test u ≡ false
  pub here : r ≡ m → test m ≡ true

-- no minute from m on and below r passes, and some do not
pub record IsPassed (test : ℕ → Bool) (m r : ℕ) : Type 0 where
  pub later : m < r
  pub passed : (u : ℕ) → m ≤ u → u < r → test u ≡ false

-- the same back from m
pub record IsPassedBack (test : ℕ → Bool) (m r : ℕ) : Type 0 where
  pub earlier : r < m
  pub passed : (u : ℕ) → r < u → u ≤ m → test u ≡ false

-- the set picks the number of the inner interval at the minute
abbrev pub picks_at : Calendar → Calendar → Option (List ℕ) → ℕ → Bool
picks_at outer inner set m = picks set (number_within outer inner m)

-- each part is all, or some positive numbers in ascending order
abbrev pub are_sets : List Part → Bool
are_sets [] = true
are_sets (p ∷ ps) = is_set p.set && are_sets ps

-- an interval of the first calendar has at most so many of the second
abbrev pub most_in : Calendar → Calendar → ℕ
most_in Years Months = 12
most_in Years Days = 366
most_in Years Hours = 8784
most_in Years Minutes = 527_040
most_in Months Days = 31
most_in Months Hours = 744
most_in Months Minutes = 44_640
most_in Weeks Days = 7
most_in Weeks Hours = 168
most_in Weeks Minutes = 10_080
most_in Days Hours = 24
most_in Days Minutes = 1440
most_in Hours Minutes = 60
most_in _ _ = 1

abbrev pub has_upto : ℕ → Option (List ℕ) → Bool
has_upto n None = true
has_upto n (Some ns) = list_any (λ m. nat_le m n) ns

-- each further part has a number that some interval of the part before it has
abbrev pub can_select : Calendar → List Part → Bool
can_select c [] = true
can_select c (p ∷ ps) = has_upto (most_in c p.calendar) p.set && can_select p.calendar ps

abbrev pub can_begin_by : List Part → Bool
can_begin_by [] = false
can_begin_by (p ∷ ps) = can_select p.calendar ps

abbrev pub can_begin : Expr → Bool
can_begin e = can_begin_by e.parts

-- the set picks each number from 1 to n: it is all, or its number n in order is n
abbrev pub picks_upto : ℕ → Option (List ℕ) → Bool
picks_upto n None = true
picks_upto n (Some ns) = nat_eq (slice_index ns (n - 1)) n

-- each further part picks every number that an interval of the part before it has
abbrev pub take_all : Calendar → List Part → Bool
take_all c [] = true
take_all c (p ∷ ps) = picks_upto (most_in c p.calendar) p.set && take_all p.calendar ps

abbrev pub fills_by : List Part → Bool
fills_by [] = false
fills_by (p ∷ ps) = take_all p.calendar ps

-- each number from `next` to most is one of the rising numbers, or fewer than `reach` above one
abbrev pub dense_from : ℕ → ℕ → ℕ → List ℕ → Bool
dense_from reach most next [] = nat_lt most next
dense_from reach most next (m ∷ ms) =
    nat_lt most next || (nat_le m next && dense_from reach most (m + reach) ms)

abbrev pub is_dense : ℕ → ℕ → Option (List ℕ) → Bool
is_dense reach most None = true
is_dense reach most (Some ns) = dense_from reach most 1 ns

-- the further parts pick all, but for the last one, which picks no number `reach` or more after the
-- one before, nor before the end
abbrev pub dense_last : ℕ → Calendar → List Part → Bool
dense_last reach c [] = true
dense_last reach c (p ∷ ps) =
    (picks_upto (most_in c p.calendar) p.set && dense_last reach p.calendar ps)
    || (nat_eq (length ps) 0 && is_dense reach (most_in c p.calendar) p.set)

abbrev pub dense_by : ℕ → List Part → Bool
dense_by reach [] = false
dense_by reach (p ∷ ps) = dense_last reach p.calendar ps

-- each begin lasts to the next one: each interval of the last calendar is a begin, or the unit is
-- the last calendar
abbrev pub fills : Expr → Bool
fills e =
    (fills_by e.parts && nat_le (most_in (last_calendar e) e.unit) e.count) ||
    (is_same (last_calendar e) e.unit && dense_by e.count e.parts)

-- each interval of the calendar has as many minutes
abbrev pub is_fixed : Calendar → Bool
is_fixed Years = false
is_fixed Months = false
is_fixed _ = true

-- the sets above such a calendar pick all
abbrev pub repeats_from : Calendar → List Part → Bool
repeats_from c [] = is_fixed c
repeats_from c (p ∷ ps) =
    is_fixed c || (picks_upto (most_in c p.calendar) p.set && repeats_from p.calendar ps)

abbrev pub repeats_by : List Part → Bool
repeats_by [] = false
repeats_by (p ∷ ps) = repeats_from p.calendar ps

-- the begins come again each week
abbrev pub repeats : Expr → Bool
repeats e = repeats_by e.parts
