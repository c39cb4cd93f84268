-- What a step forward or back passes over.
use Rattle.std.proofs.Common.{◌≡◌, ℕ, ◌+◌, ◌-◌, ◌<◌, ◌≤◌, true, false, List, [], ◌∷◌, Option, min, arith, ap, sym, ◌∙◌}
use Rattle.std.proofs.lemmas.Bool.{and_from, and_left, and_right, eq-eqb, ne_eqb}
use Rattle.gtrbac_model.specs.declared.calendars.Calendar.{Calendar}
use Rattle.gtrbac_model.specs.Calendar.{first_minute, interval_of, number_within}
use Rattle.gtrbac_model.specs.Period.{Part, selects}
use Rattle.gtrbac_model.proofs.Covers.{begun, goes_on, only, before_first, not_falling}
use Rattle.calendar_match.specs.Steps.{IsNextPicked, PicksNoneFrom, IsLastPicked, PicksNoneTo, IsAhead, IsBehind, IsPassed, IsPassedBack, picks_at}
use Rattle.calendar_match.proofs.Bounds.{interval_not_falling}

-- behind the last part

-- no other minute of an interval is its first
not_first : (c : Calendar) (i u : ℕ) → first_minute c i < u → u < first_minute c (i + 1) → selects c [] u ≡ false
not_first c i u low high =
    let k = only c u i (omega arith) high in
    ne_eqb (first_minute c (interval_of c u)) u (λ e. (let here : first_minute c i ≡ u = ap (first_minute c) (sym k) ∙ e in omega arith))

pub ahead_here : (c : Calendar) (m : ℕ) → first_minute c (interval_of c m) ≡ m → IsAhead (selects c []) m m
ahead_here c m e = record {
  later = omega arith;
  passed = λ u low lt. absurd (omega arith);
  here = λ same. eq-eqb (first_minute c (interval_of c m)) m e;
}

pub ahead_end : (c : Calendar) (m : ℕ) → 2880 ≤ m → (first_minute c (interval_of c m) ≡ m → ⊥) → IsAhead (selects c []) m (first_minute c (interval_of c m + 1))
ahead_end c m late ne =
    let start = begun c m late in
    let end = goes_on c m in
    record {
      later = omega arith;
      passed = λ u low lt. not_first c (interval_of c m) u (omega arith) lt;
      here = λ e. absurd (omega arith);
    }

pub behind_first : (c : Calendar) (m : ℕ) → 2880 ≤ m → IsBehind (selects c []) m (first_minute c (interval_of c m))
behind_first c m late =
    let end = goes_on c m in
    record {
      earlier = begun c m late;
      passed = λ u gt le. not_first c (interval_of c m) u gt (omega arith);
      here = λ e. eq-eqb (first_minute c (interval_of c m)) m e;
    }

-- where the first part picks its number, the further parts decide

pub ahead_in : (c : Calendar) (p : Part) (ps : List Part) (m r : ℕ) → picks_at c p.calendar p.set m ≡ true → IsAhead (selects p.calendar ps) m r → IsAhead (selects c (p ∷ ps)) m r
ahead_in c p ps m r picked a = record {
  later = a.later;
  passed = λ u low lt. and_right (picks_at c p.calendar p.set u) (selects p.calendar ps u) (a.passed u low lt);
  here = λ e. and_from (picks_at c p.calendar p.set m) (selects p.calendar ps m) picked (a.here e);
}

pub behind_in : (c : Calendar) (p : Part) (ps : List Part) (m r : ℕ) → picks_at c p.calendar p.set m ≡ true → IsBehind (selects p.calendar ps) m r → IsBehind (selects c (p ∷ ps)) m r
behind_in c p ps m r picked a = record {
  earlier = a.earlier;
  passed = λ u gt le. and_right (picks_at c p.calendar p.set u) (selects p.calendar ps u) (a.passed u gt le);
  here = λ e. and_from (picks_at c p.calendar p.set m) (selects p.calendar ps m) picked (a.here e);
}

-- and where it does not, it alone

pub ahead_past : (c : Calendar) (p : Part) (ps : List Part) (m r : ℕ) → IsPassed (picks_at c p.calendar p.set) m r → IsAhead (selects c (p ∷ ps)) m r
ahead_past c p ps m r a =
    let later = a.later in
    record {
      later = omega arith;
      passed = λ u low lt. and_left (picks_at c p.calendar p.set u) (selects p.calendar ps u) (a.passed u low lt);
      here = λ e. absurd (omega arith);
    }

pub behind_past : (c : Calendar) (p : Part) (ps : List Part) (m r : ℕ) → IsPassedBack (picks_at c p.calendar p.set) m r → IsBehind (selects c (p ∷ ps)) m r
behind_past c p ps m r a =
    let earlier = a.earlier in
    record {
      earlier = omega arith;
      passed = λ u gt le. and_left (picks_at c p.calendar p.set u) (selects p.calendar ps u) (a.passed u gt le);
      here = λ e. absurd (omega arith);
    }

-- the numbers within an interval count its inner intervals
pub number_later : (c d : Calendar) (m u : ℕ) → first_minute c (interval_of c m) ≤ m → interval_of c u ≡ interval_of c m → m ≤ u → number_within c d u ≡ number_within c d m + (interval_of d u - interval_of d m)
number_later c d m u start same le =
    let low : interval_of d (first_minute c (interval_of c m)) ≤ interval_of d m = interval_not_falling d (first_minute c (interval_of c m)) m start in
    let more : interval_of d m ≤ interval_of d u = interval_not_falling d m u le in
    rw same (omega arith)

-- from a number that is not picked to the next one, or to the end of the interval

pub ahead_number : (c d : Calendar) (set : Option (List ℕ)) (m k : ℕ) → 2880 ≤ m → number_within c d m < k → IsNextPicked set (number_within c d m) k → IsPassed (picks_at c d set) m (min (first_minute d (interval_of d m + k - number_within c d m)) (first_minute c (interval_of c m + 1)))
ahead_number c d set m k late gt f =
    let n = number_within c d m in
    let j = interval_of d m + k - n in
    let start = begun c m late in
    let end = goes_on c m in
    let after : m < first_minute d j = omega (arith, goes_on d m, not_falling d (interval_of d m + 1) j (omega arith)) in
    record {
      later = omega arith;
      passed = λ u low lt.
          (let same : interval_of c u ≡ interval_of c m = only c u (interval_of c m) (omega arith) (omega arith) in
          let number = number_later c d m u start same low in
          let before : interval_of d u < j = before_first d (interval_of d u) j (omega (arith, begun d u (omega arith))) in
          let later = interval_not_falling d m u low in
          f.between (number_within c d u) (omega arith) (omega arith));
    }

pub ahead_none : (c d : Calendar) (set : Option (List ℕ)) (m : ℕ) → 2880 ≤ m → PicksNoneFrom set (number_within c d m) → IsPassed (picks_at c d set) m (first_minute c (interval_of c m + 1))
ahead_none c d set m late none =
    let start = begun c m late in
    let end = goes_on c m in
    record {
      later = omega arith;
      passed = λ u low lt.
          (let same : interval_of c u ≡ interval_of c m = only c u (interval_of c m) (omega arith) lt in
          let number = number_later c d m u start same low in
          none (number_within c d u) (omega arith));
    }

-- the same back

number_up : (c d : Calendar) (m u : ℕ) → interval_of c u ≡ interval_of c m → first_minute c (interval_of c m) ≤ u → u ≤ m → number_within c d m ≡ number_within c d u + (interval_of d m - interval_of d u)
number_up c d m u same start le = number_later c d u m (rw same start) (sym same) le

pub behind_number : (c d : Calendar) (set : Option (List ℕ)) (m k : ℕ) → 2880 ≤ m → k < number_within c d m → IsLastPicked set (number_within c d m) k → IsPassedBack (picks_at c d set) m (first_minute d (interval_of d m + k + 1 - number_within c d m) - 1)
behind_number c d set m k late lt f =
    let n = number_within c d m in
    let j = interval_of d m + k + 1 - n in
    let first = first_minute c (interval_of c m) in
    let start : first ≤ m = begun c m late in
    let end = goes_on c m in
    let some = f.low in
    let base : interval_of d first ≤ interval_of d m = interval_not_falling d first m start in
    let within : first < first_minute d j = omega (arith, goes_on d first, not_falling d (interval_of d first + 1) j (omega arith)) in
    let before : first_minute d j ≤ m = omega (arith, begun d m late, not_falling d j (interval_of d m) (omega arith)) in
    record {
      earlier = omega arith;
      passed = λ u gt le.
          (let same : interval_of c u ≡ interval_of c m = only c u (interval_of c m) (omega arith) (omega arith) in
          let number = number_up c d m u same (omega arith) le in
          let after : j < interval_of d u + 1 = before_first d j (interval_of d u + 1) (omega (arith, goes_on d u)) in
          let earlier = interval_not_falling d u m le in
          f.between (number_within c d u) (omega arith) (omega arith));
    }

pub behind_none : (c d : Calendar) (set : Option (List ℕ)) (m : ℕ) → 2880 ≤ m → PicksNoneTo set (number_within c d m) → IsPassedBack (picks_at c d set) m (first_minute c (interval_of c m) - 1)
behind_none c d set m late none =
    let first = first_minute c (interval_of c m) in
    let start : first ≤ m = begun c m late in
    let end = goes_on c m in
    record {
      earlier = omega arith;
      passed = λ u gt le.
          (let same : interval_of c u ≡ interval_of c m = only c u (interval_of c m) (omega arith) (omega arith) in
          let number = number_up c d m u same (omega arith) le in
          none (number_within c d u) (omega arith));
    }
