-- Numbers that never fall.
use Rattle.std.proofs.Common.{ℕ, ◌≤◌, List, [], ◌∷◌, ◌++◌, arith}
use Rattle.snapshot_readers.specs.Viewed.{AscendBetween}

pub ascend_from : (low low' : ℕ) (xs : List ℕ) (high : ℕ) → low ≤ low' → AscendBetween low' xs high → AscendBetween low xs high
ascend_from low low' [] high le a = omega arith
ascend_from low low' (x ∷ xs) high le a = (omega arith, a.1)

pub ascend_to : (low : ℕ) (xs : List ℕ) (high high' : ℕ) → high ≤ high' → AscendBetween low xs high → AscendBetween low xs high'
ascend_to low [] high high' le a = omega arith
ascend_to low (x ∷ xs) high high' le a = (a.0, ascend_to x xs high high' le a.1)

-- numbers that go on where others end
pub ascend_on : (low : ℕ) (xs ys : List ℕ) (mid high : ℕ) → AscendBetween low xs mid → AscendBetween mid ys high → AscendBetween low (xs ++ ys) high
ascend_on low [] ys mid high a b = ascend_from low mid ys high a b
ascend_on low (x ∷ xs) ys mid high a b = (a.0, ascend_on x xs ys mid high a.1 b)
