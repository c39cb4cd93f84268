-- A guess that is at most one off is mended.
use Rattle.std.proofs.Common.{◌≡◌, ℕ, zero, suc, ◌+◌, ◌-◌, ◌<◌, ◌≤◌, Bool, true, false, cond, nat_lt, nat_le, refl, arith}
use Rattle.std.proofs.lemmas.Bool.{ltb-true, ltb-false, leb-true, leb-false}

module _ (F : ℕ → ℕ) (g m : ℕ) where
  abbrev pub mended : Bool → Bool → ℕ
  mended b c = cond b (g - 1) (cond c (g + 1) g)

  pub mended-begun : F (g - 1) ≤ m → (b c : Bool) → nat_lt m (F g) ≡ b → nat_le (F (g + 1)) m ≡ c → F (mended b c) ≤ m
  mended-begun h true c p q = h
  mended-begun h false true p q = leb-true (F (g + 1)) m q
  mended-begun h false false p q = ltb-false m (F g) p

  one_more : m < F g → F 0 ≡ 0 → (n : ℕ) → g ≡ n → g - 1 + 1 ≡ g
  one_more h z zero e = absurd (omega (arith, z, rw e at h))
  one_more h z (suc n) e = omega arith

  pub mended-goes_on : m < F (g + 1 + 1) → F 0 ≡ 0 → (b c : Bool) → nat_lt m (F g) ≡ b → nat_le (F (g + 1)) m ≡ c → m < F (mended b c + 1)
  mended-goes_on h z true c p q = let k = ltb-true m (F g) p in rw (one_more k z g refl) k
  mended-goes_on h z false true p q = h
  mended-goes_on h z false false p q = leb-false (F (g + 1)) m q
