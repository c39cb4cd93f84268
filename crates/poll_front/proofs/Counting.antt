-- How many faults links have shown.
use Rattle.std.proofs.Common.{◌≡◌, ◌≢◌, ℕ, zero, suc, ◌+◌, ◌≤◌, refl, sym, ap, ◌∙◌, arith}
use mathlib.Core.Logic.{dite}
use native.Mathlib.Decide.{ℕ_discrete}
use Rattle.gt_io.specs.Ports.{Port}
use Rattle.gt_io.specs.declared.port.Called.{Called}
use Rattle.poll_front.specs.Tables.{count_among}

-- what the first n links have shown is told by their last calls
pub shown_same : (by : Called → ℕ) (f g : ℕ → Port) (n : ℕ) → ((k : ℕ) → 1 ≤ k → k ≤ n → (g k).last ≡ (f k).last) → count_among by g n ≡ count_among by f n
shown_same by f g zero same = refl
shown_same by f g (suc n) same =
    let before = shown_same by f g n (λ k first low. same k first (omega (arith, low))) in
    let last : by (g (n + 1)).last ≡ by (f (n + 1)).last = ap by (same (n + 1) (omega arith) (omega arith)) in
    omega (arith, before, last)

-- and where one link had calls, by those of that link
pub shown_moved : (by : Called → ℕ) (f g : ℕ → Port) (c n : ℕ) → 1 ≤ c → c ≤ n → ((k : ℕ) → k ≢ c → (g k).last ≡ (f k).last)
    → count_among by g n + by (f c).last ≡ count_among by f n + by (g c).last
shown_moved by f g c zero first within same = absurd (omega (arith, first, within))
shown_moved by f g c (suc n) first within same =
    dite (ℕ_discrete c (n + 1)) (λ here.
    let before = shown_same by f g n (λ k one low. same k (λ is. let e = is ∙ here in absurd (omega (arith, low, e)))) in
    let f1 : by (f c).last ≡ by (f (n + 1)).last = ap (λ (k : ℕ). by (f k).last) here in
    let g1 : by (g c).last ≡ by (g (n + 1)).last = ap (λ (k : ℕ). by (g k).last) here in
    omega (arith, before, f1, g1)) (λ away.
    let low : c ≤ n = omega (arith, within, away) in
    let before = shown_moved by f g c n first low same in
    let last : by (g (n + 1)).last ≡ by (f (n + 1)).last = ap by (same (n + 1) (λ is. away (sym is))) in
    omega (arith, before, last))
