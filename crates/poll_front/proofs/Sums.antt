-- How many lines there are over all links.
use Rattle.std.proofs.Common.{◌≡◌, ℕ, zero, suc, ◌+◌, ◌*◌, ◌<◌, ◌≤◌, List, [], ◌∷◌, length, length-append, refl, ap, arith}
use mathlib.Core.Logic.{dite}
use native.Mathlib.Decide.{ℕ_discrete}
use Rattle.turn_lock.specs.Turns.{Each}
use Rattle.connection_laws.specs.Lines.{Acted, readings_of}
use Rattle.poll_front.specs.Fronts.{Turn, acted_of, all_acted}
use Rattle.poll_front.proofs.Turning.{acted_here, acted_apart}

-- those of the first n links
pub lines_to : ℕ → List Turn → ℕ
lines_to zero ts = 0
lines_to (suc n) ts = lines_to n ts + length (acted_of (n + 1) ts)

lines_above : (n : ℕ) (t : Turn) (ts : List Turn) → n < t.link → lines_to n (t ∷ ts) ≡ lines_to n ts
unfolding lines_to
lines_above zero t ts above = refl
lines_above (suc n) t ts above =
    let before = lines_above n t ts (omega (arith, above)) in
    let last = ap (λ (l : List Acted). length l) (acted_apart (n + 1) t ts (λ is. absurd (omega (arith, is, above)))) in
    omega (arith, before, last)

lines_one : (n : ℕ) (t : Turn) (ts : List Turn) → 1 ≤ t.link → t.link ≤ n → lines_to n (t ∷ ts) ≡ lines_to n ts + 1
unfolding lines_to
lines_one zero t ts first within = absurd (omega (arith, first, within))
lines_one (suc n) t ts first within =
    dite (ℕ_discrete t.link (n + 1)) (λ here.
    let before = lines_above n t ts (omega (arith, here)) in
    let last = ap (λ (l : List Acted). length l) (acted_here (n + 1) t ts here) in
    omega (arith, before, last)) (λ away.
    let before = lines_one n t ts first (omega (arith, within, away)) in
    let last = ap (λ (l : List Acted). length l) (acted_apart (n + 1) t ts away) in
    omega (arith, before, last))

lines_all : (n : ℕ) (ts : List Turn) → Each (λ (t : Turn). (1 ≤ t.link) × (t.link ≤ n)) ts → length ts ≤ lines_to n ts
unfolding lines_to
lines_all n [] range = omega arith
lines_all n (t ∷ ts) range =
    let before = lines_all n ts range.1 in
    let one = lines_one n t ts range.0.0 range.0.1 in
    omega (arith, before, one)

lines_few : (n : ℕ) (ts : List Turn) → ((k : ℕ) → 1 ≤ k → k ≤ n → length (acted_of k ts) ≤ 67_108_864) → lines_to n ts ≤ n * 67_108_864
unfolding lines_to
lines_few zero ts few = omega arith
lines_few (suc n) ts few =
    let before = lines_few n ts (λ k first low. few k first (omega (arith, low))) in
    let last = few (n + 1) (omega arith) (omega arith) in
    omega (arith, before, last)

readings_few : (ts : List Turn) → Each (λ (t : Turn). length t.acted.readings ≤ 1) ts → length (readings_of (all_acted ts)) ≤ length ts
readings_few [] brief = omega arith
readings_few (t ∷ ts) brief =
    let before = readings_few ts brief.1 in
    let one = brief.0 in
    omega (arith, before, one, length-append (readings_of (all_acted ts)) t.acted.readings)

-- request lines are no more than bytes
pub calls_few : (n : ℕ) (ts : List Turn) → Each (λ (t : Turn). length t.acted.readings ≤ 1) ts → Each (λ (t : Turn). (1 ≤ t.link) × (t.link ≤ n)) ts
    → ((k : ℕ) → 1 ≤ k → k ≤ n → length (acted_of k ts) ≤ 67_108_864) → length (readings_of (all_acted ts)) ≤ n * 67_108_864
calls_few n ts brief range few =
    let a = readings_few ts brief in
    let b = lines_all n ts range in
    let c = lines_few n ts few in
    omega (arith, a, b, c)
