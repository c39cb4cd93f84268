-- Charging activation by activation, and day by day.
use Rattle.std.proofs.Common.{◌≡◌, ℕ, ◌+◌, ◌-◌, ◌*◌, ◌<◌, ◌≤◌, Bool, true, false, cond, ◌&&◌, nat_eq, nat_lt, List, length, take, get_or, count_by, refl, sym, ap, ◌∙◌, subst, arith, add-zero}
use Rattle.std.proofs.lemmas.Bool.{eqb-true, eq-eqb, ltb-true, ltb-false, lt-ltb, le-ltb}
use Rattle.std.proofs.Math.Nat.{mul-le-mul_left}
use Rattle.std.proofs.lemmas.List.Sums.{count_by_more_no, count_by_more_yes, sum_by-take-le}

-- cases on a test, with what it answers
pub split : {C : Type 0} (b : Bool) → (b ≡ true → C) → (b ≡ false → C) → C
split true on off = on refl
split false on off = off refl

pub count_more : {A : Type 0} (p : A → Bool) (xs : List A) (i : ℕ) (d : A) → i < length xs → count_by p (take (i + 1) xs) ≡ count_by p (take i xs) + cond (p (get_or xs i d)) 1 0
count_more p xs i d low =
    split (p (get_or xs i d)) (λ e. count_by_more_yes p xs i d low e ∙ ap (λ b. count_by p (take i xs) + cond b 1 0) (sym e))
    (λ e. count_by_more_no p xs i d low e ∙ sym (add-zero (count_by p (take i xs))) ∙ ap (λ b. count_by p (take i xs) + cond b 1 0) (sym e))

pub count_take : {A : Type 0} (p : A → Bool) (n : ℕ) (xs : List A) → count_by p (take n xs) ≤ count_by p xs
count_take p n xs = sum_by-take-le (λ x. cond (p x) 1 0) xs n

pub joined : (init m n : ℕ) (p q : Bool) → (init + cond q (m * n) 0) + cond (p && q) m 0 ≡ init + cond q (m * (n + cond p 1 0)) 0
joined init m n true true = grind arith
joined init m n true false = omega arith
joined init m n false true = grind arith
joined init m n false false = omega arith

pub one_fits : (old init m n all : ℕ) (q : Bool) → q ≡ true → old ≡ init + cond q (m * n) 0 → n + 1 ≤ all → init + m * all < 4_294_967_296 → old + m < 4_294_967_296
one_fits old init m n all true e is le h =
    let more : m * (n + 1) ≤ m * all = mul-le-mul_left m le in
    let whole : m * (n + 1) ≡ m * n + m = grind arith in
    omega arith
one_fits old init m n all false e is le h = cc

clash : {b : Bool} → b ≡ true → b ≡ false → ⊥
clash p q = let e : true ≡ false = sym p ∙ q in cc

pub day_step : (init n : ℕ) (minutes : ℕ → ℕ) (d day : ℕ) → (init + cond (nat_lt d day) (minutes d * n) 0) + cond (nat_eq day d) (minutes day * n) 0 ≡ init + cond (nat_lt d (day + 1)) (minutes d * n) 0
day_step init n minutes d day =
    split (nat_eq day d) (λ e. here (eqb-true day d e)) (λ e. there e (λ is. clash (eq-eqb day d is) e))
  where
    here : day ≡ d → (init + cond (nat_lt d day) (minutes d * n) 0) + cond (nat_eq day d) (minutes day * n) 0 ≡ init + cond (nat_lt d (day + 1)) (minutes d * n) 0
    here is =
        (λ i. (init + cond (le-ltb d day (omega (arith, is)) i) (minutes d * n) 0) + cond (eq-eqb day d is i) (minutes (is i) * n) 0)
        ∙ ap (λ z. z + minutes d * n) (add-zero init)
        ∙ ap (λ b. init + cond b (minutes d * n) 0) (sym (lt-ltb d (day + 1) (omega (arith, is))))

    same_test : (day ≡ d → ⊥) → nat_lt d day ≡ nat_lt d (day + 1)
    same_test ne =
        split (nat_lt d day) (λ e. let low : d < day = ltb-true d day e in e ∙ sym (lt-ltb d (day + 1) (omega arith)))
        (λ e. let high : day ≤ d = ltb-false d day e in e ∙ sym (le-ltb d (day + 1) (above ne high)))
      where
        above : (day ≡ d → ⊥) → day ≤ d → day + 1 ≤ d
        above ne high = split (nat_lt day d) (λ e. let low : day < d = ltb-true day d e in omega arith) (λ e. let low : d ≤ day = ltb-false day d e in absurd (ne (omega arith)))

    there : nat_eq day d ≡ false → (day ≡ d → ⊥) → (init + cond (nat_lt d day) (minutes d * n) 0) + cond (nat_eq day d) (minutes day * n) 0 ≡ init + cond (nat_lt d (day + 1)) (minutes d * n) 0
    there e ne =
        ap (λ b. (init + cond (nat_lt d day) (minutes d * n) 0) + cond b (minutes day * n) 0) e
        ∙ add-zero (init + cond (nat_lt d day) (minutes d * n) 0)
        ∙ ap (λ b. init + cond b (minutes d * n) 0) (same_test ne)

pub room_step : (old mid new len first day : ℕ) → first ≤ day → old ≤ mid + (day - first) * len → mid ≤ new + len → old ≤ new + (day + 1 - first) * len
room_step old mid new len first day le a b =
    let k : ℕ = day - first in
    let next : day + 1 - first ≡ k + 1 = omega (arith, le) in
    let more : (k + 1) * len ≡ k * len + len = grind arith in
    subst (λ z. old ≤ new + z * len) (sym next) (omega (arith, more, a, b))
