-- Stretches of whole days, and how the days of a stretch of minutes add up.
use Rattle.std.proofs.Common.{◌≡◌, ℕ, suc, ◌+◌, ◌-◌, ◌*◌, ◌/◌, ◌<◌, ◌≤◌, Bool, true, false, cond, ◌&&◌, nat_eq, nat_le, nat_lt, List, [], ◌∷◌, refl, ap, arith}
use Rattle.std.proofs.lemmas.Bool.{and_right, le-ltb, eqb-true, eqb-false, leb-true, leb-false, ltb-true, ltb-false}
use Rattle.gt_base.specs.declared.events.RoleId.{RoleId}
use Rattle.gt_base.specs.declared.events.UserId.{UserId}
use Rattle.gtrbac_model.specs.Same.{same_role, same_user}
use Rattle.gtrbac_model.specs.Calendar.{day_of}
use Rattle.history_laws.specs.Tables.{minutes_of_day}
use Rattle.session_table.specs.declared.whole.Whole.{Whole}
use Rattle.session_table.specs.Charges.{covers, covering}
use Rattle.session_table.specs.ChargedDays.{AllBefore}
use Rattle.session_table.proofs.Indexing.{count_cons}

-- no stretch that ended has the day
pub none_cover : (u : UserId) (r : RoleId) (over day : ℕ) (ws : List Whole) → AllBefore over ws → over ≤ day → covering ws u r day ≡ 0
none_cover u r over day [] before le = refl
none_cover u r over day (w ∷ ws) before le =
    let past : w.past ≤ over = before 0 w (omega arith) in
    let not_here : nat_lt day w.past ≡ false = le-ltb day w.past (omega (arith, past, le)) in
    let not_covered : covers u r day w ≡ false = and_right (same_user w.user u && same_role w.role r) (nat_le w.first day && nat_lt day w.past) (and_right (nat_le w.first day) (nat_lt day w.past) not_here) in
    let one : ◌≡◌ {A = ℕ} (cond (covers u r day w) 1 0) 0 = ap (λ b. cond b 1 0) not_covered in
    let rest : covering ws u r day ≡ 0 = none_cover u r over day ws (λ i d lt. before (suc i) d (omega (arith, lt))) le in
    let step : covering (w ∷ ws) u r day ≡ cond (covers u r day w) 1 0 + covering ws u r day = count_cons (covers u r day) w ws in
    let added : cond (covers u r day w) 1 0 + covering ws u r day ≡ 0 + covering ws u r day = ap (λ n. n + covering ws u r day) one in
    omega (arith, step, added, rest)

pub joined_one : (init n : ℕ) (p q : Bool) → (init + cond q n 0) + cond (p && q) 1 0 ≡ init + cond q (n + cond p 1 0) 0
joined_one init n true true = omega arith
joined_one init n true false = omega arith
joined_one init n false true = omega arith
joined_one init n false false = omega arith

-- the first day, the whole ones after it, and the last
module _ (M : ℕ → ℕ) (f l d n : ℕ) (low : d < f → M d ≡ 0) (high : l < d → M d ≡ 0) where
  none : M d ≡ 0 → M d * n ≡ 0
  none e = let is : M d * n ≡ 0 * n = ap (λ m. m * n) e in omega (arith, is)

  pub days_add : f < l → (f < d → d < l → M d ≡ 1440) → cond (nat_eq f d) (M f * n) 0 + 1440 * cond (nat_le (f + 1) d && nat_lt d l) n 0 + cond (nat_eq l d) (M l * n) 0 ≡ M d * n
  days_add order middle = go (nat_eq f d) (nat_eq l d) (nat_le (f + 1) d) (nat_lt d l) refl refl refl refl
    where
      go : (a b c e : Bool) → nat_eq f d ≡ a → nat_eq l d ≡ b → nat_le (f + 1) d ≡ c → nat_lt d l ≡ e → cond a (M f * n) 0 + 1440 * cond (c && e) n 0 + cond b (M l * n) 0 ≡ M d * n
      go true true c e p q r s = let x = eqb-true f d p in let y = eqb-true l d q in absurd (omega (arith, x, y, order))
      go true false true e p q r s = let x = eqb-true f d p in let y = leb-true (f + 1) d r in absurd (omega (arith, x, y))
      go true false false e p q r s = let x : f ≡ d = eqb-true f d p in let is : M f * n ≡ M d * n = ap (λ k. M k * n) x in omega (arith, is)
      go false true true true p q r s = let x = eqb-true l d q in let y = ltb-true d l s in absurd (omega (arith, x, y))
      go false true true false p q r s = let x : l ≡ d = eqb-true l d q in let is : M l * n ≡ M d * n = ap (λ k. M k * n) x in omega (arith, is)
      go false true false e p q r s = let x : l ≡ d = eqb-true l d q in let is : M l * n ≡ M d * n = ap (λ k. M k * n) x in omega (arith, is)
      go false false true true p q r s =
          let x = leb-true (f + 1) d r in
          let y = ltb-true d l s in
          let is : M d * n ≡ 1440 * n = ap (λ m. m * n) (middle (omega (arith, x)) y) in
          omega (arith, is)
      go false false true false p q r s =
          let x = ltb-false d l s in
          let y = eqb-false l d q in
          let is : M d * n ≡ 0 = none (high (omega (arith, x, y))) in
          omega (arith, is)
      go false false false e p q r s =
          let x = leb-false (f + 1) d r in
          let y = eqb-false f d p in
          let is : M d * n ≡ 0 = none (low (omega (arith, x, y))) in
          omega (arith, is)

  pub day_alone : f ≡ l → cond (nat_eq f d) (M f * n) 0 ≡ M d * n
  day_alone same = go (nat_eq f d) (nat_lt d f) refl refl
    where
      go : (a b : Bool) → nat_eq f d ≡ a → nat_lt d f ≡ b → cond a (M f * n) 0 ≡ M d * n
      go true b p q = ap (λ k. M k * n) (eqb-true f d p)
      go false true p q = let is : M d * n ≡ 0 = none (low (ltb-true d f q)) in omega (arith, is)
      go false false p q =
          let x = ltb-false d f q in
          let y = eqb-false f d p in
          let is : M d * n ≡ 0 = none (high (omega (arith, x, y, same))) in
          omega (arith, is)

module _ (now to f l d n : ℕ) (order : now < to) (first : f ≡ (now + 1) / 1440) (last : l ≡ day_of to) where
  minutes_low : d < f → minutes_of_day now (to - now) d ≡ 0
  minutes_low lt = omega (arith, lt, first)

  minutes_high : l < d → minutes_of_day now (to - now) d ≡ 0
  minutes_high lt = omega (arith, lt, last, order)

  minutes_middle : f < d → d < l → minutes_of_day now (to - now) d ≡ 1440
  minutes_middle a b = omega (arith, a, b, first, last, order)

  pub days_sum : f < l
      → cond (nat_eq f d) (minutes_of_day now (to - now) f * n) 0 + 1440 * cond (nat_le (f + 1) d && nat_lt d l) n 0 + cond (nat_eq l d) (minutes_of_day now (to - now) l * n) 0
      ≡ minutes_of_day now (to - now) d * n
  days_sum lt = days_add (minutes_of_day now (to - now)) f l d n minutes_low minutes_high lt minutes_middle

  pub one_day : l ≤ f → cond (nat_eq f d) (minutes_of_day now (to - now) f * n) 0 ≡ minutes_of_day now (to - now) d * n
  one_day le = day_alone (minutes_of_day now (to - now)) f l d n minutes_low minutes_high (omega (arith, le, first, last, order))
