-- Minutes that end no activation charge it, and change nothing else.
use Rattle.std.proofs.Common.{◌≡◌, ℕ, zero, suc, ◌+◌, ◌-◌, ◌*◌, ◌/◌, ◌<◌, ◌≤◌, min, max, Bool, true, false, cond, not, nat_eq, nat_lt, ◌⊎◌, inl, inr, List, [], ◌∷◌, map, filter, count_by, refl, sym, ◌∙◌, ap, arith}
use Rattle.std.proofs.lemmas.Bool.{eqb-true, eq-eqb, ltb-true, ltb-false}
use Rattle.gt_base.specs.declared.policies.HierEdge.{HierEdge}
use Rattle.gt_base.specs.declared.policies.Caps.{Caps}
use Rattle.gtrbac_model.specs.Calendar.{day_of}
use Rattle.gtrbac_model.specs.Conflict.{Status}
use Rattle.gtrbac_model.specs.Sessions.{Table, charge, is_dropped, drops, close_minutes, is_of, signal_of}
use Rattle.gtrbac_model.proofs.Elements.{split}
use Rattle.history_laws.proofs.Members.{clash}
use Rattle.history_laws.specs.Tables.{minutes_of_day, EndNothing, ChargedOnly, QuietCloses}

-- where none passes, all are left
none_taken : {A : Type 0} (test : A → Bool) (xs : List A) → filter test xs ≡ [] → filter (λ x. not (test x)) xs ≡ xs
none_taken test [] e = refl
none_taken {A} test (x ∷ xs) e = by (test x) e (none_taken test xs)
  where
    by : (b : Bool) → cond b (x ∷ filter test xs) (filter test xs) ≡ [] → (filter test xs ≡ [] → filter (λ y. not (test y)) xs ≡ xs)
        → cond (not b) (x ∷ filter (λ y. not (test y)) xs) (filter (λ y. not (test y)) xs) ≡ x ∷ xs
    by true e on = cc
    by false e on = ap (λ ys. x ∷ ys) (on e)

-- one minute more is of its own day alone
of_its_day : (d t : ℕ) → d ≡ t / 1440 → (1440 * d ≤ t) × (t < 1440 * d + 1440)
of_its_day d t e = (omega (arith, e), omega (arith, e))

of_another : (d t : ℕ) → (d ≡ t / 1440 → ⊥) → (t < 1440 * d) ⊎ (1440 * d + 1440 ≤ t)
of_another d t ne = split (nat_lt t (1440 * d)) (λ a. inl (ltb-true _ _ a)) (λ a. split (nat_lt t (1440 * d + 1440)) (λ b. absurd (ne (omega (arith, ltb-false _ _ a, ltb-true _ _ b)))) (λ b. inr (ltb-false _ _ b)))

counted : (from k e : ℕ) → e ≤ from + suc k → from + suc k < e + 1440 → min (from + suc k + 1) (e + 1440) - max (from + 1) e ≡ min (from + k + 1) (e + 1440) - max (from + 1) e + 1
counted from k e a b = omega (arith, a, b)

left_out : (from k e : ℕ) → (from + suc k < e) ⊎ (e + 1440 ≤ from + suc k) → min (from + suc k + 1) (e + 1440) - max (from + 1) e ≡ min (from + k + 1) (e + 1440) - max (from + 1) e + 0
left_out from k e (inl a) = omega (arith, a)
left_out from k e (inr a) = omega (arith, a)

one_more : (from k d : ℕ) (b : Bool) → nat_eq d ((from + suc k) / 1440) ≡ b → minutes_of_day from (suc k) d ≡ minutes_of_day from k d + cond b 1 0
one_more from k d true e = let (a, b) = of_its_day d (from + suc k) (eqb-true d _ e) in counted from k (1440 * d) a b
one_more from k d false e = left_out from k (1440 * d) (of_another d (from + suc k) (λ is. clash _ (eq-eqb d _ is) e))

none_yet : (from e : ℕ) → min (from + 0 + 1) (e + 1440) - max (from + 1) e ≡ 0
none_yet from e = omega arith

no_charge : (c n : ℕ) → c ≡ c + 0 * n
no_charge c n = omega arith

charges : (c m n : ℕ) (b : Bool) → c + m * n + cond b n 0 ≡ c + (m + cond b 1 0) * n
charges c m n true = grind arith
charges c m n false = grind arith

module _ (edges : List HierEdge) (caps : List Caps) (s : ℕ → Status) (from : ℕ) (tb : Table) where
  abbrev after_some : ℕ → Table
  after_some k = close_minutes edges caps s from k tb

  one_close : (k : ℕ) → drops edges caps (s (from + suc k)) (from + suc k) (after_some k) ≡ [] → ChargedOnly from k tb (after_some k) → ChargedOnly from (suc k) tb (after_some (suc k))
  one_close k none is =
      let t : ℕ = from + suc k in
      let b : Table = after_some k in
      record {
        sessions = is.sessions;
        active = none_taken (is_dropped edges caps (s t) t (charge t b)) b.active none ∙ is.active;
        begun = is.begun;
        signals = λ lt. ap (map (signal_of false)) none;
        charged = λ u r d.
            (λ i. is.charged u r d i + cond (nat_eq d (day_of t)) (count_by (is_of u r) (is.active i)) 0)
            ∙ charges (tb.charged u r d) (minutes_of_day from k d) (count_by (is_of u r) tb.active) (nat_eq d (day_of t))
            ∙ ap (λ n. tb.charged u r d + n * count_by (is_of u r) tb.active) (sym (one_more from k d (nat_eq d (day_of t)) refl));
      }

  quiet : (k : ℕ) → EndNothing edges caps s from k tb → ChargedOnly from k tb (after_some k)
  quiet zero none =
      record {
        sessions = refl;
        active = refl;
        begun = refl;
        signals = λ lt. absurd (omega (arith, lt));
        charged = λ u r d. no_charge (tb.charged u r d) (count_by (is_of u r) tb.active) ∙ ap (λ n. tb.charged u r d + n * count_by (is_of u r) tb.active) (sym (none_yet from (1440 * d)));
      }
  quiet (suc k) none = one_close k (none k (omega arith)) (quiet k (λ j lt. none j (omega (arith, lt))))

pub quiet_closes : QuietCloses
quiet_closes edges caps s from k tb none = quiet edges caps s from tb k none
