-- The closes of a stretch of minutes charge each of them, and the last drops.
use Rattle.std.proofs.Common.{◌≡◌, ℕ, zero, suc, ◌+◌, ◌-◌, ◌*◌, ◌/◌, ◌<◌, ◌≤◌, min, max, Bool, true, false, cond, not, ◌||◌, nat_eq, nat_lt, ◌⊎◌, inl, inr, List, [], ◌∷◌, map, filter, count_by, Some, is_none, refl, sym, ◌∙◌, ap, subst, arith}
use Rattle.std.proofs.lemmas.Bool.{eqb-true, eq-eqb, ltb-true, ltb-false}
use Rattle.gt_base.specs.declared.events.RoleId.{RoleId}
use Rattle.gt_base.specs.declared.events.UserId.{UserId}
use Rattle.gt_base.specs.declared.policies.HierEdge.{HierEdge}
use Rattle.gt_base.specs.declared.policies.Caps.{Caps}
use Rattle.std.specs.List.{list_any}
use Rattle.gt_base.specs.declared.events.Fluent.TheVariants.{Enabled}
use Rattle.gtrbac_model.specs.Graph.{item_at}
use Rattle.gtrbac_model.specs.Hierarchy.{activation_walk}
use Rattle.session_table.specs.Tables.{is_capped}
use Rattle.gtrbac_model.specs.Calendar.{day_of}
use Rattle.gtrbac_model.specs.Conflict.{Status}
use Rattle.gtrbac_model.specs.Sessions.{Table, charge, is_dropped, drops, close_minute, close_minutes, is_of, signal_of}
use Rattle.history_laws.specs.Tables.{minutes_of_day, EndNothing, ChargedOnly}
use Rattle.history_laws.proofs.Charging.{quiet_closes}
use Rattle.session_table.specs.Stretches.{StretchesClose, StandsFirm, FirmEndsNothing}
use Rattle.session_table.proofs.Charging.{split}

clash : {b : Bool} → b ≡ true → b ≡ false → ⊥
clash p q = let e : true ≡ false = sym p ∙ q in cc

counted : (from k e : ℕ) → e ≤ from + suc k → from + suc k < e + 1440 → min (from + suc k + 1) (e + 1440) - max (from + 1) e ≡ min (from + k + 1) (e + 1440) - max (from + 1) e + 1
counted from k e a b = omega (arith, a, b)

left_out : (from k e : ℕ) → (from + suc k < e) ⊎ (e + 1440 ≤ from + suc k) → min (from + suc k + 1) (e + 1440) - max (from + 1) e ≡ min (from + k + 1) (e + 1440) - max (from + 1) e + 0
left_out from k e (inl a) = omega (arith, a)
left_out from k e (inr a) = omega (arith, a)

of_another : (d t : ℕ) → (d ≡ t / 1440 → ⊥) → (t < 1440 * d) ⊎ (1440 * d + 1440 ≤ t)
of_another d t ne =
    split (nat_lt t (1440 * d)) (λ a. inl (ltb-true _ _ a))
    (λ a. split (nat_lt t (1440 * d + 1440)) (λ b. absurd (ne (omega (arith, ltb-false _ _ a, ltb-true _ _ b)))) (λ b. inr (ltb-false _ _ b)))

-- one minute more is of its own day alone
one_more : (from k d : ℕ) (b : Bool) → nat_eq d ((from + suc k) / 1440) ≡ b → minutes_of_day from (suc k) d ≡ minutes_of_day from k d + cond b 1 0
one_more from k d true e =
    let is : d ≡ (from + suc k) / 1440 = eqb-true d _ e in
    counted from k (1440 * d) (omega (arith, is)) (omega (arith, is))
one_more from k d false e = left_out from k (1440 * d) (of_another d (from + suc k) (λ is. clash (eq-eqb d _ is) e))

charges : (c m n : ℕ) (b : Bool) → c + m * n + cond b n 0 ≡ c + (m + cond b 1 0) * n
charges c m n true = grind arith
charges c m n false = grind arith

module _ (edges : List HierEdge) (caps : List Caps) (s : ℕ → Status) (now k : ℕ) (tb : Table) (quiet : EndNothing edges caps s now k tb) where
  abbrev mid : Table
  mid = close_minutes edges caps s now k tb

  only : ChargedOnly now k tb mid
  only = quiet_closes edges caps s now k tb quiet

  abbrev through : UserId → RoleId → ℕ → ℕ
  through u r d = tb.charged u r d + minutes_of_day now (suc k) d * count_by (is_of u r) tb.active

  charged_is : (charge (now + suc k) mid).charged ≡ through
  charged_is i u r d =
      ((λ j. only.charged u r d j + cond (nat_eq d (day_of (now + suc k))) (count_by (is_of u r) (only.active j)) 0)
      ∙ charges (tb.charged u r d) (minutes_of_day now k d) (count_by (is_of u r) tb.active) (nat_eq d (day_of (now + suc k)))
      ∙ ap (λ n. tb.charged u r d + n * count_by (is_of u r) tb.active) (sym (one_more now k d (nat_eq d (day_of (now + suc k))) refl))) i

  abbrev all_of : (UserId → RoleId → ℕ → ℕ) → Table
  all_of c = record tb { charged = c }

  drops_is : drops edges caps (s (now + suc k)) (now + suc k) mid ≡ filter (is_dropped edges caps (s (now + suc k)) (now + suc k) (all_of through)) tb.active
  drops_is i = filter (is_dropped edges caps (s (now + suc k)) (now + suc k) (all_of (charged_is i))) (only.active i)

  closes_is : close_minute edges caps (s (now + suc k)) (now + suc k) mid
      ≡ record {
        sessions = tb.sessions;
        active = filter (λ a. not (is_dropped edges caps (s (now + suc k)) (now + suc k) (all_of through) a)) tb.active;
        charged = through;
        begun = tb.begun;
        signals = map (signal_of false) (filter (is_dropped edges caps (s (now + suc k)) (now + suc k) (all_of through)) tb.active);
      }
  closes_is i =
      record {
        sessions = only.sessions i;
        active = filter (λ a. not (is_dropped edges caps (s (now + suc k)) (now + suc k) (all_of (charged_is i)) a)) (only.active i);
        charged = charged_is i;
        begun = only.begun i;
        signals = map (signal_of false) (drops_is i);
      }

at_end : (edges : List HierEdge) (caps : List Caps) (s : ℕ → Status) (now k to n : ℕ) (tb : Table) → now + suc k ≡ to → suc k ≡ n → EndNothing edges caps s now k tb
    → (drops edges caps (s to) to (close_minutes edges caps s now k tb) ≡ filter (is_dropped edges caps (s to) to (record tb { charged = λ u r d. tb.charged u r d + minutes_of_day now n d * count_by (is_of u r) tb.active })) tb.active)
    × (close_minutes edges caps s now n tb
    ≡ record {
      sessions = tb.sessions;
      active = filter (λ a. not (is_dropped edges caps (s to) to (record tb { charged = λ u r d. tb.charged u r d + minutes_of_day now n d * count_by (is_of u r) tb.active }) a)) tb.active;
      charged = λ u r d. tb.charged u r d + minutes_of_day now n d * count_by (is_of u r) tb.active;
      begun = tb.begun;
      signals = map (signal_of false) (filter (is_dropped edges caps (s to) to (record tb { charged = λ u r d. tb.charged u r d + minutes_of_day now n d * count_by (is_of u r) tb.active })) tb.active);
    })
at_end edges caps s now k to n tb e f quiet =
    let Both : ℕ → ℕ → Type 0 = λ to n.
    (drops edges caps (s to) to (close_minutes edges caps s now k tb) ≡ filter (is_dropped edges caps (s to) to (record tb { charged = λ u r d. tb.charged u r d + minutes_of_day now n d * count_by (is_of u r) tb.active })) tb.active)
    × (close_minutes edges caps s now n tb
    ≡ record {
      sessions = tb.sessions;
      active = filter (λ a. not (is_dropped edges caps (s to) to (record tb { charged = λ u r d. tb.charged u r d + minutes_of_day now n d * count_by (is_of u r) tb.active }) a)) tb.active;
      charged = λ u r d. tb.charged u r d + minutes_of_day now n d * count_by (is_of u r) tb.active;
      begun = tb.begun;
      signals = map (signal_of false) (filter (is_dropped edges caps (s to) to (record tb { charged = λ u r d. tb.charged u r d + minutes_of_day now n d * count_by (is_of u r) tb.active })) tb.active);
    }) in
    subst (λ n. Both to n) f (subst (λ to. Both to (suc k)) e (drops_is edges caps s now k tb quiet, closes_is edges caps s now k tb quiet))

pub stretches_close : StretchesClose
stretches_close edges caps s now to tb order quiet =
    let k : ℕ = to - now - 1 in
    let both = at_end edges caps s now k to (to - now) tb (omega (arith, order)) (omega (arith, order)) quiet in
    record { drops = both.0; closes = both.1 }

nothing_kept : {A : Type 0} (p : A → Bool) (xs : List A) → ((i : ℕ) (a : A) → item_at xs i ≡ Some a → p a ≡ false) → filter p xs ≡ []
nothing_kept p [] h = refl
nothing_kept p (x ∷ xs) h = ap (λ b. cond b (x ∷ filter p xs) (filter p xs)) (h 0 x refl) ∙ nothing_kept p xs (λ i. h (suc i))

either_false : (a b : Bool) → (a || b) ≡ false → (a ≡ false) × (b ≡ false)
either_false true b e = cc
either_false false b e = (refl, e)

none_passes : {A : Type 0} (p : A → Bool) (xs : List A) → list_any p xs ≡ false → (i : ℕ) (a : A) → item_at xs i ≡ Some a → p a ≡ false
none_passes p [] h i a is = cc
none_passes p (x ∷ xs) h zero a is = let same : x ≡ a = cc in subst (λ y. p y ≡ false) same (either_false (p x) (list_any p xs) h).0
none_passes p (x ∷ xs) h (suc i) a is = none_passes p xs (either_false (p x) (list_any p xs) h).1 i a is

not_dropped : (on barred long spent : Bool) → on ≡ true → barred ≡ false → (long || spent) ≡ false → (not on || barred || long || spent) ≡ false
not_dropped true false false false e f g = refl
not_dropped true false false true e f g = g
not_dropped true false true spent e f g = g
not_dropped true true long spent e f g = cc
not_dropped false barred long spent e f g = cc

module _ (edges : List HierEdge) (caps : List Caps) (s : ℕ → Status) (now : ℕ) (tb : Table) where
  one_minute : (j : ℕ) → EndNothing edges caps s now j tb → StandsFirm edges caps s now tb (now + suc j) → drops edges caps (s (now + suc j)) (now + suc j) (close_minutes edges caps s now j tb) ≡ []
  one_minute j quiet firm =
      (at_end edges caps s now j (now + suc j) (now + suc j - now) tb refl (omega arith) quiet).0
      ∙ nothing_kept _ tb.active (λ i a is.
      not_dropped (s (now + suc j) (Enabled a.role)) (is_none (activation_walk edges (s (now + suc j)) a.user a.role)) _ _ (firm.on i a is) (firm.allowed i a is)
      (none_passes (is_capped caps now tb (now + suc j)) tb.active firm.uncapped i a is))

  pub nothing_ends : (k : ℕ) → ((j : ℕ) → j < k → StandsFirm edges caps s now tb (now + suc j)) → EndNothing edges caps s now k tb
  nothing_ends zero firm j lt = absurd (omega arith)
  nothing_ends (suc k) firm j lt =
      let before : EndNothing edges caps s now k tb = nothing_ends k (λ i low. firm i (omega (arith, low))) in
      split (nat_lt j k) (λ e. before j (ltb-true j k e))
      (λ e. let last : k ≡ j = omega (arith, lt, ltb-false j k e) in
      subst (λ i. drops edges caps (s (now + suc i)) (now + suc i) (close_minutes edges caps s now i tb) ≡ []) last (one_minute k before (firm k (omega arith))))

pub firm_ends_nothing : FirmEndsNothing
firm_ends_nothing edges caps s now k tb firm = nothing_ends edges caps s now tb k firm
