-- Between now and the stop nothing is settled but the empty set, so one set more makes the model of the longer history.
use Rattle.std.proofs.Common.{◌≡◌, ℕ, ◌-◌, ◌<◌, ◌≤◌, Bool, true, false, nat_eq, nat_le, sym, subst, arith, if◌then◌else◌}
use Rattle.std.proofs.lemmas.Bool.{leb-true, leb-false, eqb-true, eq-eqb}
use Rattle.gt_base.specs.Happening.{HappenedView, nothing}
use Rattle.gtrbac_model.specs.Instant.{Settled}
use Rattle.gtrbac_model.specs.Status.{Model}
use Rattle.gtrbac_model.specs.Base.{status, base_at}
use Rattle.gtrbac_model.specs.History.{now_of}
use Rattle.gtrbac_model.proofs.Elements.{split}
use Rattle.gtrbac_model.proofs.Stepping.{tick_keeps}
use Rattle.history_laws.specs.Ticking.{with_set, TickAddsOneSet}
use Rattle.history_laws.proofs.Quieting.{quiet_settles, unstirred}

clash : (a b : ℕ) → a ≤ b → b < a → ⊥
clash a b p q = omega (arith, p, q)

le_is : (a b : ℕ) → a ≤ b → nat_le a b ≡ true
le_is a b le = split (nat_le a b) (λ q. q) (λ q. absurd (clash a b le (leb-false a b q)))

le_is_not : (a b : ℕ) → b < a → nat_le a b ≡ false
le_is_not a b lt = split (nat_le a b) (λ q. absurd (clash a b (leb-true a b q) lt)) (λ q. q)

module _ (m : Model) (now to : ℕ) (x : HappenedView) where
  abbrev more : Model
  more = with_set m now to x

  as_before : (t : ℕ) → t ≤ now → m t ≡ more t
  as_before t le = sym (λ i. if le_is t now le i then m t else if nat_eq t to then x else nothing)

  at_stop : (t : ℕ) → now < t → nat_eq t to ≡ true → more t ≡ x
  at_stop t lt e = λ i. if le_is_not t now lt i then m t else if e i then x else nothing

  between : (t : ℕ) → now < t → nat_eq t to ≡ false → more t ≡ nothing
  between t lt e = λ i. if le_is_not t now lt i then m t else if e i then x else nothing

pub tick_adds_one_set : TickAddsOneSet
tick_adds_one_set p is birth h m legal who upto to x stop settled =
    let now : ℕ = now_of birth h in
    let n : Model = with_set m now to x in
    tick_keeps p birth h m n who upto to legal (λ t a le. as_before m now to x t le)
    (λ t a le.
    split (nat_eq t to)
    (λ e.
    subst (λ y. Settled p.triggers (base_at p birth n h t) (status p birth n (t - 1)) y) (sym (at_stop m now to x t a e))
    (subst (λ u. Settled p.triggers (base_at p birth n h u) (status p birth n (u - 1)) x) (sym (eqb-true t to e)) settled))
    (λ e.
    let lt : t < to = before t to le (λ q. apart t to e q) in
    subst (λ y. Settled p.triggers (base_at p birth n h t) (status p birth n (t - 1)) y) (sym (between m now to x t a e))
    (subst (λ b. Settled p.triggers b (status p birth n (t - 1)) nothing) (sym (unstirred p birth n h t (stop.none_before t a lt)))
    (quiet_settles p is (status p birth n (t - 1))).settled)))
    stop
  where
    before : (a b : ℕ) → a ≤ b → (a ≡ b → ⊥) → a < b
    before a b le ne = split (nat_le b a) (λ q. absurd (ne (omega (arith, le, leb-true b a q)))) (λ q. leb-false b a q)

    apart : (a b : ℕ) → nat_eq a b ≡ false → a ≡ b → ⊥
    apart a b e q = wrong (nat_eq a b) (eq-eqb a b q) e
      where
        wrong : (b : Bool) → b ≡ true → b ≡ false → ⊥
        wrong true p q = cc
        wrong false p q = cc
