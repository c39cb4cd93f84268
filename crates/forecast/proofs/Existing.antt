-- Each list of entries has an execution model, where the policy is safe, and no other.
use Rattle.std.proofs.Common.{◌≡◌, ℕ, zero, suc, ◌+◌, ◌-◌, ◌<◌, ◌≤◌, true, false, nat_eq, nat_le, List, sym, subst, arith}
use Rattle.std.proofs.lemmas.Bool.{leb-true, leb-false, ne_eqb, eq-eqb}
use Rattle.gt_base.specs.Happening.{HappenedView, nothing}
use Rattle.gt_base.specs.Machines.{ticked}
use Rattle.gt_base.specs.declared.events.Event.{Event}
use Rattle.gt_base.specs.declared.requests.Entry.{Entry}
use Rattle.gtrbac_model.specs.Policy.{Policy}
use Rattle.gtrbac_model.specs.Instant.{Settled}
use Rattle.gtrbac_model.specs.Status.{Model}
use Rattle.gtrbac_model.specs.Base.{status, base_at}
use Rattle.gtrbac_model.specs.History.{IsExecutionModel, now_of}
use Rattle.gtrbac_model.proofs.Elements.{split}
use Rattle.gtrbac_model.proofs.Existence.{settled_set}
use Rattle.gtrbac_model.proofs.Levels.{are_levels, by_trigger}
use Rattle.gtrbac_model.proofs.OneModel.{Agree, status_same, base_same, only_model}
use Rattle.gtrbac_model.proofs.Playing.{now_snoc}
use Rattle.walk_laws.proofs.Climbing.{safe_is_levelled}
use Rattle.forecast.specs.Ahead.{to_horizon, nobody_asks, AheadIsOne}

module _ (p : Policy) (birth : ℕ) (h : List Entry) (level : Event → ℕ) (levelled : are_levels p.triggers level ≡ true) where
  -- the sets of the first k minutes are settled over the bases
  abbrev SettledFor : Model → ℕ → Type 0
  SettledFor m k = (t : ℕ) → birth < t → t ≤ birth + k → Settled p.triggers (base_at p birth m h t) (status p birth m (t - 1)) (m t)

  -- settled over one model's base is settled over that of a model that agrees before
  moved_to : (m n : Model) (t : ℕ) (y : HappenedView) → Agree p birth m n (t - 1)
      → Settled p.triggers (base_at p birth m h t) (status p birth m (t - 1)) y → Settled p.triggers (base_at p birth n h t) (status p birth n (t - 1)) y
  moved_to m n t y same s =
      subst (λ b. Settled p.triggers b (status p birth n (t - 1)) y) (base_same p birth m n t h same)
      (subst (λ u. Settled p.triggers (base_at p birth m h t) u y) (status_same p birth m n (t - 1) (t - 1) same (omega arith)) s)

  -- the model with one set at the next minute
  with_next : Model → ℕ → HappenedView → Model
  with_next m to x t = elim (nat_eq t to) [ true ↦ x | false ↦ m t ]

  one_more : (m : Model) (k : ℕ) → SettledFor m k → (n : Model) × SettledFor n (suc k)
  one_more m k is =
      let to : ℕ = birth + suc k in
      let x : (x : HappenedView) × Settled p.triggers (base_at p birth m h to) (status p birth m (to - 1)) x =
      settled_set p.triggers (base_at p birth m h to) (status p birth m (to - 1)) level levelled in
      let n : Model = λ t. elim (nat_eq t to) [ true ↦ x.0 | false ↦ m t ] in
      let same : (u : ℕ) → u < to → m u ≡ n u = λ u lt.
      let ne : nat_eq u to ≡ false = ne_eqb u to (λ e. omega (arith, lt, e)) in
      sym (λ i. elim (ne i) [ true ↦ x.0 | false ↦ m u ]) in
      let last : (t : ℕ) → t ≡ to → x.0 ≡ n t = λ t at.
      let eq : nat_eq t to ≡ true = eq-eqb t to at in
      sym (λ i. elim (eq i) [ true ↦ x.0 | false ↦ m t ]) in (
        n,
        λ t a b. split (nat_le t (birth + k))
            (λ e.
            let low : t ≤ birth + k = leb-true t (birth + k) e in
            subst (λ y. Settled p.triggers (base_at p birth n h t) (status p birth n (t - 1)) y) (same t (omega (arith, low)))
            (moved_to m n t (m t) (λ u c d. same u (omega (arith, d, low))) (is t a low)))
            (λ e.
            let at : t ≡ to = omega (arith, b, leb-false t (birth + k) e) in
            subst (λ y. Settled p.triggers (base_at p birth n h t) (status p birth n (t - 1)) y) (last t at)
            (moved_to m n t x.0 (λ u c d. same u (omega (arith, d, at)))
            (subst (λ u. Settled p.triggers (base_at p birth m h u) (status p birth m (u - 1)) x.0) (sym at) x.1))),
      )

  some_model : (k : ℕ) → (m : Model) × SettledFor m k
  some_model zero = (λ t. nothing, λ t a b. absurd (omega (arith, a, b)))
  some_model (suc k) = let before : (m : Model) × SettledFor m k = some_model k in one_more before.0 k before.1

  pub some_execution : (m : Model) × IsExecutionModel p birth h m
  some_execution =
      let k : ℕ = now_of birth h - birth in
      let found : (m : Model) × SettledFor m k = some_model k in
      (found.0, λ t a b. found.1 t a (omega (arith, a, b)))

pub ahead_is_one : AheadIsOne
ahead_is_one p safe birth h upto =
    let levels = safe_is_levelled p.triggers safe in
    let found : (m : Model) × IsExecutionModel p birth (to_horizon h upto) m = some_execution p birth (to_horizon h upto) levels.0 (by_trigger p.triggers levels.0 levels.1) in
    record {
      model = found.0;
      ahead = found.1;
      only = λ n is t a b.
          only_model p birth (to_horizon h upto) found.0 levels.0 (by_trigger p.triggers levels.0 levels.1) found.1 n is t a (omega (arith, b, now_snoc birth h (ticked nobody_asks upto upto)));
    }
