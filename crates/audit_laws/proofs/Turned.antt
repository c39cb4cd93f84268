-- A fluent stands as at first, or as the last set that won an event of it made it.
use Rattle.std.proofs.Common.{◌≡◌, ℕ, zero, suc, ◌+◌, ◌-◌, ◌<◌, ◌≤◌, nat_le, Bool, true, false, cond, not, ◌&&◌, ◌⊎◌, inl, inr, List, refl, sym, subst, arith}
use Rattle.std.proofs.lemmas.Bool.{leb-true, leb-false}
use Rattle.gt_base.specs.declared.events.Fluent.{Fluent}
use Rattle.gt_base.specs.declared.events.Event.{Event}
use Rattle.gt_base.specs.declared.requests.Entry.{Entry}
use Rattle.gt_base.specs.Happening.{HappenedView}
use Rattle.gt_base.specs.Sets.{has, members}
use Rattle.gtrbac_model.specs.Same.{same_event}
use Rattle.gtrbac_model.specs.Policy.{Policy}
use Rattle.gtrbac_model.specs.Conflict.{blocked, turns_on, turns_off, won, won_at}
use Rattle.gtrbac_model.specs.Status.{Model, status_after}
use Rattle.gtrbac_model.specs.History.{Legal, now_of}
use Rattle.gtrbac_model.proofs.Elements.{both_true, and_true, any_elim, split}
use Rattle.gtrbac_model.proofs.Uniqueness.{is_same_event, of_elem}
use Rattle.audit_laws.specs.Turning.{IsUnturned, StandsAtFirst, IsTurned, WhatTurns}
use Rattle.audit_laws.proofs.Causing.{each_has_cause}

-- a won event is won at some priority
won_somewhere : (x : HappenedView) (e : Event) → won x e ≡ true → (prio : ℕ) × (won_at x e prio ≡ true)
won_somewhere x e is =
    let (o, there, passes) = any_elim (λ o. same_event o.event e && not (blocked x o)) (members x.events) is in
    let (same, free) = both_true (same_event o.event e) (not (blocked x o)) passes in
    (o.prio, subst (λ d. won_at x d o.prio ≡ true) (is_same_event o.event e same) (and_true (has x.events o) (not (blocked x o)) (of_elem x o there) free))

module _ (p : Policy) (birth : ℕ) (m : Model) (h : List Entry) (legal : Legal p birth h m) where
  abbrev Stands : ℕ → Event → Type 0
  Stands t e = StandsAtFirst p birth m t e ⊎ IsTurned p birth m h t e

  unturned_on : (f : Fluent) (from t : ℕ) → IsUnturned m f from t → won (m (suc t)) (turns_on f) ≡ false → won (m (suc t)) (turns_off f) ≡ false → IsUnturned m f from (suc t)
  unturned_on f from t before on off u a le =
      split (nat_le u t)
      (λ q. before u a (leb-true u t q))
      (λ q. subst (λ v. (won (m v) (turns_on f) ≡ false) × (won (m v) (turns_off f) ≡ false)) (last u le (leb-false u t q)) (on, off))
    where
      last : (u : ℕ) → u ≤ suc t → t < u → suc t ≡ u
      last u le lt = omega (arith, le, lt)

  -- where no event of the fluent is won at an instant, it stands as before it
  stays : (t : ℕ) (e : Event) → won (m (suc t)) (turns_on e.fluent) ≡ false → won (m (suc t)) (turns_off e.fluent) ≡ false → Stands t e → Stands (suc t) e
  stays t e on off (inl s) = inl (record { at_first = s.at_first; unturned = unturned_on e.fluent birth t s.unturned on off })
  stays t e on off (inr s) =
      inr (record { at = s.at; after_birth = s.after_birth; not_after = omega (arith, s.not_after); prio = s.prio; wins = s.wins; cause = s.cause; unturned = unturned_on e.fluent s.at t s.unturned on off })

  turned : (t : ℕ) → birth < t → t ≤ now_of birth h → (e : Event) → won (m t) e ≡ true → Stands t e
  turned t after_birth le e is =
      let (prio, wins) = won_somewhere (m t) e is in
      inr (record {
        at = t;
        after_birth = after_birth;
        not_after = omega arith;
        prio = prio;
        wins = wins;
        cause = each_has_cause p birth m h legal t after_birth le (record { prio = prio; event = e }) (both_true (has (m t).events (record { prio = prio; event = e })) _ wins).0;
        unturned = λ u a b. absurd (never u a b);
      })
    where
      never : (u : ℕ) → t < u → u ≤ t → ⊥
      never u a b = omega (arith, a, b)

  stands : (k : ℕ) → birth + k ≤ now_of birth h → (e : Event) → status_after p birth m k e.fluent ≡ e.on → Stands (birth + k) e
  stands zero le e is = inl (record { at_first = is; unturned = λ u a b. absurd (never birth u a b) })
    where
      never : (b u : ℕ) → b < u → u ≤ b + 0 → ⊥
      never b u a c = omega (arith, a, c)
  stands (suc k) le e is =
      subst (λ t. Stands t e) (next birth k)
      (by (won (m (suc (birth + k))) (turns_on e.fluent)) (won (m (suc (birth + k))) (turns_off e.fluent)) refl refl
      (subst (λ t. cond (won (m t) (turns_on e.fluent)) true (cond (won (m t) (turns_off e.fluent)) false (status_after p birth m k e.fluent)) ≡ e.on) (sym (next birth k)) is)
      (stands k (omega (arith, le)) e))
    where
      next : (b k : ℕ) → suc (b + k) ≡ b + suc k
      next b k = omega arith

      t : ℕ
      t = suc (birth + k)

      of : (on : Bool) → won (m t) (record { on = on; fluent = e.fluent }) ≡ true → on ≡ e.on → Stands t e
      of on is same = turned t (omega arith) (omega (arith, le)) e (subst (λ b. won (m t) (record { on = b; fluent = e.fluent }) ≡ true) same is)

      by : (a b : Bool) → won (m t) (turns_on e.fluent) ≡ a → won (m t) (turns_off e.fluent) ≡ b → cond a true (cond b false (status_after p birth m k e.fluent)) ≡ e.on
          → (status_after p birth m k e.fluent ≡ e.on → Stands (birth + k) e) → Stands t e
      by true b on off is before = of true on is
      by false true on off is before = of false off is
      by false false on off is before = stays (birth + k) e on off (before is)

pub what_turns : WhatTurns
what_turns p birth m h legal t after le e is =
    subst (λ u. StandsAtFirst p birth m u e ⊎ IsTurned p birth m h u e) (there birth t after)
    (stands p birth m h legal (t - birth) (omega (arith, after, le)) e is)
  where
    there : (b t : ℕ) → b ≤ t → b + (t - b) ≡ t
    there b t le = omega (arith, le)
