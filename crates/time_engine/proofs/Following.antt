-- Plans fit their timeline, and a timeline that follows one keeps what every timeline keeps.
use Rattle.std.proofs.Common.{◌≡◌, ℕ, ◌+◌, ◌<◌, ◌≤◌, Bool, true, false, cond, ◌&&◌, not, nat_le, nat_lt, List, [], ◌∷◌, ◌++◌, inl, inr, refl, sym, ◌∙◌, ap, subst, arith}
use Rattle.std.specs.List.{list_any}
use Rattle.std.specs.Ordering.{eq_by_cmp}
use Rattle.std.proofs.lemmas.Bool.{ltb-true, ltb-false, leb-true, leb-false, eq-eqb}
use Rattle.gt_base.specs.Held.{TriggerView}
use Rattle.gt_base.specs.Happening.{HappenedView}
use Rattle.gt_base.specs.Sets.{has}
use Rattle.gt_base.proofs.SetLaws.{has-with_member}
use Rattle.gt_base.specs.declared.events.Prioritised.{Prioritised}
use Rattle.gt_base.specs.declared.limits.TheConstants.{LAST_MINUTE}
use Rattle.gtrbac_model.specs.Policy.{Policy}
use Rattle.gtrbac_model.specs.Base.{periodic, limited, when}
use Rattle.gtrbac_model.specs.Conflict.{Status}
use Rattle.gtrbac_model.specs.History.{is_some_item}
use Rattle.gtrbac_model.specs.Status.{differ}
use Rattle.gtrbac_model.specs.Trigger.{met}
use Rattle.gtrbac_model.proofs.Elements.{both_true, either_true, left_true, right_true, split, equal_by}
use Rattle.delay_agenda.specs.Due.{pending_cmp, pending_at, is_due_at}
use Rattle.delay_agenda.specs.declared.pairs.Pending.{Pending}
use Rattle.delay_agenda.proofs.PendingLaws.{pending_cmp_total, pending_cmp-IsAntisymmetric}
use Rattle.instant_bases.specs.Timelines.{TimelineView, stirs_in, due_events, since_of}
use Rattle.time_engine.specs.Traces.{Ascends, AreClosedBy, AreSome, traced}
use Rattle.time_engine.specs.Plans.{PlanView, joins_of, joins, IsPlan, Fits, IsAfter, IsTimeline, NoneStirs, with_pending}
use Rattle.time_engine.proofs.Booleans.{any-append, some-append, clash}
use Rattle.time_engine.proofs.DueEvents.{some_due}
use Rattle.time_engine.proofs.TraceLaws.{traced_ascends, traced_ends, traced_some}

-- where a pair is due something is raised
pub due_stirs : (p : Policy) (v : TimelineView) (q : Pending) → has v.pending q ≡ true → stirs_in p v q.due ≡ true
due_stirs p v q there =
    let ps : List Prioritised = periodic p v.birth q.due in
    let ds : List Prioritised = due_events v.pending q.due in
    let ls : List Prioritised = limited p (has v.status) (since_of v) q.due in
    left_true (is_some_item ((ps ++ ds) ++ ls)) _
    (some-append (ps ++ ds) ls ∙ left_true (is_some_item (ps ++ ds)) _ (some-append ps ds ∙ right_true (is_some_item ps) _ (some_due v.pending q.due q there refl)))

-- what joins is due later
pub joins_later : (rules : List TriggerView) (before : Status) (x : HappenedView) (at : ℕ) (q : Pending) → list_any (eq_by_cmp pending_cmp q) (joins rules before x at) ≡ true → at < q.due
joins_later [] before x at q e = cc
joins_later (r ∷ rules) before x at q e =
    elim (either_true _ _ (sym (any-append (eq_by_cmp pending_cmp q) (joins_of before x at r) (joins rules before x at)) ∙ e)) [
      | inl h ↦ by (nat_lt 0 r.delay && nat_le (at + r.delay) LAST_MINUTE && met r x before) refl h
      | inr h ↦ joins_later rules before x at q h
    ]
  where
    by : (b : Bool) → (nat_lt 0 r.delay && nat_le (at + r.delay) LAST_MINUTE && met r x before) ≡ b → list_any (eq_by_cmp pending_cmp q) (when b (pending_at (at + r.delay) r.head)) ≡ true → at < q.due
    by false _ h = cc
    by true test h =
        elim (either_true (eq_by_cmp pending_cmp q (pending_at (at + r.delay) r.head)) false h) [
          | inl same ↦
              let is : q ≡ pending_at (at + r.delay) r.head = equal_by pending_cmp_total pending_cmp-IsAntisymmetric q (pending_at (at + r.delay) r.head) same in
              let due : q.due ≡ at + r.delay = ap (λ y. y.due) is in
              let delayed : 0 < r.delay = ltb-true 0 r.delay (both_true (nat_lt 0 r.delay) _ (both_true _ (met r x before) test).0).0 in
              omega (arith, due, delayed)
          | inr f ↦ cc
        ]

-- a plan of a timeline to an instant before which nothing is raised fits it
pub plan_fits : (p : Policy) (v : TimelineView) (plan : PlanView) (to : ℕ) → plan.at ≡ to → IsTimeline v → IsPlan p v plan → v.now < to → NoneStirs p v to → Fits v plan
plan_fits p v plan to at kept is later none = record {
  later = omega (arith, at, later);
  none_before = λ q there.
      split (nat_le plan.at q.due) (λ e. leb-true plan.at q.due e)
      (λ e.
      let early : q.due < plan.at = leb-false plan.at q.due e in
      absurd (clash (stirs_in p v q.due) (due_stirs p v q there) (none q.due (kept.pending q there) (omega (arith, early, at)))));
  joins_later = λ q e. joins_later p.triggers (has v.status) plan.set plan.at q (ap (list_any (eq_by_cmp pending_cmp q)) (sym is.joining) ∙ e);
  status = is.status;
}

cond_low : (b : Bool) (x y high : ℕ) → x ≤ high → y ≤ high → cond b x y ≤ high
cond_low true x y high a c = a
cond_low false x y high a c = c

-- the timeline after a plan keeps what every timeline keeps
pub after_kept : (v w : TimelineView) (plan : PlanView) → IsTimeline v → Fits v plan → IsAfter v plan w → IsTimeline w
after_kept v w plan kept fits after =
    let now : w.now ≡ plan.at = after.now in
    let later : v.now < plan.at = fits.later in
    record {
      born = omega (arith, after.birth, now, later, kept.born);
      ages = λ f.
          let low : since_of v f ≤ v.now = kept.ages f in
          subst (λ n. since_of w f ≤ n) (sym now) (subst (λ n. n ≤ plan.at) (sym (after.since f)) (cond_low (differ (has plan.status f) (has v.status f)) plan.at (since_of v f) plan.at (omega arith) (omega (arith, low, later))));
      pending = λ q there.
          subst (λ n. n < q.due) (sym now)
          (elim (either_true _ _ (sym (after.pending q) ∙ there)) [
            | inl old ↦
                let parts = both_true (has v.pending q) _ old in
                let le : plan.at ≤ q.due = fits.none_before q parts.0 in
                split (nat_lt plan.at q.due) (λ e. ltb-true plan.at q.due e)
                (λ e. absurd (clash (is_due_at plan.at q) (eq-eqb q.due plan.at (same plan.at q.due le e)) (not_true (is_due_at plan.at q) parts.1)))
            | inr joined ↦ fits.joins_later q joined
          ]);
      ascends = subst (Ascends w.birth) (sym after.trace) (subst (λ b. Ascends b (v.trace ++ traced plan.at plan.base plan.set)) (sym after.birth) (traced_ascends v.trace plan.at plan.base plan.set v.birth v.now kept.born later kept.ascends kept.ends));
      ends = subst (AreClosedBy w.now) (sym after.trace) (subst (λ n. AreClosedBy n (v.trace ++ traced plan.at plan.base plan.set)) (sym now) (traced_ends v.trace plan.at plan.base plan.set v.now later kept.ends));
      some = subst AreSome (sym after.trace) (traced_some v.trace plan.at plan.base plan.set kept.some);
    }
  where
    not_true : (b : Bool) → not b ≡ true → b ≡ false
    not_true true e = cc
    not_true false e = refl

    same : (a b : ℕ) → a ≤ b → nat_lt a b ≡ false → b ≡ a
    same a b le e = let ge : b ≤ a = ltb-false a b e in omega (arith, le, ge)

-- with a pair more that is due later it keeps it too
pub requested_kept : (v : TimelineView) (due : ℕ) (e : Prioritised) → IsTimeline v → v.now < due → IsTimeline (with_pending v due e)
requested_kept v due e kept later = record {
  born = kept.born;
  ages = kept.ages;
  pending = λ q there.
      elim (either_true _ _ (sym (has-with_member pending_cmp_total v.pending (pending_at due e) q) ∙ there)) [
        | inl same ↦
            let is : q ≡ pending_at due e = equal_by pending_cmp_total pending_cmp-IsAntisymmetric q (pending_at due e) same in
            let at : q.due ≡ due = ap (λ y. y.due) is in
            omega (arith, at, later)
        | inr old ↦ kept.pending q old
      ];
  ascends = kept.ascends;
  ends = kept.ends;
  some = kept.some;
}
