-- Plans: what closing a timeline at an instant gives, and the timeline after it.
use Rattle.std.specs.Prelude.{◌≡◌, ℕ, ◌+◌, ◌<◌, ◌≤◌, true, false, nat_le, nat_lt, ◌&&◌, ◌||◌, not, List, ◌++◌, flat_map, refl, if◌then◌else◌}
use Rattle.std.specs.Coded.{Coded, code_by, coded×, coded_ℕ, coded_list}
use Rattle.std.specs.List.{list_any}
use Rattle.std.specs.Ordering.{eq_by_cmp}
use Rattle.gt_base.specs.Held.{TriggerView}
use Rattle.gt_base.specs.Happening.{HappenedView, Fluents, happening_code, fluents_code}
use Rattle.gt_base.specs.Sets.{has, none, with_member}
use Rattle.gt_base.specs.declared.events.Fluent.{Fluent}
use Rattle.gt_base.specs.declared.events.Signal.{Signal}
use Rattle.gt_base.specs.declared.events.Prioritised.{Prioritised}
use Rattle.gt_base.specs.declared.limits.TheConstants.{LAST_MINUTE}
use Rattle.gtrbac_model.specs.Policy.{Policy}
use Rattle.gtrbac_model.specs.Base.{when}
use Rattle.gtrbac_model.specs.Conflict.{Status, after}
use Rattle.gtrbac_model.specs.Instant.{Settled}
use Rattle.gtrbac_model.specs.Status.{differ}
use Rattle.gtrbac_model.specs.Trigger.{met}
use Rattle.delay_agenda.specs.Due.{pending_cmp, pending_at, is_due_at}
use Rattle.delay_agenda.specs.declared.pairs.Pending.{Pending}
use Rattle.delay_agenda.specs.contracts.pairs.Pending as pending
use Rattle.instant_bases.specs.Timelines.{ClosedSet, TimelineView, timeline_code, base_in, stirs_in, since_of}
use Rattle.time_engine.specs.Traces.{Ascends, AreClosedBy, AreSome, traced}

-- the head of a delayed trigger that is met at the instant, with its due instant, where that is not
-- after the last one
abbrev pub joins_of : Status → HappenedView → ℕ → TriggerView → List Pending
joins_of before x at r = when (nat_lt 0 r.delay && nat_le (at + r.delay) LAST_MINUTE
    && met r x before) (pending_at (at + r.delay) r.head)

abbrev pub joins : List TriggerView → Status → HappenedView → ℕ → List Pending
joins rules before x at = flat_map (joins_of before x at) rules

-- a plan: its instant, the base and the set of it, the status after it, the pairs that join, and
-- how much room it needs
pub record PlanView : Type 0 where
  pub at : ℕ
  pub base : HappenedView
  pub set : HappenedView
  pub status : Fluents
  pub joining : List Pending
  pub need : ℕ

abbrev pub plan_code : Coded PlanView
plan_code =
    code_by (ℕ × (HappenedView × (HappenedView × (Fluents × (List Pending × ℕ)))))
    (coded× coded_ℕ (coded× happening_code (coded× happening_code
    (coded× fluents_code (coded× (coded_list pending.the_row.coded) coded_ℕ)))))
    (λ p. (p.at, (p.base, (p.set, (p.status, (p.joining, p.need))))))
    (λ (t, (b, (x, (s, (j, n))))).
    record { at = t; base = b; set = x; status = s; joining = j; need = n }) (λ _. refl)

-- what closing the timeline at the plan's instant gives: the one set that its base there settles
-- to, the status after it, and the heads of the delayed triggers that are met
pub record IsPlan (p : Policy) (v : TimelineView) (plan : PlanView) : Type 0 where
  pub base : plan.base ≡ base_in p v plan.at
  pub settled : Settled p.triggers plan.base (has v.status) plan.set
  pub only : (y : HappenedView) → Settled p.triggers plan.base (has v.status) y → y ≡ plan.set
  pub status : (f : Fluent) → has plan.status f ≡ after plan.set (has v.status) f
  pub joining : plan.joining ≡ joins p.triggers (has v.status) plan.set plan.at

-- the plan is one of this timeline as it is now
pub record Fits (v : TimelineView) (plan : PlanView) : Type 0 where
  pub later : v.now < plan.at
  pub none_before : (q : Pending) → has v.pending q ≡ true → plan.at ≤ q.due
  pub joins_later : (q : Pending) → list_any (eq_by_cmp pending_cmp q) plan.joining ≡ true
      → plan.at < q.due
  pub status : (f : Fluent) → has plan.status f ≡ after plan.set (has v.status) f

-- the timeline after the plan: the fluents that changed have its instant, what was due is gone,
-- what joins is on its way, and no signal waits
pub record IsAfter (v : TimelineView) (plan : PlanView) (w : TimelineView) : Type 0 where
  pub periods : w.periods ≡ v.periods
  pub birth : w.birth ≡ v.birth
  pub now : w.now ≡ plan.at
  pub status : w.status ≡ plan.status
  pub since : (f : Fluent) → since_of w f
      ≡ (if differ (has plan.status f) (has v.status f) then plan.at else since_of v f)
  pub trace : w.trace ≡ v.trace ++ traced plan.at plan.base plan.set
  pub pending : (q : Pending) → has w.pending q
      ≡ ((has v.pending q && not (is_due_at plan.at q))
      || list_any (eq_by_cmp pending_cmp q) plan.joining)
  pub signals : w.signals ≡ none

-- the timeline is closed at the instant
pub record ClosesTimeline (p : Policy) (v : TimelineView) (to : ℕ) (w : TimelineView) : Type 0 where
  pub plan : PlanView
  pub at : plan.at ≡ to
  pub is_plan : IsPlan p v plan
  pub after : IsAfter v plan w

-- nothing is raised after now and before the instant
abbrev pub NoneStirs : Policy → TimelineView → ℕ → Type 0
NoneStirs p v to = (t : ℕ) → v.now < t → t < to → stirs_in p v t ≡ false

-- what every timeline keeps
pub record IsTimeline (v : TimelineView) : Type 0 where
  pub born : v.birth ≤ v.now
  pub ages : (f : Fluent) → since_of v f ≤ v.now
  pub pending : (q : Pending) → has v.pending q ≡ true → v.now < q.due
  pub ascends : Ascends v.birth v.trace
  pub ends : AreClosedBy v.now v.trace
  pub some : AreSome v.trace

-- a timeline with its room: how many signals it can take, and how large a plan it can follow
pub record TimelineValue : Type 0 where
  pub line : TimelineView
  pub spare : ℕ
  pub room : ℕ

abbrev pub timeline_value_code : Coded TimelineValue
timeline_value_code = code_by (TimelineView × (ℕ × ℕ))
    (coded× timeline_code (coded× coded_ℕ coded_ℕ)) (λ v. (v.line, (v.spare, v.room)))
    (λ (l, (s, r)). record { line = l; spare = s; room = r }) (λ _. refl)

-- with one pair more
abbrev pub with_pending : TimelineView → ℕ → Prioritised → TimelineView
with_pending v due e = record v { pending = with_member v.pending (pending_at due e) }

-- with one signal more, which after the last instant there is none for
abbrev pub with_signal : TimelineView → Signal → TimelineView
with_signal v s = record v {
  signals = if nat_lt v.now LAST_MINUTE then with_member v.signals s
      else v.signals;
}

-- with these sets as its trace
abbrev pub with_trace : TimelineView → List ClosedSet → TimelineView
with_trace v cs = record v { trace = cs }
