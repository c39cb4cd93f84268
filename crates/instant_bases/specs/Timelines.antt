-- What a clause sees of a timeline, and the base that it has at an instant after now.
use Rattle.std.specs.Prelude.{◌≡◌, ℕ, ◌+◌, Bool, ◌||◌, nat_eq, List, [], ◌++◌, map, refl, if◌then◌else◌}
use Rattle.std.specs.Coded.{Coded, code_by, coded×, coded_ℕ, coded_list}
use Rattle.gt_base.specs.declared.events.Fluent.{Fluent}
use Rattle.gt_base.specs.declared.events.Prioritised.{Prioritised}
use Rattle.gt_base.specs.declared.events.Signal.{Signal}
use Rattle.gt_base.specs.contracts.events.Fluent as fluent
use Rattle.gt_base.specs.contracts.events.Signal as signal
use Rattle.gt_base.specs.Orders.{signal_cmp}
use Rattle.gt_base.specs.Happening.{HappenedView, Fluents, fluents_code, happening_code}
use Rattle.gt_base.specs.Sets.{SetOf, set_code, has, members, set_of, those}
use Rattle.gtrbac_model.specs.Period.{Period, period_code}
use Rattle.gtrbac_model.specs.Policy.{Policy}
use Rattle.gtrbac_model.specs.Base.{periodic, limited}
use Rattle.gtrbac_model.specs.History.{is_some_item}
use Rattle.duration_limits.specs.Since.{since_in}
use Rattle.delay_agenda.specs.Due.{Pendings, pendings_code, is_due_at}

-- a nonempty set with its instant and the base of that instant
pub record ClosedSet : Type 0 where
  pub at : ℕ
  pub base : HappenedView
  pub set : HappenedView

abbrev pub closed_set_code : Coded ClosedSet
closed_set_code =
    code_by (ℕ × (HappenedView × HappenedView))
    (coded× coded_ℕ (coded× happening_code happening_code)) (λ c. (c.at, (c.base, c.set)))
    (λ (t, (b, s)). record { at = t; base = b; set = s }) (λ _. refl)

abbrev pub Signals : Type 0
Signals = SetOf signal_cmp

-- a timeline: the periods of its policy, its birth and its instant, what is on, the fluents that
-- have changed with the instants of their last changes, the sets so far, the events that are due
-- later, and the signals of the next minute
pub record TimelineView : Type 0 where
  pub periods : List Period
  pub birth : ℕ
  pub now : ℕ
  pub status : Fluents
  pub ages : List (Fluent × ℕ)
  pub trace : List ClosedSet
  pub pending : Pendings
  pub signals : Signals

abbrev pub timeline_code : Coded TimelineView
timeline_code =
    code_by
    (List Period
    × (ℕ × (ℕ × (Fluents × (List (Fluent × ℕ) × (List ClosedSet × (Pendings × Signals)))))))
    (coded× (coded_list period_code)
    (coded× coded_ℕ
    (coded× coded_ℕ
    (coded× fluents_code
    (coded× (coded_list (coded× fluent.the_row.coded coded_ℕ))
    (coded× (coded_list closed_set_code)
    (coded× pendings_code (set_code signal.the_row.coded))))))))
    (λ v. (v.periods, (v.birth, (v.now, (v.status, (v.ages, (v.trace, (v.pending, v.signals))))))))
    (λ (ps, (b, (n, (s, (a, (t, (p, g))))))). record {
      periods = ps;
      birth = b;
      now = n;
      status = s;
      ages = a;
      trace = t;
      pending = p;
      signals = g;
    })
    (λ _. refl)

-- the timeline is one of the policy
abbrev pub StandsFor : Policy → TimelineView → Type 0
StandsFor p v = v.periods ≡ p.periods

-- the instant of the fluent's last change, or the birth
abbrev pub since_of : TimelineView → Fluent → ℕ
since_of v f = since_in (record { birth = v.birth; rows = v.ages; spare = 0 }) f

-- the events that are due at the instant
abbrev pub due_events : Pendings → ℕ → List Prioritised
due_events s t = map (λ q. q.event) (members (those s (is_due_at t)))

-- signals stand in the base of the next minute alone
abbrev pub signals_for : ℕ → Signals → ℕ → List Signal
signals_for now s t = if nat_eq t (now + 1) then members s else []

-- what the timeline raises at a later instant, while nothing happens before it: what the periodic
-- entries raise, what is due, and the limits that are ripe
abbrev pub raised_in : Policy → TimelineView → ℕ → List Prioritised
raised_in p v t =
    periodic p v.birth t ++ due_events v.pending t ++ limited p (has v.status) (since_of v) t

abbrev pub signals_in : TimelineView → ℕ → List Signal
signals_in v t = signals_for v.now v.signals t

-- the timeline's base at a later instant
abbrev pub base_in : Policy → TimelineView → ℕ → HappenedView
base_in p v t = record { events = set_of (raised_in p v t); signals = set_of (signals_in v t) }

-- whether it has an event or a signal
abbrev pub stirs_in : Policy → TimelineView → ℕ → Bool
stirs_in p v t = is_some_item (raised_in p v t) || is_some_item (signals_in v t)
