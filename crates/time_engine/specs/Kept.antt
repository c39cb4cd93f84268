-- What a timeline's parts are seen as.
use Rattle.std.specs.Prelude.{ℕ, min}
use Rattle.instant_bases.specs.Timelines.{TimelineView}
use Rattle.time_engine.specs.declared.states.TimelineState.{TimelineState}

abbrev pub view_of : TimelineState → TimelineView
view_of s = record {
  periods = s.watches.items;
  birth = s.ages.birth;
  now = s.present;
  status = s.status.set;
  ages = s.ages.rows;
  trace = s.trace.items;
  pending = s.pending.set;
  signals = s.signals.set;
}

abbrev pub room_of : TimelineState → ℕ
room_of s = min s.pending.spare (min s.ages.spare s.trace.spare)
