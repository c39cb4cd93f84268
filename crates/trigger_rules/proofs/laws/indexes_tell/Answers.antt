use Rattle.trigger_rules.proofs.Numbers.{events_are_indexed, signals_are_indexed, indexes_ascend}
use Rattle.trigger_rules.proofs.laws.indexes_tell.Goals as goal

pub returns : goal.returns
returns c = record { events = events_are_indexed; signals = signals_are_indexed; ascend = indexes_ascend }
