use Rattle.gt_base.proofs.SetsAreSets.{events_are_sets, fluents_are_sets, prioritised_are_sets, signals_are_sets}
use Rattle.gt_base.proofs.laws.sets_are_sets.Goals as goal

pub returns : goal.returns
returns c = record { events = events_are_sets; prioritised = prioritised_are_sets; signals = signals_are_sets; fluents = fluents_are_sets }
