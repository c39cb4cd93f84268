-- The events that stand among those listed so far.
use Rattle.std.specs.Prelude.{Bool, is_some}
use Rattle.gt_base.specs.declared.events.Event.{Event}
use Rattle.why_check.specs.Peaks.{peak_in, sides_in}
use Rattle.why_check.specs.declared.standing.Standing.{Standing}

abbrev pub stands_in : Standing → Event → Bool
stands_in s e = is_some (peak_in (sides_in s.noted) e)
