-- Events that the status already agrees with.
use Rattle.std.specs.Prelude.{Bool, not, if◌then◌else◌}
use Rattle.gt_base.specs.declared.events.Prioritised.{Prioritised}
use Rattle.gtrbac_model.specs.Conflict.{Status}

-- whether the status already says what the event makes of it
abbrev pub agrees : Status → Prioritised → Bool
agrees s e = if e.event.on then s e.event.fluent else not (s e.event.fluent)
