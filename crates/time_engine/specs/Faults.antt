-- Why an event is not queued.
use Rattle.std.specs.Prelude.{◌≡◌, ◌<◌, ℕ}
use Rattle.gt_base.specs.declared.limits.TheConstants.{LAST_MINUTE}
use Rattle.time_engine.specs.declared.timelines.RequestFault.{RequestFault}
use Rattle.time_engine.specs.declared.timelines.RequestFault.TheVariants.{Beyond, Memory}

-- the instant is the one told, and is after the last one; want of memory tells nothing
abbrev pub IsBeyond : ℕ → RequestFault → Type 0
IsBeyond due (Beyond told) = (told ≡ due) × (LAST_MINUTE < due)
IsBeyond due Memory = Unit {0}
