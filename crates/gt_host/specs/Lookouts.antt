-- What is found to be done.
use Rattle.std.specs.Prelude.{ℕ, ◌<◌, ◌≤◌}
use Rattle.gt_base.specs.declared.limits.TheConstants.{MAX_LINKS}
use Rattle.gt_host.specs.declared.ports.TheConstants.{MAX_OPEN}
use Rattle.gt_host.specs.declared.lookout.NextTask.{NextTask}
use Rattle.gt_host.specs.declared.lookout.NextTask.TheVariants.{Fresh, Link, Stop}

-- a further link can be opened, where so many were opened and are open, and there is room for so many
abbrev pub MayOpen : ℕ → ℕ → ℕ → Type 0
MayOpen opened busy room = (opened < MAX_LINKS) × (busy < MAX_OPEN) × (opened < room)

-- a link is opened only where it can be, and one that has something to do was opened
abbrev pub FitsTask : Type 0 → ℕ → NextTask → Type 0
FitsTask Free opened (Fresh conn) = Free
FitsTask Free opened (Link k sign) = (1 ≤ k) × (k ≤ opened)
FitsTask Free opened Stop = Unit {0}
