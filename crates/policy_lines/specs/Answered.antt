-- What the code answers for a line.
use Rattle.std.specs.Prelude.{◌≡◌, ◌⊎◌, Result, Ok, Err}
use Rattle.policy_words.specs.declared.faults.TextKind.{TextKind}
use Rattle.policy_words.specs.declared.faults.TextKind.TheVariants as faults
use Rattle.policy_words.specs.declared.sayings.Said.{Said}
use Rattle.policy_words.specs.Sayings.{SaidView}
use Rattle.policy_words.specs.Seen.{seen_said}
use Rattle.policy_words.specs.Reading.{Bounds}
use Rattle.policy_lines.specs.declared.periods.PeriodBounds.{PeriodBounds}

-- what the definition says, or want of memory
abbrev pub ReadsAs : Result Said TextKind → Result SaidView TextKind → Type 0
ReadsAs (Ok said) r = r ≡ Ok (seen_said said)
ReadsAs (Err f) r = (f ≡ faults.Memory) ⊎ (r ≡ Err f)

abbrev pub seen_bounds : PeriodBounds → Bounds
seen_bounds b = record { name = b.name; first = b.first; last = b.last }
