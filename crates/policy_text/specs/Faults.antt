-- What a fault tells of the lines of a text.
use Rattle.std.specs.Prelude.{◌≡◌, ◌⊎◌, Bool, true, false, List, Result, Err}
use Rattle.policy_words.specs.declared.faults.TextKind.{TextKind}
use Rattle.policy_words.specs.declared.faults.TextKind.TheVariants as faults
use Rattle.policy_words.specs.Sayings.{SaidView}
use Rattle.policy_words.specs.Reading.{Numbered}
use Rattle.policy_text.specs.declared.faults.TextFault.{TextFault}

abbrev pub want_of_memory : TextFault
want_of_memory = record { line = 0; kind = faults.Memory }

-- it is the fault of the lines, or want of memory
abbrev pub IsTextFault : Result (List (Numbered SaidView)) (Numbered TextKind) → TextFault → Type 0
IsTextFault read f = (f ≡ want_of_memory) ⊎ (read ≡ Err (record { line = f.line; it = f.kind }))

abbrev pub is_memory : TextKind → Bool
is_memory faults.Memory = true
is_memory _ = false
