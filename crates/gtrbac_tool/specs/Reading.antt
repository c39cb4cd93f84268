-- How a call that may read a script leaves its input.
use Rattle.std.specs.Prelude.{◌≡◌, ◌⊎◌, ◌+◌, ℕ, List, Option}
use Rattle.std.specs.Io.KnownBytes.{IsAtEnd}
use Rattle.gt_io.specs.Causes.{AtMostOnce, Rose, TakesFront}
use Rattle.gt_io.specs.Streams.{Intake, Output, stops}
use Rattle.gt_io.specs.declared.source.TheConstants.{READ_PIECE}
use Rattle.policy_commands.specs.Ends.{EndView}
use Rattle.gtrbac_tool.specs.Script.{IsRunStatus}
use Rattle.gtrbac_tool.specs.Writing.{PrintsEnd}
use Rattle.gtrbac_tool.specs.declared.top.TheConstants.{MAX_SCRIPT}

-- an end over the input, which failed at 4 alone, and was read to its end where a script was run
abbrev pub Reads : Type 0 → (Type 0 → Option (List ℕ) → EndView → Type 0) → Intake → Intake
    → EndView → Type 0
Reads Plays Ends a b end =
    Ends (Rose a.faults b.faults) a.left end × ((end.status ≡ 4) ⊎ (b.faults ≡ a.faults))
    × (Plays → IsRunStatus end.status → IsAtEnd b.left)

-- What a call does with its input and its output, that may play a script: it tells such an end; the
-- input is not asked again behind a failure or its end, a script that is too long is read no
-- further than the piece that shows it, and where none is asked for the input is untouched
pub record Works {I : Type 0} (intake : I → Intake) (Pieces Plays Asks : Type 0)
    (Ends : Type 0 → Option (List ℕ) → EndView → Type 0) (old new : I) (status : ℕ) (a b : Output)
    : Type 0 where
  pub tells : PrintsEnd Pieces (Reads Plays Ends (intake old) (intake new)) status a b
  pub once : AtMostOnce (stops (intake old)) (stops (intake new))
  pub short : TakesFront (MAX_SCRIPT + READ_PIECE) (intake old).left (intake new).left
  pub untouched : (new ≡ old) ⊎ Asks
