-- How an end is printed.
use Rattle.std.specs.Prelude.{◌≡◌, ◌⊎◌, ℕ, List}
use Rattle.std.specs.declared.option.Option.{Option}
use Rattle.std.specs.Io.KnownBytes.{Appends, Keeps}
use Rattle.gt_io.specs.Causes.{Rose, AppendsPart}
use Rattle.policy_commands.specs.Ends.{EndView}

-- the end was printed whole by an output that failed nowhere; or the output failed, and a proper
-- prefix of the text was written
abbrev pub IsPrinted : ℕ → EndView → Option (List ℕ) → Option (List ℕ) → ℕ → ℕ → Type 0
IsPrinted status end old new before now =
    ((status ≡ end.status) × Appends old new end.text × (now ≡ before))
    ⊎ ((status ≡ 5) × Rose before now × AppendsPart old new end.text)

-- for want of memory nothing was written
abbrev pub WantsMemory : ℕ → Option (List ℕ) → Option (List ℕ) → ℕ → ℕ → Type 0
WantsMemory status old new before now = (status ≡ 8) × Keeps old new × (now ≡ before)
