-- How an end is written, also where its text leaves in pieces.
use Rattle.std.specs.Prelude.{◌≡◌, ◌⊎◌, ℕ, Bool, false, List, [], ◌++◌, take, Result, Ok, Err}
use Rattle.std.specs.declared.option.Option.{Option}
use Rattle.std.specs.Io.KnownBytes.{Appends}
use Rattle.gt_io.specs.Streams.{Output}
use Rattle.policy_commands.specs.declared.ends.End.{End}
use Rattle.policy_commands.specs.Ends.{EndView, seen_end}
use Rattle.policy_commands.specs.Printing.{IsPrinted, WantsMemory}

-- a prefix of the text was written, where what is written is told
abbrev pub AppendsPrefix : Option (List ℕ) → Option (List ℕ) → List ℕ → Type 0
AppendsPrefix old new text = (n : ℕ) × Appends old new (take n text)

-- for want of memory a prefix of the text was written, and perhaps no more
abbrev pub IsCutShort : ℕ → EndView → Option (List ℕ) → Option (List ℕ) → ℕ → ℕ → Type 0
IsCutShort status end old new before now =
    (status ≡ 8) × AppendsPrefix old new end.text × (now ≡ before)

-- an end was printed, or there was no memory for it
abbrev pub Prints : {E : Type 0} → Result End E → ℕ → Output → Output → Type 0
Prints (Ok end) status a b =
    IsPrinted status (seen_end end) a.written b.written a.faults b.faults
Prints (Err fault) status a b = WantsMemory status a.written b.written a.faults b.faults

-- a call that prints what it ends with, or, for want of memory, nothing; where this holds, perhaps a
-- prefix of it
abbrev pub PrintsEnd : Type 0 → (EndView → Type 0) → ℕ → Output → Output → Type 0
PrintsEnd Pieces Ends status a b =
    WantsMemory status a.written b.written a.faults b.faults
    ⊎ ((end : EndView) × Ends end
    × (IsPrinted status end a.written b.written a.faults b.faults
    ⊎ (Pieces × IsCutShort status end a.written b.written a.faults b.faults)))

-- this was written of a text, and nothing where it does not leave in pieces
pub record Hands (pieces : Bool) (a b : Output) (sent : List ℕ) : Type 0 where
  pub written : Appends a.written b.written sent
  pub steady : b.faults ≡ a.faults
  pub kept : pieces ≡ false → sent ≡ []

-- of a text that waits this much was written, and the rest waits on
abbrev pub Sends : Bool → List ℕ → List ℕ → Output → Output → Type 0
Sends pieces before after a b =
    (sent : List ℕ) × (before ≡ sent ++ after) × Hands pieces a b sent
