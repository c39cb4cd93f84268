-- Where a run begins, as it is found.
use Rattle.std.specs.Prelude.{ℕ, ◌≡◌, ◌⊎◌, ◌+◌, ⊤, Bool, List, [], codes, Result, Ok, Err, MatchBool}
use Rattle.gt_io.specs.Streams.{Output}
use Rattle.policy_words.specs.Naming.{NamedPolicy}
use Rattle.policy_commands.specs.Ends.{EndView, ending, seen_end}
use Rattle.policy_commands.specs.Printing.{WantsMemory}
use Rattle.request_text.specs.Replies.{fault_word}
use Rattle.gtrbac_tool.specs.declared.starting.Start.{Start as Found}
use Rattle.gtrbac_tool.specs.declared.starting.Start.TheVariants as found
use Rattle.gtrbac_tool.specs.declared.script.Ran.{Ran}
use Rattle.gtrbac_tool.specs.declared.script.Ran.TheVariants.{Unborn, Born}
use Rattle.gtrbac_tool.specs.EndTexts.{behind, script_fault, no_birth}
use Rattle.gtrbac_tool.specs.Script.{ScriptStart, never, born, failed, EndsFrom}
use Rattle.gtrbac_tool.specs.RunStates.{IsOutcome}
use Rattle.gtrbac_tool.specs.Writing.{Hands, PrintsEnd}

abbrev pub started_so : Found → List (List ℕ) → ScriptStart
started_so found.Never later = never
started_so (found.Born birth number) later = born birth (number + 1) later
started_so (found.Bad fault number) later = failed (script_fault number (fault_word fault))
started_so (found.Unborn number) later = failed (script_fault number (codes "birth"))

abbrev pub number_of : Found → ℕ
number_of found.Never = 0
number_of (found.Born birth number) = number
number_of (found.Bad fault number) = number
number_of (found.Unborn number) = number

-- how a script was run from where it begins, of whose text this was handed out
abbrev pub RanFrom : NamedPolicy → ScriptStart → List ℕ → Ran → Type 0
RanFrom np never sent (Unborn end) = behind sent (seen_end end) ≡ ending 0 []
RanFrom np (failed t) sent (Unborn end) = behind sent (seen_end end) ≡ t
RanFrom np (born birth n lines) sent (Born book end) =
    IsOutcome np birth n lines book (behind sent (seen_end end))
RanFrom np _ _ _ = ⊥

-- how a script is run from there, in pieces or not; where it ends on the way, a prefix of its text
-- was written, or nothing
abbrev pub Leads : NamedPolicy → ScriptStart → Bool → Result Ran ℕ → Output → Output → Type 0
Leads np start pieces (Ok ran) a b =
    (sent : List ℕ) × RanFrom np start sent ran × Hands pieces a b sent
Leads np start pieces (Err status) a b =
    MatchBool pieces (PrintsEnd ⊤ (EndsFrom np start) status a b)
    (WantsMemory status a.written b.written a.faults b.faults)

-- without a birth there is nothing to tell of what is asked
abbrev pub IsUnborn : EndView → EndView → Type 0
IsUnborn end other =
    ((end.status ≡ 0) × (other ≡ no_birth)) ⊎ ((end.status ≡ 0 → ⊥) × (other ≡ end))
