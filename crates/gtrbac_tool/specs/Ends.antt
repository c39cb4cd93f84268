-- What a call ends with, in the order of the work: its words, the text of its policy, the fault or
-- the cycle of that, the names of a question, the script.
use Rattle.std.specs.Prelude.{◌≡◌, ◌⊎◌, ◌<◌, ◌≤◌, ℕ, List, length, codes, Option, Some, None, Result, Ok, Err, IfSome}
use Rattle.gt_io.specs.Shelf.{Contents}
use Rattle.policy_words.specs.Naming.{NamedPolicy}
use Rattle.policy_commands.specs.Ends.{EndView}
use Rattle.policy_commands.specs.Finding.{read_fault, too_long, IsStoredText, MissesText}
use Rattle.policy_commands.specs.Policies.{safe_in}
use Rattle.policy_commands.specs.Commands.{fmt_end, check_end}
use Rattle.gtrbac_tool.specs.declared.questions.Question.{Question}
use Rattle.gtrbac_tool.specs.declared.ahead.Inquiry.{Inquiry}
use Rattle.gtrbac_tool.specs.EndTexts.{usage, unknown_name}
use Rattle.gtrbac_tool.specs.Script.{Ends}
use Rattle.gtrbac_tool.specs.Late.{asks_of, AnswersScript}
use Rattle.gtrbac_tool.specs.Summary.{Gen, IsGen, IsNoGen, GenEnds}
use Rattle.gtrbac_tool.specs.Commands.{Command, check, fmt, run, named_by, command_of}
use Rattle.gtrbac_tool.specs.declared.top.TheConstants.{MAX_SCRIPT}

-- what a script determines over a safe policy, with what is asked behind it
abbrev pub PlaysTo : NamedPolicy → Option Inquiry → List ℕ → EndView → Type 0
PlaysTo np None script end = Ends np script end
PlaysTo np (Some asked) script end = AnswersScript np asked script end

-- the input failed; or it is too long; or it is a script, which is played. What the input does not
-- tell it may have
abbrev pub ScriptEnds : Type 0 → NamedPolicy → Option Inquiry → Option (List ℕ) → EndView → Type 0
ScriptEnds failed np asked input end =
    ((end ≡ read_fault) × failed)
    ⊎ ((end ≡ too_long (codes "script")) × IfSome input (λ left. MAX_SCRIPT < length left))
    ⊎ ((script : List ℕ) × IfSome input (λ left. script ≡ left) × (length script ≤ MAX_SCRIPT)
    × PlaysTo np asked script end)

-- a name that the policy does not have is told before the script is read
abbrev pub AskedEnds : Type 0 → NamedPolicy → Option (Option Inquiry) → Option (List ℕ) → EndView
    → Type 0
AskedEnds failed np None input end = end ≡ unknown_name
AskedEnds failed np (Some asked) input end = ScriptEnds failed np asked input end

-- a fault or a cycle of the policy is told before that
abbrev pub JudgedEnds : Type 0 → Option Question → Result NamedPolicy EndView → Option (List ℕ)
    → EndView
    → Type 0
JudgedEnds failed question (Err t) input end = end ≡ t
JudgedEnds failed question (Ok np) input end =
    AskedEnds failed np (asks_of np question) input end

-- what a command ends with over the text of its policy; `failed` says that the input failed
abbrev pub TextEnds : Type 0 → Command → List ℕ → Option (List ℕ) → EndView → Type 0
TextEnds failed (check name) text input end = end ≡ check_end text
TextEnds failed (fmt name) text input end = end ≡ fmt_end text
TextEnds failed (run name question) text input end =
    JudgedEnds failed question (safe_in text) input end

-- the shelf failed, or has no text of the name, or one that is too long; or it has a text, over
-- which the command ends so
abbrev pub FoundEnds : Type 0 → Type 0 → Command → Contents → Option (List ℕ) → EndView → Type 0
FoundEnds hard failed command texts input end =
    MissesText hard texts (named_by command) end
    ⊎ ((text : List ℕ) × IsStoredText texts (named_by command) text
    × TextEnds failed command text input end)

-- the words are neither a command over a policy nor `gen`
abbrev pub IsNoCommand : List (List ℕ) → Type 0
IsNoCommand words = (command_of words ≡ None) × IsNoGen words

module _ (hard failed : Type 0) (words : List (List ℕ)) (texts : Contents) (input : Option (List ℕ))
    (end : EndView) where
  -- What words end with: a summary, the usage line, or what their command ends with
  pub data WordsEnd : Type 0 where
    generated : (g : Gen) → IsGen words g → GenEnds g end → WordsEnd
    unspoken : IsNoCommand words → end ≡ usage → WordsEnd
    spoken : (c : Command) → command_of words ≡ Some c → FoundEnds hard failed c texts input end
        → WordsEnd
