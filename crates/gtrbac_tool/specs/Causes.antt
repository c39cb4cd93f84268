-- The cause of each status.
use Rattle.std.specs.Prelude.{◌≡◌, ◌⊎◌, ◌<◌, ◌≤◌, ℕ, List, length, Option, None, Ok, IfSome, IsSome, IsSomeAnd}
use Rattle.gt_io.specs.Causes.{Rose}
use Rattle.gt_io.specs.Shelf.{Contents, Lacks}
use Rattle.gtrbac_model.specs.Safety.{IsSafe}
use Rattle.policy_words.specs.Naming.{NamedPolicy}
use Rattle.policy_words.specs.PolicyRead.{policy_read}
use Rattle.policy_commands.specs.Policies.{HasTextFault, IsUnsafeText}
use Rattle.policy_commands.specs.Meanings.{IsSafeText}
use Rattle.policy_commands.specs.declared.finding.TheConstants.{MAX_POLICY}
use Rattle.gtrbac_tool.specs.declared.questions.Question.{Question}
use Rattle.gtrbac_tool.specs.declared.ahead.Inquiry.{Inquiry}
use Rattle.gtrbac_tool.specs.Late.{asks_of}
use Rattle.gtrbac_tool.specs.Meanings.{MeetsFault, MeetsFull, IsWhole}
use Rattle.gtrbac_tool.specs.Summary.{Gen, IsGen}
use Rattle.gtrbac_tool.specs.Commands.{Command, check, fmt, run, named_by, command_of}
use Rattle.gtrbac_tool.specs.Ends.{IsNoCommand}
use Rattle.gtrbac_tool.specs.Scenes.{Scene}
use Rattle.gtrbac_tool.specs.declared.top.TheConstants.{MAX_SCRIPT}

-- Causes are seen surely, or perhaps: what shelf or input do not tell they may have, and a count of
-- faults at the end of its type may have risen
pub data Certainty : Type 0 where
  perhaps : Certainty
  surely : Certainty

abbrev pub Sees : {A : Type 0} → Certainty → Option A → (A → Type 0) → Type 0
Sees perhaps told Holds = IfSome told Holds
Sees surely told Holds = IsSomeAnd told Holds

abbrev pub Fails : Certainty → ℕ → ℕ → Type 0
Fails perhaps before now = Rose before now
Fails surely before now = before < now

-- the text is of this policy, which is safe
pub record IsSafeOf (text : List ℕ) (np : NamedPolicy) : Type 0 where
  pub is : policy_read text ≡ Ok np
  pub safe : IsSafe np.policy.triggers

abbrev pub HasPolicy : List ℕ → Type 0
HasPolicy text = (np : NamedPolicy) × (policy_read text ≡ Ok np)

-- the command is `check`, and this holds of its text
abbrev pub Checks : (List ℕ → Type 0) → Command → List ℕ → Type 0
Checks Holds (check name) text = Holds text
Checks Holds (fmt name) text = ⊥
Checks Holds (run name question) text = ⊥

-- the command is `fmt`, and this holds of its text
abbrev pub Lays : (List ℕ → Type 0) → Command → List ℕ → Type 0
Lays Holds (check name) text = ⊥
Lays Holds (fmt name) text = Holds text
Lays Holds (run name question) text = ⊥

-- the command judges whether its policy is safe, as all but `fmt` do, and this holds of its text
abbrev pub Judges : (List ℕ → Type 0) → Command → List ℕ → Type 0
Judges Holds (check name) text = Holds text
Judges Holds (fmt name) text = ⊥
Judges Holds (run name question) text = Holds text

-- the command plays a script over a safe policy, and this holds of the policy and of what is asked,
-- in numbers of the policy: none where it lacks a name
abbrev pub Plays : (NamedPolicy → Option (Option Inquiry) → Type 0) → Command → List ℕ → Type 0
Plays Holds (check name) text = ⊥
Plays Holds (fmt name) text = ⊥
Plays Holds (run name question) text =
    (np : NamedPolicy) × IsSafeOf text np × Holds np (asks_of np question)

-- the text of a safe policy that has each name of what is asked
abbrev pub IsAskedOf : Option Question → List ℕ → Type 0
IsAskedOf question text =
    (np : NamedPolicy) × IsSafeOf text np × IsSome (asks_of np question)

-- the command asks for the script: it plays one, over such a text
abbrev pub AsksForScript : Command → List ℕ → Type 0
AsksForScript = Plays (λ np asked. IsSome asked)

-- of a text that is not too long
abbrev pub Short : (Command → List ℕ → Type 0) → Command → List ℕ → Type 0
Short Holds c text = (length text ≤ MAX_POLICY) × Holds c text

-- the shelf has the text of the command's policy, and this holds of both
abbrev pub OnShelf : Certainty → Contents → (Command → List ℕ → Type 0) → Command → Type 0
OnShelf sure texts Holds c =
    Sees sure texts (λ text_of. IsSomeAnd (text_of (named_by c)) (Holds c))

-- the words are a command over a policy, of which the shelf has the text, and this holds of both
abbrev pub Over : Certainty → List (List ℕ) → Contents → (Command → List ℕ → Type 0) → Type 0
Over sure words texts Holds = IsSomeAnd (command_of words) (OnShelf sure texts Holds)

-- .. a text that is not too long
abbrev pub Text : Certainty → List (List ℕ) → Contents → (Command → List ℕ → Type 0) → Type 0
Text sure words texts Holds = Over sure words texts (Short Holds)

-- .. over which the script is asked for, and this holds of policy and script
abbrev pub Script : Certainty → List (List ℕ) → Contents → Option (List ℕ)
    → (NamedPolicy → List ℕ → Type 0) → Type 0
Script sure words texts input Holds =
    Text sure words texts (Plays (λ np asked. IsSome asked × Sees sure input (Holds np)))

abbrev pub IsMissing : List (List ℕ) → Contents → Type 0
IsMissing words texts = IsSomeAnd (command_of words) (λ c. Lacks texts (named_by c))

abbrev pub IsTooLong : Command → List ℕ → Type 0
IsTooLong c text = MAX_POLICY < length text

abbrev pub IsLongScript : NamedPolicy → List ℕ → Type 0
IsLongScript np script = MAX_SCRIPT < length script

-- of a script that is not too long
abbrev pub Within : (NamedPolicy → List ℕ → Type 0) → NamedPolicy → List ℕ → Type 0
Within Holds np script = (length script ≤ MAX_SCRIPT) × Holds np script

module _ {S I : Type 0} (sure : Certainty) (words : List (List ℕ)) (status : ℕ)
    (a b : Scene S I) where
  -- Each status and its cause. These are all statuses
  pub data Cause : Type 0 where
    safe : status ≡ 0 → Text sure words a.texts (Checks IsSafeText) → Cause
    laid : status ≡ 0 → Text sure words a.texts (Lays HasPolicy) → Cause
    played : status ≡ 0 → Script sure words a.texts a.script (Within IsWhole) → Cause
    made : status ≡ 0 → (g : Gen) → IsGen words g → Cause
    no_command : status ≡ 1 → IsNoCommand words → Cause
    faulty : status ≡ 2 → Text sure words a.texts (λ c text. HasTextFault text) → Cause
    unsafe : status ≡ 3 → Text sure words a.texts (Judges IsUnsafeText) → Cause
    missing : status ≡ 4 → IsMissing words a.texts → Cause
    unread : status ≡ 4 → IsSome (command_of words)
        → Fails sure a.hard_faults b.hard_faults ⊎ Fails sure a.input_faults b.input_faults
        → Cause
    unwritten : status ≡ 5 → Fails sure a.written_faults b.written_faults → Cause
    long_policy : status ≡ 6 → Over sure words a.texts IsTooLong → Cause
    long_script : status ≡ 6 → Script sure words a.texts a.script IsLongScript → Cause
    bad_line : status ≡ 7 → Script sure words a.texts a.script (Within MeetsFault) → Cause
    no_memory : status ≡ 8 → (IsNoCommand words → ⊥) → sure ≡ perhaps → Cause
    full : status ≡ 9 → Script sure words a.texts a.script (Within MeetsFull) → Cause
    unknown : status ≡ 13 → Text sure words a.texts (Plays (λ np asked. asked ≡ None)) → Cause
