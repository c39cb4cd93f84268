-- What holds of the texts that a seed and a size make.
use Rattle.std.specs.Prelude.{◌≡◌, ℕ, ◌<◌, ◌≤◌, ◌++◌, true, List, ◌∷◌, map, length, Ok, All, IsOk}
use Rattle.gt_base.specs.declared.requests.Actor.TheVariants.{Operator}
use Rattle.gt_base.specs.declared.requests.Entry.{Entry}
use Rattle.gt_base.specs.declared.limits.TheConstants.{MAX_STEPS}
use Rattle.gtrbac_model.specs.History.{Legal}
use Rattle.gtrbac_model.specs.Safety.{IsSafe}
use Rattle.gtrbac_model.specs.Status.{Model}
use Rattle.gt_text.specs.Lines.{lines_of}
use Rattle.policy_words.specs.PolicyRead.{policy_read}
use Rattle.policy_words.specs.Valid.{IsWellFormed}
use Rattle.policy_gen.specs.Texts.{time_line, policy_text, script_text}
use Rattle.policy_gen.specs.declared.made.TheConstants.{MAX_SIZE}
use Rattle.policy_gen.specs.declared.scripts.TheConstants.{FIRST_MINUTE}
use Rattle.request_text.specs.declared.lines.Line.{Line}
use Rattle.request_text.specs.declared.lines.Line.TheVariants.{At}
use Rattle.request_text.specs.Phrases.{read_line}
use Rattle.gen_laws.specs.Made.{made_policy}
use Rattle.gen_laws.specs.Played.{script_said, script_moves}
use Rattle.gen_laws.specs.Following.{FollowsLines}

-- the text of the policy has no fault: it stands for this policy
abbrev pub PolicyIsRead : Type 0
PolicyIsRead = (size : ℕ) → 1 ≤ size → policy_read (policy_text size) ≡ Ok (made_policy size)

abbrev pub PolicyIsWellFormed : Type 0
PolicyIsWellFormed = (size : ℕ) → 1 ≤ size → IsWellFormed (made_policy size)

-- its dependencies have no conflict cycle
abbrev pub PolicyIsSafe : Type 0
PolicyIsSafe = (size : ℕ) → IsSafe (made_policy size).policy.triggers

-- over this policy each line of the script says its move, and so none has a fault
abbrev pub ScriptIsSaid : Type 0
ScriptIsSaid =
    (seed size : ℕ) → 1 ≤ size → size ≤ MAX_SIZE
    → map (read_line (made_policy size) Operator true) (lines_of (script_text seed size))
    ≡ map (λ l. Ok l) (script_said seed size)

-- the first line gives the birth, and no line behind it has a fault
pub record IsBorn (seed size : ℕ) : Type 0 where
  pub behind : List (List ℕ)
  pub lines_are : lines_of (script_text seed size) ≡ time_line FIRST_MINUTE ∷ behind
  pub birth : read_line (made_policy size) Operator true (time_line FIRST_MINUTE)
      ≡ Ok (At FIRST_MINUTE)
  pub no_fault : All (λ line. IsOk (read_line (made_policy size) Operator true line)) behind

abbrev pub ScriptIsBorn : Type 0
ScriptIsBorn = (seed size : ℕ) → 1 ≤ size → size ≤ MAX_SIZE → IsBorn seed size

-- a legal history that the lines behind the birth, or the first of them, make does not come to the
-- limit
abbrev pub HistoryIsShort : Type 0
HistoryIsShort =
    (seed size : ℕ) → 1 ≤ size → size ≤ MAX_SIZE → (front rest : List Line)
    → front ++ rest ≡ script_moves seed size
    → (h : List Entry) (m : Model) → FollowsLines front h
    → Legal (made_policy size).policy FIRST_MINUTE h m → length h < MAX_STEPS
