-- The commands over a policy, and which of them words are.
use Rattle.std.specs.Prelude.{◌≡◌, ℕ, Bool, true, false, List, [], ◌∷◌, codes, bytes_eq, Option, Some, None, option_map, if◌then◌else◌}
use Rattle.gt_text.specs.Words.{begins_with}
use Rattle.gtrbac_tool.specs.declared.commands.Command as declared
use Rattle.gtrbac_tool.specs.declared.commands.Command.TheVariants.{Check, Fmt, Run}
use Rattle.gtrbac_tool.specs.declared.questions.Question.{Question}
use Rattle.gtrbac_tool.specs.Late.{forecast_in, why_in}

-- a command over the policy of a name; `run` plays a script, and `forecast` and `why` play it with
-- a question behind it
pub data Command : Type 0 where
  check : List ℕ → Command
  fmt : List ℕ → Command
  run : List ℕ → Option Question → Command

abbrev pub named_by : Command → List ℕ
named_by (check name) = name
named_by (fmt name) = name
named_by (run name question) = name

-- whether it plays a script from the input
abbrev pub plays_script : Command → Bool
plays_script (check name) = false
plays_script (fmt name) = false
plays_script (run name question) = true

-- a run with nothing asked behind it
abbrev pub IsPlainRun : Command → Type 0
IsPlainRun (check name) = ⊥
IsPlainRun (fmt name) = ⊥
IsPlainRun (run name question) = question ≡ None

abbrev pub command_by : List ℕ → List ℕ → Option Command
command_by verb name =
    if bytes_eq verb (codes "check") then Some (check name)
    else (if bytes_eq verb (codes "fmt") then Some (fmt name)
    else (if bytes_eq verb (codes "run") then Some (run name None) else None))

-- what is asked by the words behind the name
abbrev pub question_by : List ℕ → List (List ℕ) → Option Question
question_by verb words =
    if bytes_eq verb (codes "forecast") then forecast_in words
    else (if bytes_eq verb (codes "why") then why_in words else None)

abbrev pub asking : List ℕ → Question → Command
asking name question = run name (Some question)

-- the command that the words are: a verb and the name of a policy, which does not begin with `-`,
-- and what is asked behind them
abbrev pub command_of : List (List ℕ) → Option Command
command_of (verb ∷ name ∷ word ∷ words) =
    if begins_with 45 name then None
    else option_map (asking name) (question_by verb (word ∷ words))
command_of (verb ∷ name ∷ []) = if begins_with 45 name then None else command_by verb name
command_of _ = None

-- a command as it is seen
abbrev pub seen_command : declared.Command → Command
seen_command (Check name) = check name.now
seen_command (Fmt name) = fmt name.now
seen_command (Run name question) = run name.now question
