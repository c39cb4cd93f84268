-- The run of a script: the replies of its lines, over a history that is legal with its execution
-- model.
use Rattle.std.specs.Prelude.{◌≡◌, ℕ, ◌+◌, ◌<◌, ◌≤◌, ◌⊎◌, Bool, true, false, List, [], ◌∷◌, ◌++◌, length, codes, Result, Ok, Err}
use Rattle.gt_base.specs.Machines.{ticked, asked}
use Rattle.gt_base.specs.declared.requests.Who.{Who}
use Rattle.gt_base.specs.declared.requests.Entry.{Entry}
use Rattle.gt_base.specs.declared.requests.Actor.{Actor}
use Rattle.gt_base.specs.declared.requests.Actor.TheVariants.{Operator}
use Rattle.gt_base.specs.declared.requests.Reply.{Reply}
use Rattle.gt_base.specs.declared.limits.TheConstants.{MAX_STEPS}
use Rattle.gtrbac_model.specs.Status.{Model}
use Rattle.gtrbac_model.specs.History.{Legal, now_of}
use Rattle.gt_text.specs.Lines.{lines_of, is_longer}
use Rattle.policy_words.specs.Naming.{NamedPolicy}
use Rattle.policy_commands.specs.Ends.{EndView, ending}
use Rattle.request_text.specs.declared.lines.Line.{Line}
use Rattle.request_text.specs.declared.lines.Line.TheVariants.{Silent, At, Be, Ask}
use Rattle.request_text.specs.declared.lines.LineFault.{LineFault}
use Rattle.request_text.specs.Phrases.{read_line}
use Rattle.request_text.specs.Replies.{reply_line, fault_word}
use Rattle.policy_commands.specs.Finding.{too_long}
use Rattle.gtrbac_tool.specs.EndTexts.{behind, script_fault, steps_full}
use Rattle.gtrbac_tool.specs.declared.top.TheConstants.{MAX_SCRIPT}

-- a script has one worker and one connection
abbrev pub scripts_who : Who
scripts_who = record { worker = 0; conn = 1 }

-- where a run stands: who acts, the entries so far, and the text of their replies
pub record RunState : Type 0 where
  pub actor : Actor
  pub history : List Entry
  pub text : List ℕ

-- what a line of a script says; its opening actor is the operator
abbrev pub said : NamedPolicy → List ℕ → Result Line LineFault
said np line = read_line np Operator true line

-- ticks of the script with this bound
abbrev pub AreTicks : ℕ → List Entry → Type 0
AreTicks bound [] = Unit {0}
AreTicks bound (e ∷ es) = ((to : ℕ) × (e ≡ ticked scripts_who bound to)) × AreTicks bound es

-- ticks bring time to the minute, within the steps that a history may have
pub record Arrives (birth minute : ℕ) (old new : List Entry) : Type 0 where
  pub ticks : List Entry
  pub added : new ≡ old ++ ticks
  pub are_ticks : AreTicks minute ticks
  pub there : minute ≤ now_of birth new
  pub room : length new ≤ MAX_STEPS

-- ticks fill the history before time comes to the minute
pub record IsFilled (birth minute : ℕ) (old new : List Entry) : Type 0 where
  pub ticks : List Entry
  pub added : new ≡ old ++ ticks
  pub are_ticks : AreTicks minute ticks
  pub before : now_of birth new < minute
  pub full : length new ≡ MAX_STEPS

module _ (np : NamedPolicy) (birth : ℕ) where
  -- how a line moves a run that goes on behind it
  abbrev pub Moves : Result Line LineFault → RunState → RunState → Type 0
  Moves (Ok Silent) s t = t ≡ s
  Moves (Ok (Be actor)) s t =
      t ≡ record { actor = actor; history = s.history; text = s.text ++ codes "ok\n" }
  Moves (Ok (At minute)) s t =
      (h : List Entry) × Arrives birth minute s.history h
      × (t ≡ record { actor = s.actor; history = h; text = s.text })
  Moves (Ok (Ask request)) s t =
      (reply : Reply) × (length s.history < MAX_STEPS)
      × (t
      ≡ record {
        actor = s.actor;
        history = s.history ++ asked scripts_who s.actor request reply ∷ [];
        text = s.text ++ reply_line np reply;
      })
  Moves (Err fault) s t = ⊥

  -- lines move a run one after another
  abbrev pub MovesThrough : List (List ℕ) → RunState → RunState → Type 0
  MovesThrough [] s t = t ≡ s
  MovesThrough (line ∷ lines) s t = (m : RunState) × Moves (said np line) s m × MovesThrough lines m t

  -- how a line, with its number, ends a run: a line with a fault, or a step asked for with a full
  -- history
  abbrev pub Stops : Result Line LineFault → ℕ → RunState → List Entry → EndView → Type 0
  Stops (Ok Silent) n s h end = ⊥
  Stops (Ok (Be actor)) n s h end = ⊥
  Stops (Ok (At minute)) n s h end =
      IsFilled birth minute s.history h × (end ≡ behind s.text (steps_full n))
  Stops (Ok (Ask request)) n s h end =
      (length s.history ≡ MAX_STEPS) × (h ≡ s.history) × (end ≡ behind s.text (steps_full n))
  Stops (Err fault) n s h end =
      (h ≡ s.history) × (end ≡ behind s.text (script_fault n (fault_word fault)))

  abbrev pub at_birth : RunState
  at_birth = record { actor = Operator; history = []; text = [] }

  -- all lines were played, with status 0
  pub record PlayedOut (lines : List (List ℕ)) (h : List Entry) (end : EndView) : Type 0 where
    pub last : RunState
    pub plays : MovesThrough lines at_birth last
    pub history : h ≡ last.history
    pub end_is : end ≡ ending 0 last.text

  -- a line ended the run; the lines are numbered from n
  pub record StoppedAt (n : ℕ) (lines : List (List ℕ)) (h : List Entry)
      (end : EndView) : Type 0 where
    pub front : List (List ℕ)
    pub line : List ℕ
    pub rest : List (List ℕ)
    pub parts : lines ≡ front ++ line ∷ rest
    pub before : RunState
    pub plays : MovesThrough front at_birth before
    pub stops : Stops (said np line) (n + length front) before h end

-- a run from its birth, with the lines behind the birth's numbered from n, over a history that is
-- legal, with its execution model
pub record RunOver (np : NamedPolicy) (birth n : ℕ) (lines : List (List ℕ)) (history : List Entry)
    (end : EndView) : Type 0 where
  pub model : Model
  pub legal : Legal np.policy birth history model
  pub ends : PlayedOut np birth lines history end ⊎ StoppedAt np birth n lines history end

-- a run over some history
abbrev pub Run : NamedPolicy → ℕ → ℕ → List (List ℕ) → EndView → Type 0
Run np birth n lines end = (history : List Entry) × RunOver np birth n lines history end

-- where a run begins: only silent lines; the birth, with the number of the line behind it and the
-- lines from there; or the end at a first line that is no minute
pub data ScriptStart : Type 0 where
  never : ScriptStart
  born : ℕ → ℕ → List (List ℕ) → ScriptStart
  failed : EndView → ScriptStart

module _ (np : NamedPolicy) where
  abbrev pub begun : Result Line LineFault → ℕ → List (List ℕ) → ScriptStart → ScriptStart
  begun (Ok Silent) n lines later = later
  begun (Ok (At minute)) n lines later = born minute (n + 1) lines
  begun (Ok (Be actor)) n lines later = failed (script_fault n (codes "birth"))
  begun (Ok (Ask request)) n lines later = failed (script_fault n (codes "birth"))
  begun (Err fault) n lines later = failed (script_fault n (fault_word fault))

  abbrev pub start_of : ℕ → List (List ℕ) → ScriptStart
  start_of n [] = never
  start_of n (line ∷ lines) = begun (said np line) n lines (start_of (n + 1) lines)

abbrev pub EndsFrom : NamedPolicy → ScriptStart → EndView → Type 0
EndsFrom np never end = end ≡ ending 0 []
EndsFrom np (born birth n lines) end = Run np birth n lines end
EndsFrom np (failed t) end = end ≡ t

-- how a run ends
abbrev pub IsRunStatus : ℕ → Type 0
IsRunStatus s = (s ≡ 0) ⊎ (s ≡ 7) ⊎ (s ≡ 9)

abbrev pub EndsIf : Bool → NamedPolicy → List ℕ → EndView → Type 0
EndsIf true np script end = end ≡ too_long (codes "script")
EndsIf false np script end = EndsFrom np (start_of np 1 (lines_of script)) end

-- the script ends so over the policy
abbrev pub Ends : NamedPolicy → List ℕ → EndView → Type 0
Ends np script end = EndsIf (is_longer MAX_SCRIPT script) np script end
