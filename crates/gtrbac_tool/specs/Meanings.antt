-- What the end of a run means, and that there is just one.
use Rattle.std.specs.Prelude.{◌≡◌, ◌↔◌, ◌⊎◌, ℕ, ◌≤◌, ◌<◌, List, [], ◌∷◌, ◌++◌, length, Result, Ok, Err}
use Rattle.gt_base.specs.declared.requests.Actor.{Actor}
use Rattle.gt_base.specs.declared.requests.Actor.TheVariants.{Operator}
use Rattle.gt_base.specs.declared.requests.Entry.{Entry}
use Rattle.gt_base.specs.declared.limits.TheConstants.{MAX_STEPS}
use Rattle.gtrbac_model.specs.Safety.{IsSafe}
use Rattle.gtrbac_model.specs.Status.{Model}
use Rattle.gtrbac_model.specs.WholePolicy.{IsPolicy}
use Rattle.gtrbac_model.specs.History.{Legal, Move, tick, ask, Play}
use Rattle.gt_text.specs.Lines.{lines_of}
use Rattle.policy_words.specs.Naming.{NamedPolicy}
use Rattle.policy_commands.specs.Ends.{EndView}
use Rattle.request_text.specs.declared.lines.Line.{Line}
use Rattle.request_text.specs.declared.lines.Line.TheVariants.{Silent, At, Be, Ask}
use Rattle.request_text.specs.declared.lines.LineFault.{LineFault}
use Rattle.gtrbac_tool.specs.declared.ahead.Inquiry.{Inquiry}
use Rattle.gtrbac_tool.specs.Late.{AnswersScript}
use Rattle.gtrbac_tool.specs.Script.{RunState, never, born, failed, start_of, IsFilled, MovesThrough, at_birth, said, scripts_who, RunOver, Ends}
use Rattle.gtrbac_tool.specs.declared.top.TheConstants.{MAX_SCRIPT}

-- the first lines that say anything bear the script, and the lines behind before one that holds so
-- are played, over a history that is legal with its execution model
pub record ComesTo (np : NamedPolicy) (script : List ℕ)
    (Holds : ℕ → Result Line LineFault → RunState → List Entry → Type 0) : Type 0 where
  pub birth : ℕ
  pub number : ℕ
  pub lines : List (List ℕ)
  pub begins : start_of np 1 (lines_of script) ≡ born birth number lines
  pub history : List Entry
  pub model : Model
  pub legal : Legal np.policy birth history model
  pub front : List (List ℕ)
  pub line : List ℕ
  pub rest : List (List ℕ)
  pub parts : lines ≡ front ++ line ∷ rest
  pub before : RunState
  pub plays : MovesThrough np birth front (at_birth np birth) before
  pub holds : Holds birth (said np line) before history

-- the line has a fault
abbrev pub IsFaulty : ℕ → Result Line LineFault → RunState → List Entry → Type 0
IsFaulty birth (Ok line) s h = ⊥
IsFaulty birth (Err fault) s h = h ≡ s.history

-- the line asks for a step with a full history
abbrev pub IsFullAt : ℕ → Result Line LineFault → RunState → List Entry → Type 0
IsFullAt birth (Ok Silent) s h = ⊥
IsFullAt birth (Ok (Be actor)) s h = ⊥
IsFullAt birth (Ok (At minute)) s h = IsFilled birth minute s.history h
IsFullAt birth (Ok (Ask request)) s h = (length s.history ≡ MAX_STEPS) × (h ≡ s.history)
IsFullAt birth (Err fault) s h = ⊥

-- the first line that says anything is no minute, or the run comes to a line with a fault
abbrev pub MeetsFault : NamedPolicy → List ℕ → Type 0
MeetsFault np script =
    ((end : EndView) × (start_of np 1 (lines_of script) ≡ failed end)) ⊎ ComesTo np script IsFaulty

-- the run comes to a line that asks for a step with a full history
abbrev pub MeetsFull : NamedPolicy → List ℕ → Type 0
MeetsFull np script = ComesTo np script IsFullAt

-- all lines behind the birth are played
pub record IsPlayedOut (np : NamedPolicy) (script : List ℕ) : Type 0 where
  pub birth : ℕ
  pub number : ℕ
  pub lines : List (List ℕ)
  pub begins : start_of np 1 (lines_of script) ≡ born birth number lines
  pub last : RunState
  pub plays : MovesThrough np birth lines (at_birth np birth) last
  pub model : Model
  pub legal : Legal np.policy birth last.history model

-- no line says anything, or all are played
abbrev pub IsWhole : NamedPolicy → List ℕ → Type 0
IsWhole np script = (start_of np 1 (lines_of script) ≡ never) ⊎ IsPlayedOut np script

-- over a safe policy a script has just one end
abbrev pub OneEnd : Type 0
OneEnd =
    (np : NamedPolicy) → IsSafe np.policy.triggers → (script : List ℕ) (end other : EndView)
    → Ends np script end → Ends np script other → end ≡ other

-- and it has one
abbrev pub SomeEnd : Type 0
SomeEnd =
    (np : NamedPolicy) → IsSafe np.policy.triggers → (script : List ℕ)
    → (end : EndView) × Ends np script end

-- and what is asked behind it has just one answer
abbrev pub OneAnswer : Type 0
OneAnswer =
    (np : NamedPolicy) → IsPolicy np.policy → IsSafe np.policy.triggers
    → (asked : Inquiry) (script : List ℕ) (end other : EndView)
    → AnswersScript np asked script end → AnswersScript np asked script other → end ≡ other

-- of a script within its limit: 7 exactly where its first fault comes before a full history, 9
-- exactly where a step is asked for with a full history before a fault, and 0 exactly where all its
-- lines are played
pub record RunMeans (np : NamedPolicy) (script : List ℕ) (end : EndView) : Type 0 where
  pub fault : (end.status ≡ 7) ↔ MeetsFault np script
  pub full : (end.status ≡ 9) ↔ MeetsFull np script
  pub whole : (end.status ≡ 0) ↔ IsWhole np script

abbrev pub RunsMean : Type 0
RunsMean =
    (np : NamedPolicy) → IsSafe np.policy.triggers → (script : List ℕ) → length script ≤ MAX_SCRIPT
    → (end : EndView) → Ends np script end → RunMeans np script end

-- of one that is longer always 6
abbrev pub LongMeans : Type 0
LongMeans =
    (np : NamedPolicy) (script : List ℕ) (end : EndView) → Ends np script end
    → (end.status ≡ 6) ↔ (MAX_SCRIPT < length script)

-- ticks of the script with this bound
abbrev pub AreTo : ℕ → List Move → Type 0
AreTo bound [] = Unit {0}
AreTo bound (q ∷ qs) = (q ≡ record { who = scripts_who; what = tick bound }) × AreTo bound qs

-- the moves that a line asks for by who acts, and who acts behind it: a minute ticks with that
-- bound, a request one
abbrev pub LineAsks : Result Line LineFault → Actor → List Move → Actor → Type 0
LineAsks (Ok Silent) actor moves next = (moves ≡ []) × (next ≡ actor)
LineAsks (Ok (Be other)) actor moves next = (moves ≡ []) × (next ≡ other)
LineAsks (Ok (At minute)) actor moves next = AreTo minute moves × (next ≡ actor)
LineAsks (Ok (Ask request)) actor moves next =
    (moves ≡ record { who = scripts_who; what = ask actor request } ∷ []) × (next ≡ actor)
LineAsks (Err fault) actor moves next = ⊥

-- and lines one after another
abbrev pub LinesAsk : NamedPolicy → Actor → List (List ℕ) → List Move → Actor → Type 0
LinesAsk np actor [] moves last = (moves ≡ []) × (last ≡ actor)
LinesAsk np actor (line ∷ lines) moves last =
    (own : List Move) × (later : List Move) × (next : Actor) × (moves ≡ own ++ later)
    × LineAsks (said np line) actor own next × LinesAsk np next lines later last

-- the history plays the moves that the first lines ask for
pub record IsPlayOf (np : NamedPolicy) (birth : ℕ) (lines : List (List ℕ)) (history : List Entry)
    : Type 0 where
  pub done : List (List ℕ)
  pub rest : List (List ℕ)
  pub parts : lines ≡ done ++ rest
  pub moves : List Move
  pub last : Actor
  pub asked : LinesAsk np Operator done moves last
  pub model : Model
  pub play : Play np.policy birth moves history model

-- the history of a run is such a play
abbrev pub RunsArePlays : Type 0
RunsArePlays =
    (np : NamedPolicy) (birth n : ℕ) (lines : List (List ℕ)) (history : List Entry) (end : EndView)
    → RunOver np birth n lines history end → IsPlayOf np birth lines history
