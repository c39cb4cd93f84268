-- What may be asked behind a script: when the answer of a condition changes next, and why an event
-- is in force or blocked.
use Rattle.std.specs.Prelude.{◌≡◌, ◌⊎◌, ℕ, ◌+◌, ◌*◌, Bool, true, false, not, List, [], ◌∷◌, ◌++◌, codes, min, if◌then◌else◌, Option, Some, None}
use Rattle.gt_base.specs.Names.{number_from, name_in}
use Rattle.gt_base.specs.declared.events.Cond.{Cond}
use Rattle.gt_base.specs.declared.requests.Entry.{Entry}
use Rattle.gt_base.specs.declared.limits.TheConstants.{LAST_MINUTE}
use Rattle.gt_text.specs.Lines.{lines_of, is_longer}
use Rattle.civil_time.specs.Text.{civil_text}
use Rattle.gtrbac_model.specs.Policy.{Policy}
use Rattle.gtrbac_model.specs.History.{now_of}
use Rattle.policy_words.specs.declared.parts.NamedCond.{NamedCond}
use Rattle.policy_words.specs.declared.parts.NamedEvent.{NamedEvent}
use Rattle.policy_words.specs.declared.parts.NamedFluent.{NamedFluent}
use Rattle.policy_words.specs.declared.parts.NamedFluent.TheVariants.{Enabled, Assigned, Granted, Limit, Edge}
use Rattle.policy_words.specs.declared.parts.Sort.{Sort}
use Rattle.policy_words.specs.declared.parts.Sort.TheVariants.{Enabling, Assigning, Granting, Arming, Linking}
use Rattle.policy_words.specs.Wording.{◌>>=◌, verb_in, cond_verb, event_verb}
use Rattle.policy_words.specs.Naming.{NamedPolicy, cond_of, event_of}
use Rattle.policy_commands.specs.Ends.{EndView, ending}
use Rattle.forecast.specs.Ahead.{IsFirstChange}
use Rattle.forecast.specs.declared.changes.Change.{Change}
use Rattle.gtrbac_tool.specs.declared.questions.Question.{Question}
use Rattle.gtrbac_tool.specs.declared.questions.Question.TheVariants.{Forecast, Why}
use Rattle.gtrbac_tool.specs.declared.ahead.Inquiry.{Inquiry}
use Rattle.gtrbac_tool.specs.declared.ahead.Inquiry.TheVariants.{Ahead, Standing}
use Rattle.policy_commands.specs.Finding.{too_long}
use Rattle.gtrbac_tool.specs.EndTexts.{no_birth}
use Rattle.gtrbac_tool.specs.Standing.{TellsWhy}
use Rattle.gtrbac_tool.specs.Script.{ScriptStart, never, born, failed, start_of, RunOver}
use Rattle.gtrbac_tool.specs.declared.top.TheConstants.{MAX_SCRIPT}

-- the words are one name
abbrev pub one_said : List (List ℕ) → Option (List ℕ)
one_said (word ∷ []) = name_in word
one_said _ = None

-- or two
abbrev pub two_said : List (List ℕ) → Option (List ℕ × List ℕ)
two_said (a ∷ b ∷ []) = do
  x ← name_in a
  y ← name_in b
  Some (x, y)
two_said _ = None

-- the words are the names of one fluent of this sort
abbrev pub fluent_said : Sort → List (List ℕ) → Option NamedFluent
fluent_said Enabling words = do
  r ← one_said words
  Some (Enabled r)
fluent_said Assigning words = do
  n ← two_said words
  Some (Assigned n.0 n.1)
fluent_said Granting words = do
  n ← two_said words
  Some (Granted n.0 n.1)
fluent_said Arming words = do
  l ← one_said words
  Some (Limit l)
fluent_said Linking words = do
  n ← two_said words
  Some (Edge n.0 n.1)

-- the words are those of one condition
abbrev pub cond_said : List (List ℕ) → Option NamedCond
cond_said [] = None
cond_said (verb ∷ names) = do
  v ← verb_in cond_verb verb
  f ← fluent_said v.1 names
  Some (record { on = v.0; fluent = f })

-- a number of days from 1 to 36,525, and a condition
abbrev pub forecast_in : List (List ℕ) → Option Question
forecast_in [] = None
forecast_in (days ∷ words) = do
  n ← number_from 1 36_525 days
  c ← cond_said words
  Some (Forecast n c)

-- the words are those of one event
abbrev pub event_said : List (List ℕ) → Option NamedEvent
event_said [] = None
event_said (verb ∷ names) = do
  v ← verb_in event_verb verb
  f ← fluent_said v.1 names
  Some (record { on = v.0; fluent = f })

-- an event, without a priority
abbrev pub why_in : List (List ℕ) → Option Question
why_in words = do
  e ← event_said words
  Some (Why e)

-- the question in numbers of a policy: none where a name is not declared, or is no edge
abbrev pub asked_of : NamedPolicy → Question → Option Inquiry
asked_of np (Forecast days c) = do
  g ← cond_of np.names c
  Some (Ahead days g)
asked_of np (Why e) = do
  g ← event_of np.names e
  Some (Standing e g)

-- the same of what may be asked: none where a name is not declared
abbrev pub asks_of : NamedPolicy → Option Question → Option (Option Inquiry)
asks_of np None = Some None
asks_of np (Some question) = do
  asked ← asked_of np question
  Some (Some asked)

-- so many days after now, or the last instant where that is less
abbrev pub horizon : ℕ → ℕ → ℕ
horizon now days = min (now + 1_440 * days) LAST_MINUTE

-- the answer of the condition where its fluent is on, or off
abbrev pub answer_word : Cond → Bool → List ℕ
answer_word c on = if (if c.on then on else not on) then codes "yes" else codes "no"

abbrev pub change_line : Cond → ℕ → Option Change → List ℕ
change_line c upto None = codes "no change to " ++ civil_text upto ++ codes "\n"
change_line c upto (Some change) =
    codes "change " ++ civil_text change.at ++ codes " " ++ answer_word c change.on ++ codes "\n"

-- the line tells the first change in what lies ahead of a history, within the days
pub record TellsAhead (p : Policy) (birth : ℕ) (h : List Entry) (days : ℕ) (c : Cond)
    (line : List ℕ) : Type 0 where
  pub change : Option Change
  pub first : IsFirstChange p birth h c.fluent (horizon (now_of birth h) days) change
  pub line_is : line ≡ change_line c (horizon (now_of birth h) days) change

abbrev pub TellsAsked : Policy → Inquiry → ℕ → List Entry → List ℕ → Type 0
TellsAsked p (Ahead days c) birth h text = TellsAhead p birth h days c text
TellsAsked p (Standing named e) birth h text = TellsWhy p birth h named e text

-- behind the replies of a run that was played to its end stands what was asked; another run has its
-- own end
abbrev pub FollowsRun : Policy → Inquiry → ℕ → List Entry → EndView → EndView → Type 0
FollowsRun p asked birth h ran end =
    ((ran.status ≡ 0)
    × ((text : List ℕ) × TellsAsked p asked birth h text × (end ≡ ending 0 (ran.text ++ text))))
    ⊎ ((ran.status ≡ 0 → ⊥) × (end ≡ ran))

pub record Answered (np : NamedPolicy) (asked : Inquiry) (birth n : ℕ) (lines : List (List ℕ))
    (end : EndView) : Type 0 where
  pub history : List Entry
  pub ran : EndView
  pub run : RunOver np birth n lines history ran
  pub follows : FollowsRun np.policy asked birth history ran end

-- a script in which no line says anything has no birth
abbrev pub AnswersFrom : NamedPolicy → Inquiry → ScriptStart → EndView → Type 0
AnswersFrom np asked never end = end ≡ no_birth
AnswersFrom np asked (born birth n lines) end = Answered np asked birth n lines end
AnswersFrom np asked (failed t) end = end ≡ t

abbrev pub AnswersIf : Bool → NamedPolicy → Inquiry → List ℕ → EndView → Type 0
AnswersIf true np asked script end = end ≡ too_long (codes "script")
AnswersIf false np asked script end = AnswersFrom np asked (start_of np 1 (lines_of script)) end

-- what a script and a question behind it end with over the policy
abbrev pub AnswersScript : NamedPolicy → Inquiry → List ℕ → EndView → Type 0
AnswersScript np asked script end = AnswersIf (is_longer MAX_SCRIPT script) np asked script end
