-- What a line of a script or of a connection says, by reading its words.
use Rattle.std.specs.Prelude.{ℕ, Bool, ◌&&◌, List, [], ◌∷◌, ◌++◌, codes, decimal, bytes_eq, Option, Some, None, find, Result, Ok, Err, if◌then◌else◌}
use Rattle.gt_base.specs.Names.{name_in, number_from}
use Rattle.gt_base.specs.declared.events.SessionId.{SessionId}
use Rattle.gt_base.specs.declared.requests.Actor.{Actor}
use Rattle.gt_base.specs.declared.requests.Actor.TheVariants.{User}
use Rattle.gt_base.specs.declared.requests.Request.{Request}
use Rattle.gt_base.specs.declared.requests.Request.TheVariants as requests
use Rattle.gt_base.specs.declared.limits.TheConstants.{LONGEST_LINE, MAX_NUMBER, MAX_PRIO}
use Rattle.gt_text.specs.Lines.{is_longer}
use Rattle.gt_text.specs.Words.{words_of, are_silent}
use Rattle.civil_time.specs.Text.{civil_text, civil_in}
use Rattle.policy_words.specs.Wording.{◌>>=◌, Read, event_words, cond_words, head_words, delay_words, event_at, cond_at, head_at, at_end, delay_in}
use Rattle.policy_lines.specs.Cursors.{name_at}
use Rattle.policy_words.specs.Naming.{NamedPolicy, role_of, user_of, perm_of, event_of, cond_of, head_of}
use Rattle.request_text.specs.declared.lines.Line.{Line}
use Rattle.request_text.specs.declared.lines.Line.TheVariants as lines
use Rattle.request_text.specs.declared.lines.LineFault.{LineFault}
use Rattle.request_text.specs.declared.lines.LineFault.TheVariants as faults
use Rattle.request_text.specs.declared.verbs.RequestVerb.{RequestVerb}
use Rattle.request_text.specs.declared.verbs.RequestVerb.TheVariants as verbs
use Rattle.request_text.specs.declared.phrases.NamedRequest.{NamedRequest}
use Rattle.request_text.specs.declared.phrases.NamedRequest.TheVariants.{Now, Status, Seen, Raise, OpenSession, CloseSession, Activate, Deactivate, Active, Check}
use Rattle.request_text.specs.declared.phrases.Phrase.{Phrase}
use Rattle.request_text.specs.declared.phrases.Phrase.TheVariants.{At, Be, Ask}

-- the words of a request, and of a phrase

abbrev pub request_words : NamedRequest → List (List ℕ)
request_words Now = codes "now" ∷ []
request_words (Status c) = codes "status" ∷ cond_words c
request_words (Seen e) = codes "event" ∷ event_words e
request_words (Raise h d) = codes "request" ∷ head_words h ++ delay_words d
request_words OpenSession = codes "open" ∷ []
request_words (CloseSession s) = codes "close" ∷ decimal s.0 ∷ []
request_words (Activate s r) = codes "activate" ∷ decimal s.0 ∷ r ∷ []
request_words (Deactivate s r) = codes "deactivate" ∷ decimal s.0 ∷ r ∷ []
request_words (Active s r) = codes "active" ∷ decimal s.0 ∷ r ∷ []
request_words (Check s q) = codes "check" ∷ decimal s.0 ∷ q ∷ []

abbrev pub actor_word : Option (List ℕ) → List ℕ
actor_word None = codes "-"
actor_word (Some u) = u

abbrev pub phrase_words : Phrase → List (List ℕ)
phrase_words (At t) = codes "@" ∷ civil_text t ∷ []
phrase_words (Be u) = codes "as" ∷ actor_word u ∷ []
phrase_words (Ask r) = request_words r

-- the first words of requests

abbrev pub verb_word : RequestVerb → List ℕ
verb_word verbs.Now = codes "now"
verb_word verbs.Status = codes "status"
verb_word verbs.Event = codes "event"
verb_word verbs.Request = codes "request"
verb_word verbs.Open = codes "open"
verb_word verbs.Close = codes "close"
verb_word verbs.Activate = codes "activate"
verb_word verbs.Deactivate = codes "deactivate"
verb_word verbs.Active = codes "active"
verb_word verbs.Check = codes "check"

abbrev pub all_verbs : List RequestVerb
all_verbs =
    verbs.Now ∷ verbs.Status ∷ verbs.Event ∷ verbs.Request ∷ verbs.Open ∷ verbs.Close
    ∷ verbs.Activate ∷ verbs.Deactivate ∷ verbs.Active ∷ verbs.Check ∷ []

abbrev pub verb_in : List ℕ → Option RequestVerb
verb_in word = find (λ v. bytes_eq (verb_word v) word) all_verbs

-- what the words after a first word say

-- a session's number
abbrev pub session_at : Read SessionId
session_at [] = None
session_at (w ∷ ws) = do
  n ← number_from 0 MAX_NUMBER w
  Some (record { 0 = n }, ws)

abbrev pub session_in : List (List ℕ) → Option SessionId
session_in ws = do
  s ← session_at ws
  at_end s.0 s.1

abbrev pub session_name_in : List (List ℕ) → Option (SessionId × List ℕ)
session_name_in ws = do
  s ← session_at ws
  n ← name_at s.1
  at_end (s.0, n.0) n.1

abbrev pub raise_in : List (List ℕ) → Option NamedRequest
raise_in ws = do
  h ← head_at MAX_PRIO ws
  d ← delay_in h.1
  Some (Raise h.0 d)

abbrev pub cond_in : List (List ℕ) → Option NamedRequest
cond_in ws = do
  c ← cond_at ws
  at_end (Status c.0) c.1

abbrev pub event_in : List (List ℕ) → Option NamedRequest
event_in ws = do
  e ← event_at ws
  at_end (Seen e.0) e.1

abbrev pub of_session : (SessionId → NamedRequest) → List (List ℕ) → Option NamedRequest
of_session build ws = do
  s ← session_in ws
  Some (build s)

abbrev pub of_session_name : (SessionId → List ℕ → NamedRequest) → List (List ℕ)
    → Option NamedRequest
of_session_name build ws = do
  s ← session_name_in ws
  Some (build s.0 s.1)

abbrev pub request_by : RequestVerb → List (List ℕ) → Option NamedRequest
request_by verbs.Now ws = at_end Now ws
request_by verbs.Status ws = cond_in ws
request_by verbs.Event ws = event_in ws
request_by verbs.Request ws = raise_in ws
request_by verbs.Open ws = at_end OpenSession ws
request_by verbs.Close ws = of_session (λ s. CloseSession s) ws
request_by verbs.Activate ws = of_session_name (λ s n. Activate s n) ws
request_by verbs.Deactivate ws = of_session_name (λ s n. Deactivate s n) ws
request_by verbs.Active ws = of_session_name (λ s n. Active s n) ws
request_by verbs.Check ws = of_session_name (λ s n. Check s n) ws

abbrev pub request_in : List ℕ → List (List ℕ) → Option NamedRequest
request_in w ws = do
  v ← verb_in w
  request_by v ws

abbrev pub named_actor : List ℕ → Option (Option (List ℕ))
named_actor w = do
  n ← name_in w
  Some (Some n)

abbrev pub actor_in : List (List ℕ) → Option (Option (List ℕ))
actor_in [] = None
actor_in (w ∷ []) = if bytes_eq w (codes "-") then Some None else named_actor w
actor_in (w ∷ more ∷ ws) = None

abbrev pub minute_in : List (List ℕ) → Option ℕ
minute_in [] = None
minute_in (w ∷ []) = civil_in w
minute_in (w ∷ more ∷ ws) = None

abbrev pub at_minute : Option ℕ → Option Phrase
at_minute None = None
at_minute (Some t) = Some (At t)

abbrev pub be_actor : Option (Option (List ℕ)) → Option Phrase
be_actor None = None
be_actor (Some u) = Some (Be u)

abbrev pub ask_request : Option NamedRequest → Option Phrase
ask_request None = None
ask_request (Some r) = Some (Ask r)

-- what words say, by their first; `@` stands in scripts alone
abbrev pub phrase_by : Bool → List ℕ → List (List ℕ) → Option Phrase
phrase_by script w ws =
    if script && bytes_eq w (codes "@") then at_minute (minute_in ws)
    else if bytes_eq w (codes "as") then be_actor (actor_in ws) else ask_request (request_in w ws)

abbrev pub phrase_in : Bool → List (List ℕ) → Option Phrase
phrase_in script [] = None
phrase_in script (w ∷ ws) = phrase_by script w ws

-- the same in numbers of the policy, where each name is declared

module _ (np : NamedPolicy) where
  abbrev pub request_of : NamedRequest → Option Request
  request_of Now = Some requests.Now
  request_of (Status c) = do
    g ← cond_of np.names c
    Some (requests.Status g)
  request_of (Seen e) = do
    g ← event_of np.names e
    Some (requests.Seen g)
  request_of (Raise h d) = do
    g ← head_of np.names h
    Some (requests.Raise g d)
  request_of OpenSession = Some requests.OpenSession
  request_of (CloseSession s) = Some (requests.CloseSession s)
  request_of (Activate s r) = do
    role ← role_of np.names r
    Some (requests.Activate s role)
  request_of (Deactivate s r) = do
    role ← role_of np.names r
    Some (requests.Deactivate s role)
  request_of (Active s r) = do
    role ← role_of np.names r
    Some (requests.Active s role)
  request_of (Check s q) = do
    perm ← perm_of np.names q
    Some (requests.Check s perm)

  -- no name is the actor `opening`
  abbrev pub actor_of : Actor → Option (List ℕ) → Option Actor
  actor_of opening None = Some opening
  actor_of opening (Some u) = do
    user ← user_of np.names u
    Some (User user)

  abbrev pub line_of : Actor → Phrase → Option Line
  line_of opening (At t) = Some (lines.At t)
  line_of opening (Be u) = do
    actor ← actor_of opening u
    Some (lines.Be actor)
  line_of opening (Ask r) = do
    q ← request_of r
    Some (lines.Ask q)

  abbrev pub meant : Option Line → Result Line LineFault
  meant None = Err faults.Name
  meant (Some l) = Ok l

  abbrev pub said : Actor → Option Phrase → Result Line LineFault
  said opening None = Err faults.Syntax
  said opening (Some phrase) = meant (line_of opening phrase)

  -- a line: its length is looked at before all else, then its form, then its names
  abbrev pub read_line : Actor → Bool → List ℕ → Result Line LineFault
  read_line opening script line =
      if is_longer LONGEST_LINE line then Err faults.Long
      else if are_silent (words_of line) then Ok lines.Silent
      else said opening (phrase_in script (words_of line))
