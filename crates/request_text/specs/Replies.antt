-- The texts of replies, of entries and of the log.
use Rattle.std.specs.Prelude.{ℕ, Bool, true, false, List, [], ◌∷◌, ◌++◌, map, flat_map, codes, decimal, slice_get, Option, Some, None}
use Rattle.gt_base.specs.declared.policies.HierEdge.{HierEdge}
use Rattle.gt_base.specs.declared.requests.Who.{Who}
use Rattle.gt_base.specs.declared.requests.Actor.{Actor}
use Rattle.gt_base.specs.declared.requests.Actor.TheVariants.{Operator, User, Nobody}
use Rattle.gt_base.specs.declared.requests.Request.{Request}
use Rattle.gt_base.specs.declared.requests.Request.TheVariants as requests
use Rattle.gt_base.specs.declared.requests.Seen.{Seen}
use Rattle.gt_base.specs.declared.requests.Seen.TheVariants.{Unblocked, Blocked, Absent}
use Rattle.gt_base.specs.declared.requests.Decision.{Decision}
use Rattle.gt_base.specs.declared.requests.Decision.TheVariants.{Permit, NoActive, NoGrant, Shut}
use Rattle.gt_base.specs.declared.requests.Refusal.{Refusal}
use Rattle.gt_base.specs.declared.requests.Refusal.TheVariants.{NoUser, NotAdmin, Beyond, SessionsFull, NoSession, NotYours, NotActive, Already, Disabled, NotAssigned, RoleFull, UserFull, DaySpent}
use Rattle.gt_base.specs.declared.requests.Reply.{Reply}
use Rattle.gt_base.specs.declared.requests.Reply.TheVariants.{Now, Truth, Event, Queued, Session, Done, Active, Decided, Refused}
use Rattle.gt_base.specs.declared.requests.Step.{Step}
use Rattle.gt_base.specs.declared.requests.Step.TheVariants.{Tick, Ask}
use Rattle.gt_base.specs.declared.requests.Entry.{Entry}
use Rattle.gt_base.specs.Held.{RoleWalk}
use Rattle.gt_text.specs.Words.{spaced, joined_by}
use Rattle.civil_time.specs.Text.{civil_text}
use Rattle.policy_words.specs.Naming.{NamedPolicy, role_name, user_name, perm_name, event_named, cond_named, head_named}
use Rattle.request_text.specs.declared.phrases.NamedRequest.{NamedRequest}
use Rattle.request_text.specs.declared.phrases.NamedRequest.TheVariants as named
use Rattle.request_text.specs.declared.lines.LineFault.{LineFault}
use Rattle.request_text.specs.declared.lines.LineFault.TheVariants.{Long, Syntax, Name}
use Rattle.request_text.specs.Phrases.{request_words}

abbrev pub arrow : List ℕ
arrow = 62 ∷ []

abbrev pub yes_or_no : Bool → List ℕ
yes_or_no true = codes "yes"
yes_or_no false = codes "no"

abbrev pub seen_text : Seen → List ℕ
seen_text (Unblocked p) = codes "yes " ++ decimal p
seen_text (Blocked p) = codes "blocked " ++ decimal p
seen_text Absent = codes "no"

abbrev pub refusal_text : Refusal → List ℕ
refusal_text NoUser = codes "no-user"
refusal_text NotAdmin = codes "not-admin"
refusal_text (Beyond due) = codes "beyond " ++ decimal due
refusal_text SessionsFull = codes "sessions-full"
refusal_text NoSession = codes "no-session"
refusal_text NotYours = codes "not-yours"
refusal_text NotActive = codes "not-active"
refusal_text Already = codes "already"
refusal_text Disabled = codes "disabled"
refusal_text NotAssigned = codes "not-assigned"
refusal_text (RoleFull n) = codes "role-full " ++ decimal n
refusal_text (UserFull n) = codes "user-full " ++ decimal n
refusal_text (DaySpent n) = codes "day-spent " ++ decimal n

-- why a line of a connection is answered with `bad`
abbrev pub fault_word : LineFault → List ℕ
fault_word Long = codes "long"
fault_word Syntax = codes "syntax"
fault_word Name = codes "name"

-- the worker and its connection
abbrev pub who_text : Who → List ℕ
who_text w = decimal w.worker ++ codes "." ++ decimal w.conn

module _ (np : NamedPolicy) where
  abbrev pub edge_at : ℕ → Option HierEdge
  edge_at n = slice_get np.policy.edges n

  abbrev pub junior_name : HierEdge → List ℕ
  junior_name e = role_name np.names e.junior

  -- the junior of the edge with this number
  abbrev pub junior_text : ℕ → List ℕ
  junior_text n = elim (edge_at n) as (λ _. List ℕ) [ Some e ↦ junior_name e | None ↦ [] ]

  -- the senior and the junior of the edge with this number
  abbrev pub edge_text : ℕ → List ℕ
  edge_text n = elim (edge_at n) as (λ _. List ℕ)
      [ Some e ↦ role_name np.names e.senior ++ arrow ++ junior_name e | None ↦ [] ]

  -- the names of a walk's roles
  abbrev pub walk_text : RoleWalk → List ℕ
  walk_text w = joined_by arrow (role_name np.names w.start ∷ map junior_text w.edges)

  abbrev pub decision_text : Decision → List ℕ
  decision_text (Permit w) = codes "permit by " ++ walk_text w
  decision_text NoActive = codes "deny no-active"
  decision_text NoGrant = codes "deny no-grant"
  decision_text (Shut n) = codes "deny shut " ++ edge_text n

  -- a reply without its line feed
  abbrev pub reply_text : Reply → List ℕ
  reply_text (Now t) = codes "now " ++ civil_text t
  reply_text (Truth b) = yes_or_no b
  reply_text (Event s) = seen_text s
  reply_text (Queued t) = codes "queued " ++ civil_text t
  reply_text (Session s) = codes "session " ++ decimal s.0
  reply_text Done = codes "ok"
  reply_text (Active w) = codes "ok by " ++ walk_text w
  reply_text (Decided d) = decision_text d
  reply_text (Refused r) = codes "refused " ++ refusal_text r

  -- a reply's line
  abbrev pub reply_line : Reply → List ℕ
  reply_line r = reply_text r ++ codes "\n"

  abbrev pub actor_text : Actor → List ℕ
  actor_text Operator = codes "-"
  actor_text (User u) = user_name np.names u
  actor_text Nobody = codes "-"

  abbrev pub request_named : Request → NamedRequest
  request_named requests.Now = named.Now
  request_named (requests.Status c) = named.Status (cond_named np.names c)
  request_named (requests.Seen e) = named.Seen (event_named np.names e)
  request_named (requests.Raise h d) = named.Raise (head_named np.names h) d
  request_named requests.OpenSession = named.OpenSession
  request_named (requests.CloseSession s) = named.CloseSession s
  request_named (requests.Activate s r) = named.Activate s (role_name np.names r)
  request_named (requests.Deactivate s r) = named.Deactivate s (role_name np.names r)
  request_named (requests.Active s r) = named.Active s (role_name np.names r)
  request_named (requests.Check s q) = named.Check s (perm_name np.names q)

  -- a request's line, without `after 0`
  abbrev pub request_text : Request → List ℕ
  request_text r = spaced (request_words (request_named r))

  abbrev pub step_text : Who → Step → List ℕ
  step_text who (Tick upto to) =
      codes "tick " ++ who_text who ++ codes " to " ++ civil_text to ++ codes " bound "
      ++ civil_text upto
  step_text who (Ask actor request reply) =
      codes "ask " ++ who_text who ++ codes " " ++ actor_text actor ++ codes " "
      ++ request_text request ++ codes " = " ++ reply_text reply

  -- an entry without its line feed
  abbrev pub entry_text : Entry → List ℕ
  entry_text e = step_text e.who e.what

  -- an entry's line in the log
  abbrev pub entry_line : Entry → List ℕ
  entry_line e = entry_text e ++ codes "\n"

  -- the log of a history
  abbrev pub log_text : ℕ → List Entry → List ℕ
  log_text birth h = codes "born " ++ civil_text birth ++ codes "\n" ++ flat_map entry_line h
