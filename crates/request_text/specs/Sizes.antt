-- How long a reply can be.
use Rattle.std.specs.Prelude.{ℕ, ◌≤◌, ◌<◌, ◌^◌, length}
use Rattle.gt_base.specs.declared.requests.Seen.{Seen}
use Rattle.gt_base.specs.declared.requests.Seen.TheVariants.{Unblocked, Blocked, Absent}
use Rattle.gt_base.specs.declared.requests.Decision.{Decision}
use Rattle.gt_base.specs.declared.requests.Decision.TheVariants.{Permit, NoActive, NoGrant, Shut}
use Rattle.gt_base.specs.declared.requests.Refusal.{Refusal}
use Rattle.gt_base.specs.declared.requests.Refusal.TheVariants.{NoUser, NotAdmin, Beyond, SessionsFull, NoSession, NotYours, NotActive, Already, Disabled, NotAssigned, RoleFull, UserFull, DaySpent}
use Rattle.gt_base.specs.declared.requests.Reply.{Reply}
use Rattle.gt_base.specs.declared.requests.Reply.TheVariants.{Now, Truth, Event, Queued, Session, Done, Active, Decided, Refused}
use Rattle.gt_base.specs.declared.limits.TheConstants.{LONGEST_WALK, MAX_PRIO}

-- numbers are those that the types hold: of 32 bits, and priorities of at most 100

abbrev pub IsSmallSeen : Seen → Type 0
IsSmallSeen (Unblocked p) = p ≤ MAX_PRIO
IsSmallSeen (Blocked p) = p ≤ MAX_PRIO
IsSmallSeen Absent = Unit {0}

abbrev pub IsSmallRefusal : Refusal → Type 0
IsSmallRefusal (Beyond due) = due < 2 ^ 32
IsSmallRefusal (RoleFull n) = n < 2 ^ 32
IsSmallRefusal (UserFull n) = n < 2 ^ 32
IsSmallRefusal (DaySpent n) = n < 2 ^ 32
IsSmallRefusal NoUser = Unit {0}
IsSmallRefusal NotAdmin = Unit {0}
IsSmallRefusal SessionsFull = Unit {0}
IsSmallRefusal NoSession = Unit {0}
IsSmallRefusal NotYours = Unit {0}
IsSmallRefusal NotActive = Unit {0}
IsSmallRefusal Already = Unit {0}
IsSmallRefusal Disabled = Unit {0}
IsSmallRefusal NotAssigned = Unit {0}

abbrev pub IsSmall : Reply → Type 0
IsSmall (Event s) = IsSmallSeen s
IsSmall (Session s) = s.0 < 2 ^ 32
IsSmall (Refused r) = IsSmallRefusal r
IsSmall (Now t) = Unit {0}
IsSmall (Truth b) = Unit {0}
IsSmall (Queued t) = Unit {0}
IsSmall Done = Unit {0}
IsSmall (Active w) = Unit {0}
IsSmall (Decided d) = Unit {0}

-- a walk of a policy without a ring has at most 999 edges

abbrev pub IsBriefDecision : Decision → Type 0
IsBriefDecision (Permit w) = length w.edges ≤ LONGEST_WALK
IsBriefDecision NoActive = Unit {0}
IsBriefDecision NoGrant = Unit {0}
IsBriefDecision (Shut n) = Unit {0}

abbrev pub IsBrief : Reply → Type 0
IsBrief (Active w) = length w.edges ≤ LONGEST_WALK
IsBrief (Decided d) = IsBriefDecision d
IsBrief (Now t) = Unit {0}
IsBrief (Truth b) = Unit {0}
IsBrief (Event s) = Unit {0}
IsBrief (Queued t) = Unit {0}
IsBrief (Session s) = Unit {0}
IsBrief Done = Unit {0}
IsBrief (Refused r) = Unit {0}

-- how many edges its walk has, none where it has no walk

abbrev pub decision_edges : Decision → ℕ
decision_edges (Permit w) = length w.edges
decision_edges NoActive = 0
decision_edges NoGrant = 0
decision_edges (Shut n) = 0

abbrev pub edge_count : Reply → ℕ
edge_count (Active w) = length w.edges
edge_count (Decided d) = decision_edges d
edge_count (Now t) = 0
edge_count (Truth b) = 0
edge_count (Event s) = 0
edge_count (Queued t) = 0
edge_count (Session s) = 0
edge_count Done = 0
edge_count (Refused r) = 0
