-- The faults of lines together, and the policy of lines without one.
use Rattle.std.specs.Prelude.{ℕ, ◌+◌, Bool, true, false, ◌&&◌, not, List, [], ◌∷◌, map, filter_map, bytes_eq, nat_le, Option, Some, None, Result, Ok, Err, is_some, if◌then◌else◌}
use Rattle.std.specs.List.{list_any, list_all}
use Rattle.gt_base.specs.declared.policies.HierEdge.{HierEdge}
use Rattle.gt_base.specs.declared.limits.TheConstants.{MAX_ASSIGNED, MAX_EDGES, MAX_ENTRIES, MAX_GRANTED, MAX_LIMITS, MAX_PERIODS, MAX_PERMS, MAX_ROLES, MAX_TRIGGERS, MAX_USERS}
use Rattle.gtrbac_model.specs.Graph.{item_at}
use Rattle.gtrbac_model.specs.EdgeCycles.{edge_cycle}
use Rattle.policy_words.specs.declared.parts.NamedFluent.{NamedFluent}
use Rattle.policy_words.specs.declared.parts.NamedFluent.TheVariants as fluents
use Rattle.policy_words.specs.declared.parts.Item.{Item}
use Rattle.policy_words.specs.declared.parts.Item.TheVariants.{Event, Signal, Cond, Settled}
use Rattle.policy_words.specs.declared.sayings.Kind.{Kind}
use Rattle.policy_words.specs.declared.sayings.Kind.TheVariants as kinds
use Rattle.policy_words.specs.Sayings.{SaidView, role, user, perm, period, limit, edge, cap, admin, opening, entry, trigger}
use Rattle.policy_words.specs.Reading.{Numbered}
use Rattle.policy_words.specs.declared.claims.Claim.{Claim}
use Rattle.policy_words.specs.declared.claims.Claim.TheVariants as claims
use Rattle.policy_words.specs.CapKinds.{same_cap_kind}
use Rattle.policy_words.specs.Naming.{Names, NamedPolicy, role_of, user_of, period_of, fluent_of, event_of, cond_of, signal_of, head_of}
use Rattle.policy_words.specs.Making.{names_of, named_policy}

pub data LinesFault : Type 0 where
  unknown : ℕ → LinesFault
  twice : ℕ → LinesFault
  many : ℕ → Kind → LinesFault
  cycle : List HierEdge → LinesFault

-- unknown names

abbrev pub is_known_item : Names → Item → Bool
is_known_item ns (Event e) = is_some (event_of ns e)
is_known_item ns (Signal s) = is_some (signal_of ns s)
is_known_item ns (Cond c) = is_some (cond_of ns c)
is_known_item ns (Settled c) = is_some (cond_of ns c)

abbrev pub is_known_period : Names → Option (List ℕ) → Bool
is_known_period ns None = true
is_known_period ns (Some p) = is_some (period_of ns p)

-- each name of the line is declared by some line, and each pair of an edge that is switched is that
-- of an edge
abbrev pub is_known : Names → SaidView → Bool
is_known ns (limit n prio c most during) = is_some (cond_of ns c) && is_known_period ns during
is_known ns (edge kind strong s j) = is_some (role_of ns s) && is_some (role_of ns j)
is_known ns (cap kind r n) = is_some (role_of ns r)
is_known ns (admin u) = is_some (user_of ns u)
is_known ns (opening f) = is_some (fluent_of ns f)
is_known ns (entry f p h) = is_some (period_of ns p) && is_some (head_of ns h)
is_known ns (trigger items h d) = list_all (is_known_item ns) items && is_some (head_of ns h)
is_known ns _ = true

-- what a line claims

abbrev pub fluent_claim : NamedFluent → Option Claim
fluent_claim (fluents.Enabled r) = None
fluent_claim (fluents.Assigned u r) = Some (claims.Assigned u r)
fluent_claim (fluents.Granted q r) = Some (claims.Granted q r)
fluent_claim (fluents.Limit l) = None
fluent_claim (fluents.Edge s j) = None

-- a declared name, the ordered pair of an edge, the kind and role of a cap; or the pair of an
-- assignment or a grant
abbrev pub claim_of : SaidView → Option Claim
claim_of (role n) = Some (claims.Role n)
claim_of (user n) = Some (claims.User n)
claim_of (perm n) = Some (claims.Perm n)
claim_of (period n f l e) = Some (claims.Period n)
claim_of (limit n p c most d) = Some (claims.Limit n)
claim_of (edge k st s j) = Some (claims.Edge s j)
claim_of (cap k r n) = Some (claims.Cap k r)
claim_of (opening f) = fluent_claim f
claim_of _ = None

abbrev pub same_claim : Claim → Claim → Bool
same_claim (claims.Role n) (claims.Role m) = bytes_eq n m
same_claim (claims.User n) (claims.User m) = bytes_eq n m
same_claim (claims.Perm n) (claims.Perm m) = bytes_eq n m
same_claim (claims.Period n) (claims.Period m) = bytes_eq n m
same_claim (claims.Limit n) (claims.Limit m) = bytes_eq n m
same_claim (claims.Edge s j) (claims.Edge s' j') = bytes_eq s s' && bytes_eq j j'
same_claim (claims.Cap k r) (claims.Cap k' r') = same_cap_kind k k' && bytes_eq r r'
same_claim (claims.Assigned u r) (claims.Assigned u' r') = bytes_eq u u' && bytes_eq r r'
same_claim (claims.Granted q r) (claims.Granted q' r') = bytes_eq q q' && bytes_eq r r'
same_claim _ _ = false

abbrev pub is_claimed_by : Claim → SaidView → Bool
is_claimed_by c s = elim (claim_of s) [ None ↦ false | Some d ↦ same_claim c d ]

-- a line before claims the same
abbrev pub is_claimed_again : List SaidView → SaidView → Bool
is_claimed_again before s = elim (claim_of s)
    [ None ↦ false | Some c ↦ list_any (is_claimed_by c) before ]

-- an assignment, a grant or what claims nothing may be said again
abbrev pub may_be_again : SaidView → Bool
may_be_again (opening f) = true
may_be_again _ = false

abbrev pub is_twice : List SaidView → SaidView → Bool
is_twice before s = not (may_be_again s) && is_claimed_again before s

-- too many of a kind

abbrev pub fluent_kind : NamedFluent → Option Kind
fluent_kind (fluents.Enabled r) = None
fluent_kind (fluents.Assigned u r) = Some kinds.Assigned
fluent_kind (fluents.Granted q r) = Some kinds.Granted
fluent_kind (fluents.Limit l) = None
fluent_kind (fluents.Edge s j) = None

abbrev pub kind_of : SaidView → Option Kind
kind_of (role n) = Some kinds.Roles
kind_of (user n) = Some kinds.Users
kind_of (perm n) = Some kinds.Perms
kind_of (period n f l e) = Some kinds.Periods
kind_of (limit n p c most d) = Some kinds.Limits
kind_of (edge k st s j) = Some kinds.Edges
kind_of (entry f p h) = Some kinds.Entries
kind_of (trigger items h d) = Some kinds.Triggers
kind_of (opening f) = fluent_kind f
kind_of _ = None

abbrev pub most_of : Kind → ℕ
most_of kinds.Roles = MAX_ROLES
most_of kinds.Users = MAX_USERS
most_of kinds.Perms = MAX_PERMS
most_of kinds.Periods = MAX_PERIODS
most_of kinds.Limits = MAX_LIMITS
most_of kinds.Edges = MAX_EDGES
most_of kinds.Entries = MAX_ENTRIES
most_of kinds.Triggers = MAX_TRIGGERS
most_of kinds.Assigned = MAX_ASSIGNED
most_of kinds.Granted = MAX_GRANTED

abbrev pub same_kind : Kind → Kind → Bool
same_kind kinds.Roles kinds.Roles = true
same_kind kinds.Users kinds.Users = true
same_kind kinds.Perms kinds.Perms = true
same_kind kinds.Periods kinds.Periods = true
same_kind kinds.Limits kinds.Limits = true
same_kind kinds.Edges kinds.Edges = true
same_kind kinds.Entries kinds.Entries = true
same_kind kinds.Triggers kinds.Triggers = true
same_kind kinds.Assigned kinds.Assigned = true
same_kind kinds.Granted kinds.Granted = true
same_kind _ _ = false

abbrev pub is_of : Kind → SaidView → Bool
is_of k s = elim (kind_of s) [ None ↦ false | Some l ↦ same_kind k l ]

-- a line counts for its kind, unless a line before claims the same
abbrev pub counts_for : Kind → List SaidView → SaidView → Bool
counts_for k before s = is_of k s && not (is_claimed_again before s)

-- how many of the kind the lines have; the last line stands first
abbrev pub count_of : Kind → List SaidView → ℕ
count_of k [] = 0
count_of k (s ∷ before) = count_of k before + (if counts_for k before s then 1 else 0)

-- the line is one more of its kind than are allowed
abbrev pub many_of : List SaidView → SaidView → Option Kind
many_of before s =
    elim (kind_of s) [
      | None ↦ None
      | Some k ↦ if counts_for k before s
          && nat_le (most_of k) (count_of k before) then Some k else None
    ]

-- the faults of the lines

abbrev pub many_at : ℕ → Option Kind → Option LinesFault
many_at n None = None
many_at n (Some k) = Some (many n k)

-- of one line, with the lines before it, over all names: unknown, twice, too many
abbrev pub fault_of_line : Names → List SaidView → Numbered SaidView → Option LinesFault
fault_of_line ns before s =
    if not (is_known ns s.it) then Some (unknown s.line)
    else if is_twice before s.it then Some (twice s.line)
    else many_at s.line (many_of before s.it)

abbrev pub first_fault : Names → List SaidView → List (Numbered SaidView) → Option LinesFault
first_fault ns before [] = None
first_fault ns before (s ∷ ss) = elim (fault_of_line ns before s)
    [ Some t ↦ Some t | None ↦ first_fault ns (s.it ∷ before) ss ]

-- the edges of these numbers
abbrev pub edges_at : List HierEdge → List ℕ → List HierEdge
edges_at es ns = filter_map (item_at es) ns

abbrev pub without_cycle : NamedPolicy → Option (List ℕ) → Result NamedPolicy LinesFault
without_cycle np None = Ok np
without_cycle np (Some ns) = Err (cycle (edges_at np.policy.edges ns))

abbrev pub without_fault : Option LinesFault → NamedPolicy → Result NamedPolicy LinesFault
without_fault (Some t) np = Err t
without_fault None np = without_cycle np (edge_cycle np.policy.edges)

abbrev pub said_in : List (Numbered SaidView) → List SaidView
said_in ss = map (λ s. s.it) ss

-- the policy that the lines make, or the first fault; where no line has one, the least cycle of
-- edges
abbrev pub build : List (Numbered SaidView) → Result NamedPolicy LinesFault
build ss = without_fault (first_fault (names_of (said_in ss)) [] ss) (named_policy (said_in ss))
