-- Names with their numbers.
use Rattle.std.specs.Prelude.{ℕ, Bool, ◌&&◌, List, [], Option, Some, slice_get, unwrap_or, position, bytes_eq, refl}
use Rattle.std.specs.Coded.{Coded, code_by, coded×, coded_ℕ, coded_list}
use Rattle.gt_base.specs.declared.events.Fluent.{Fluent}
use Rattle.gt_base.specs.declared.events.Fluent.TheVariants as fluents
use Rattle.gt_base.specs.declared.events.Event.{Event}
use Rattle.gt_base.specs.declared.events.Cond.{Cond}
use Rattle.gt_base.specs.declared.events.Signal.{Signal}
use Rattle.gt_base.specs.declared.events.Prioritised.{Prioritised}
use Rattle.gt_base.specs.declared.events.RoleId.{RoleId}
use Rattle.gt_base.specs.declared.events.UserId.{UserId}
use Rattle.gt_base.specs.declared.events.PermId.{PermId}
use Rattle.gt_base.specs.declared.events.LimitId.{LimitId}
use Rattle.gt_base.specs.declared.events.PeriodId.{PeriodId}
use Rattle.gtrbac_model.specs.Policy.{Policy, policy_code}
use Rattle.policy_words.specs.declared.parts.NamedFluent.{NamedFluent}
use Rattle.policy_words.specs.declared.parts.NamedFluent.TheVariants.{Enabled, Assigned, Granted, Limit, Edge}
use Rattle.policy_words.specs.declared.parts.NamedEvent.{NamedEvent}
use Rattle.policy_words.specs.declared.parts.NamedCond.{NamedCond}
use Rattle.policy_words.specs.declared.parts.NamedSignal.{NamedSignal}
use Rattle.policy_words.specs.declared.parts.NamedHead.{NamedHead}
use Rattle.gt_base.specs.Names.{place_of}
use Rattle.policy_words.specs.Wording.{◌>>=◌}

-- two names: the senior and the junior role of an edge
abbrev pub NamePair : Type 0
NamePair = List ℕ × List ℕ

abbrev pub same_pair : NamePair → NamePair → Bool
same_pair (s, j) (t, k) = bytes_eq s t && bytes_eq j k

-- the names that a policy declares, each at its number, and the roles that its edges join
pub record Names : Type 0 where
  pub roles : List (List ℕ)
  pub users : List (List ℕ)
  pub perms : List (List ℕ)
  pub periods : List (List ℕ)
  pub limits : List (List ℕ)
  pub edges : List NamePair

-- a policy with its names
pub record NamedPolicy : Type 0 where
  pub names : Names
  pub policy : Policy

abbrev pub name_list_code : Coded (List (List ℕ))
name_list_code = coded_list (coded_list coded_ℕ)

abbrev pub pair_list_code : Coded (List NamePair)
pair_list_code = coded_list (coded× (coded_list coded_ℕ) (coded_list coded_ℕ))

abbrev pub names_code : Coded Names
names_code =
    code_by (List (List ℕ) × (List (List ℕ) × (List (List ℕ)
    × (List (List ℕ) × (List (List ℕ) × List NamePair)))))
    (coded× name_list_code (coded× name_list_code (coded× name_list_code
    (coded× name_list_code (coded× name_list_code pair_list_code)))))
    (λ n. (n.roles, (n.users, (n.perms, (n.periods, (n.limits, n.edges))))))
    (λ (r, (u, (q, (p, (l, e))))).
    record { roles = r; users = u; perms = q; periods = p; limits = l; edges = e }) (λ _. refl)

abbrev pub named_policy_code : Coded NamedPolicy
named_policy_code = code_by (Names × Policy) (coded× names_code policy_code)
    (λ n. (n.names, n.policy)) (λ p. record { names = p.0; policy = p.1 }) (λ _. refl)

-- numbers of names

module _ (ns : Names) where
  abbrev pub role_of : List ℕ → Option RoleId
  role_of n = do
    k ← place_of ns.roles n
    Some (record { 0 = k })

  abbrev pub user_of : List ℕ → Option UserId
  user_of n = do
    k ← place_of ns.users n
    Some (record { 0 = k })

  abbrev pub perm_of : List ℕ → Option PermId
  perm_of n = do
    k ← place_of ns.perms n
    Some (record { 0 = k })

  abbrev pub period_of : List ℕ → Option PeriodId
  period_of n = do
    k ← place_of ns.periods n
    Some (record { 0 = k })

  abbrev pub limit_of : List ℕ → Option LimitId
  limit_of n = do
    k ← place_of ns.limits n
    Some (record { 0 = k })

  abbrev pub fluent_of : NamedFluent → Option Fluent
  fluent_of (Enabled r) = do
    role ← role_of r
    Some (fluents.Enabled role)
  fluent_of (Assigned u r) = do
    user ← user_of u
    role ← role_of r
    Some (fluents.Assigned user role)
  fluent_of (Granted q r) = do
    perm ← perm_of q
    role ← role_of r
    Some (fluents.Granted perm role)
  fluent_of (Limit l) = do
    limit ← limit_of l
    Some (fluents.Limit limit)
  fluent_of (Edge s j) = do
    senior ← role_of s
    junior ← role_of j
    k ← position (same_pair (s, j)) ns.edges
    Some (fluents.Edge k)

  abbrev pub event_of : NamedEvent → Option Event
  event_of e = do
    f ← fluent_of e.fluent
    Some (record { on = e.on; fluent = f })

  abbrev pub cond_of : NamedCond → Option Cond
  cond_of c = do
    f ← fluent_of c.fluent
    Some (record { on = c.on; fluent = f })

  abbrev pub signal_of : NamedSignal → Option Signal
  signal_of s = do
    user ← user_of s.user
    role ← role_of s.role
    Some (record { start = s.start; user = user; role = role })

  abbrev pub head_of : NamedHead → Option Prioritised
  head_of h = do
    e ← event_of h.event
    Some (record { prio = h.prio; event = e })

  -- names of numbers

  abbrev pub name_at : List (List ℕ) → ℕ → List ℕ
  name_at names n = unwrap_or (slice_get names n) []

  abbrev pub role_name : RoleId → List ℕ
  role_name r = name_at ns.roles r.0

  abbrev pub user_name : UserId → List ℕ
  user_name u = name_at ns.users u.0

  abbrev pub perm_name : PermId → List ℕ
  perm_name q = name_at ns.perms q.0

  abbrev pub period_name : PeriodId → List ℕ
  period_name p = name_at ns.periods p.0

  abbrev pub limit_name : LimitId → List ℕ
  limit_name l = name_at ns.limits l.0

  abbrev pub pair_at : ℕ → NamePair
  pair_at n = unwrap_or (slice_get ns.edges n) ([], [])

  abbrev pub fluent_named : Fluent → NamedFluent
  fluent_named (fluents.Enabled r) = Enabled (role_name r)
  fluent_named (fluents.Assigned u r) = Assigned (user_name u) (role_name r)
  fluent_named (fluents.Granted q r) = Granted (perm_name q) (role_name r)
  fluent_named (fluents.Limit l) = Limit (limit_name l)
  fluent_named (fluents.Edge n) = Edge (pair_at n).0 (pair_at n).1

  abbrev pub event_named : Event → NamedEvent
  event_named e = record { on = e.on; fluent = fluent_named e.fluent }

  abbrev pub cond_named : Cond → NamedCond
  cond_named c = record { on = c.on; fluent = fluent_named c.fluent }

  abbrev pub signal_named : Signal → NamedSignal
  signal_named s = record { start = s.start; user = user_name s.user; role = role_name s.role }

  abbrev pub head_named : Prioritised → NamedHead
  head_named h = record { prio = h.prio; event = event_named h.event }
