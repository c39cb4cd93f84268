-- What every policy keeps.
use Rattle.std.specs.Prelude.{◌≡◌, ℕ, ◌+◌, ◌-◌, ◌<◌, ◌≤◌, Bool, true, false, ◌&&◌, ◌||◌, not, List, [], ◌∷◌, ◌++◌, length, map, count_by, nat_le, nat_lt, Option, Some, None, IsTrue}
use Rattle.std.specs.List.{list_all, list_any}
use Rattle.gt_base.specs.Held.{TriggerView}
use Rattle.gt_base.specs.Happening.{HappenedView, nothing}
use Rattle.gt_base.specs.Machines.{ticked}
use Rattle.gt_base.specs.Sets.{members}
use Rattle.gt_base.specs.declared.events.RoleId.{RoleId}
use Rattle.gt_base.specs.declared.events.UserId.{UserId}
use Rattle.gt_base.specs.declared.events.Fluent.{Fluent}
use Rattle.gt_base.specs.declared.events.Fluent.TheVariants.{Enabled, Assigned, Granted, Limit, Edge}
use Rattle.gt_base.specs.declared.events.Prioritised.{Prioritised}
use Rattle.gt_base.specs.declared.events.Signal.{Signal}
use Rattle.gt_base.specs.declared.policies.PeriodicEntry.{PeriodicEntry}
use Rattle.gt_base.specs.declared.policies.LimitRule.{LimitRule}
use Rattle.gt_base.specs.declared.policies.HierEdge.{HierEdge}
use Rattle.gt_base.specs.declared.policies.Caps.{Caps}
use Rattle.gt_base.specs.declared.requests.Who.{Who}
use Rattle.gt_base.specs.declared.requests.Entry.{Entry}
use Rattle.gt_base.specs.declared.limits.TheConstants.{LAST_MINUTE, MAX_ASSIGNED, MAX_COUNT, MAX_EDGES, MAX_ENTRIES, MAX_GRANTED, MAX_ITEMS, MAX_LIMITS, MAX_PERIODS, MAX_PERMS, MAX_POLICY_PRIO, MAX_ROLES, MAX_TRIGGERS, MAX_USERS}
use Rattle.gtrbac_model.specs.Same.{same_role}
use Rattle.gtrbac_model.specs.Policy.{Policy}
use Rattle.gtrbac_model.specs.Conflict.{Status, after}
use Rattle.gtrbac_model.specs.Instant.{Settled}
use Rattle.gtrbac_model.specs.Graph.{LeadsAlong}
use Rattle.gtrbac_model.specs.Hierarchy.{all_arcs}
use Rattle.gtrbac_model.specs.Status.{Model, since}
use Rattle.gtrbac_model.specs.Base.{status, base_at}
use Rattle.gtrbac_model.specs.History.{Legal, IsExecutionModel, is_some_item, now_of}
use Rattle.gtrbac_model.specs.Valid.{is_period, rises_above}

-- numbers are those of the policy, and priorities are below that of requests
module _ (p : Policy) where
  abbrev pub is_fluent : Fluent → Bool
  is_fluent (Enabled r) = nat_lt r.0 p.roles
  is_fluent (Assigned u r) = nat_lt u.0 p.users && nat_lt r.0 p.roles
  is_fluent (Granted q r) = nat_lt q.0 p.perms && nat_lt r.0 p.roles
  is_fluent (Limit l) = nat_lt l.0 (length p.limits)
  is_fluent (Edge n) = nat_lt n (length p.edges)

  abbrev pub is_head : Prioritised → Bool
  is_head h = nat_le h.prio MAX_POLICY_PRIO && is_fluent h.event.fluent

  abbrev pub is_signal : Signal → Bool
  is_signal s = nat_lt s.user.0 p.users && nat_lt s.role.0 p.roles

  abbrev pub is_entry : PeriodicEntry → Bool
  is_entry e = nat_lt e.period.0 (length p.periods) && is_head e.head

  -- a limit is of 1 to 1,000,000 minutes
  abbrev pub is_limit : LimitRule → Bool
  is_limit l =
      is_fluent l.cond.fluent && nat_le l.prio MAX_POLICY_PRIO && nat_le 1 l.most
      && nat_le l.most MAX_COUNT
      && elim l.period [ None ↦ true | Some q ↦ nat_lt q.0 (length p.periods) ]

  -- an edge inherits, or activates, or both
  abbrev pub is_edge : HierEdge → Bool
  is_edge e = nat_lt e.senior.0 p.roles && nat_lt e.junior.0 p.roles && (e.inherits || e.activates)

  -- a body has at most 16 items
  abbrev pub is_rule : TriggerView → Bool
  is_rule r =
      list_all (λ e. is_fluent e.fluent) r.events && list_all is_signal r.signals
      && list_all (λ c. is_fluent c.fluent) r.conds
      && list_all (λ c. is_fluent c.fluent) r.settled && is_head r.head
      && nat_le r.delay LAST_MINUTE
      && nat_le (length r.events + length r.signals + length r.conds + length r.settled) MAX_ITEMS

-- the body has an event or a signal
abbrev pub has_cause : TriggerView → Bool
has_cause r = is_some_item r.events || is_some_item r.signals

abbrev pub joins_same : HierEdge → HierEdge → Bool
joins_same e f = same_role e.senior f.senior && same_role e.junior f.junior

abbrev pub joined_twice : List HierEdge → Bool
joined_twice [] = false
joined_twice (e ∷ es) = list_any (joins_same e) es || joined_twice es

abbrev pub is_most : Option ℕ → Bool
is_most None = true
is_most (Some n) = nat_le 1 n && nat_le n MAX_COUNT

abbrev pub are_caps : Caps → Bool
are_caps c = is_most c.total && is_most c.user && is_most c.length && is_most c.day

abbrev pub admins_rise : List UserId → Bool
admins_rise [] = true
admins_rise (u ∷ us) = rises_above u.0 (map (λ v. v.0) us)

abbrev pub is_assignment : Fluent → Bool
is_assignment (Assigned u r) = true
is_assignment _ = false

abbrev pub is_grant : Fluent → Bool
is_grant (Granted q r) = true
is_grant _ = false

-- no walk over the edges, on or off, leads from a role back to it
abbrev pub HasNoRing : List HierEdge → Type 0
HasNoRing edges = (r : RoleId) (walk : List ℕ) → LeadsAlong (all_arcs edges) r walk r → walk ≡ []

-- what every policy keeps: numbers in range, lists within their limits, one edge at most from a
-- role to another and no ring of edges, a caps record for each role, and an event or a signal in
-- each trigger's body
pub record IsPolicy (p : Policy) : Type 0 where
  pub roles : p.roles ≤ MAX_ROLES
  pub users : p.users ≤ MAX_USERS
  pub perms : p.perms ≤ MAX_PERMS
  pub periods : IsTrue (nat_le (length p.periods) MAX_PERIODS && list_all is_period p.periods)
  pub limits : IsTrue (nat_le (length p.limits) MAX_LIMITS && list_all (is_limit p) p.limits)
  pub edges : IsTrue (nat_le (length p.edges) MAX_EDGES && list_all (is_edge p) p.edges
      && not (joined_twice p.edges))
  pub no_ring : HasNoRing p.edges
  pub caps_a_role : length p.caps ≡ p.roles
  pub caps : IsTrue (list_all are_caps p.caps)
  pub admins : IsTrue (list_all (λ u. nat_lt u.0 p.users) p.admins && admins_rise p.admins)
  pub opening : IsTrue (list_all (is_fluent p) (members p.opening))
  pub few_assigned : count_by is_assignment (members p.opening) ≤ MAX_ASSIGNED
  pub few_granted : count_by is_grant (members p.opening) ≤ MAX_GRANTED
  pub entries : IsTrue (nat_le (length p.entries) MAX_ENTRIES && list_all (is_entry p) p.entries)
  pub triggers : IsTrue (nat_le (length p.triggers) MAX_TRIGGERS && list_all (is_rule p) p.triggers)
  pub causes : IsTrue (list_all has_cause p.triggers)
