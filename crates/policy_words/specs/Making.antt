-- The policy that lines make, in the order of the lines.
use Rattle.std.specs.Prelude.{ℕ, zero, suc, ◌+◌, Bool, true, false, nat_eq, List, [], ◌∷◌, ◌++◌, length, map, filter, filter_map, Option, Some, None, if◌then◌else◌}
use Rattle.gt_base.specs.Held.{TriggerView}
use Rattle.gt_base.specs.Sets.{set_of}
use Rattle.gt_base.specs.declared.events.RoleId.{RoleId}
use Rattle.gt_base.specs.declared.events.UserId.{UserId}
use Rattle.gt_base.specs.declared.events.PeriodId.{PeriodId}
use Rattle.std.specs.List.{list_any}
use Rattle.gt_base.specs.declared.events.Fluent.{Fluent}
use Rattle.gt_base.specs.declared.events.Fluent.TheVariants as fluents
use Rattle.gt_base.specs.declared.events.Event as base_event
use Rattle.gt_base.specs.declared.events.Signal as base_signal
use Rattle.gt_base.specs.declared.events.Cond as base_cond
use Rattle.gt_base.specs.declared.policies.PeriodicEntry.{PeriodicEntry}
use Rattle.gt_base.specs.declared.policies.LimitRule.{LimitRule}
use Rattle.gt_base.specs.declared.policies.HierEdge.{HierEdge}
use Rattle.gt_base.specs.declared.policies.Caps.{Caps}
use Rattle.gtrbac_model.specs.Period.{Period}
use Rattle.gtrbac_model.specs.Policy.{Policy}
use Rattle.gtrbac_model.specs.Same.{same_user, same_fluent, lists}
use Rattle.gt_base.specs.Names.{with_name}
use Rattle.policy_words.specs.declared.parts.Item.{Item}
use Rattle.policy_words.specs.declared.parts.Item.TheVariants.{Event, Signal, Cond, Settled}
use Rattle.policy_words.specs.declared.sayings.EdgeKind.{EdgeKind}
use Rattle.policy_words.specs.declared.sayings.EdgeKind.TheVariants.{I, A, Ia}
use Rattle.policy_words.specs.declared.sayings.CapKind.{CapKind}
use Rattle.policy_words.specs.CapKinds.{no_caps, with_cap}
use Rattle.policy_words.specs.Wording.{◌>>=◌}
use Rattle.policy_words.specs.Sayings.{SaidView, version, role, user, perm, period, limit, edge, cap, admin, opening, entry, trigger}
use Rattle.policy_words.specs.Naming.{Names, NamedPolicy, NamePair, same_pair, role_of, user_of, period_of, fluent_of, event_of, cond_of, signal_of, head_of}

-- names

abbrev pub no_names : Names
no_names = record { roles = []; users = []; perms = []; periods = []; limits = []; edges = [] }

-- the pairs with this one at the end, unless they have it
abbrev pub with_pair : List NamePair → NamePair → List NamePair
with_pair pairs p = if list_any (same_pair p) pairs then pairs else pairs ++ p ∷ []

-- a declared name, or the pair of an edge, goes to the end of its kind, unless it is there
abbrev pub naming : Names → SaidView → Names
naming ns (role n) = record {
  roles = with_name ns.roles n;
  users = ns.users;
  perms = ns.perms;
  periods = ns.periods;
  limits = ns.limits;
  edges = ns.edges;
}
naming ns (user n) = record {
  roles = ns.roles;
  users = with_name ns.users n;
  perms = ns.perms;
  periods = ns.periods;
  limits = ns.limits;
  edges = ns.edges;
}
naming ns (perm n) = record {
  roles = ns.roles;
  users = ns.users;
  perms = with_name ns.perms n;
  periods = ns.periods;
  limits = ns.limits;
  edges = ns.edges;
}
naming ns (period n first last e) = record {
  roles = ns.roles;
  users = ns.users;
  perms = ns.perms;
  periods = with_name ns.periods n;
  limits = ns.limits;
  edges = ns.edges;
}
naming ns (limit n prio c most during)
    = record {
      roles = ns.roles;
      users = ns.users;
      perms = ns.perms;
      periods = ns.periods;
      limits = with_name ns.limits n;
      edges = ns.edges;
    }
naming ns (edge kind strong s j) = record {
  roles = ns.roles;
  users = ns.users;
  perms = ns.perms;
  periods = ns.periods;
  limits = ns.limits;
  edges = with_pair ns.edges (s, j);
}
naming ns _ = ns

abbrev pub names_in : Names → List SaidView → Names
names_in ns [] = ns
names_in ns (s ∷ ss) = names_in (naming ns s) ss

-- the names that the lines declare, in the order of the lines
abbrev pub names_of : List SaidView → Names
names_of ss = names_in no_names ss

-- rules

abbrev pub inherits : EdgeKind → Bool
inherits I = true
inherits A = false
inherits Ia = true

abbrev pub activates : EdgeKind → Bool
activates I = false
activates A = true
activates Ia = true

-- the list with one item changed
abbrev pub changed_at : {A : Type 0} → (A → A) → ℕ → List A → List A
changed_at f k [] = []
changed_at f zero (x ∷ xs) = f x ∷ xs
changed_at f (suc k) (x ∷ xs) = x ∷ changed_at f k xs

abbrev pub with_item : {A : Type 0} → Option A → List A → List A
with_item None xs = xs
with_item (Some x) xs = xs ++ x ∷ []

-- at the end, unless it is there
abbrev pub with_new : {A : Type 0} → (A → A → Bool) → Option A → List A → List A
with_new same None xs = xs
with_new same (Some x) xs = if lists same xs x then xs else xs ++ x ∷ []

module _ (ns : Names) where
  abbrev pub period_said : SaidView → Option Period
  period_said (period n first last e) = Some (record { first = first; last = last; expr = e })
  period_said _ = None

  abbrev pub during_of : Option (List ℕ) → Option (Option PeriodId)
  during_of None = Some None
  during_of (Some p) = do
    number ← period_of ns p
    Some (Some number)

  abbrev pub limit_said : SaidView → Option LimitRule
  limit_said (limit n prio c most during) = do
    watched ← cond_of ns c
    within ← during_of during
    Some (record { cond = watched; prio = prio; most = most; period = within })
  limit_said _ = None

  abbrev pub edge_said : SaidView → Option HierEdge
  edge_said (edge kind strong s j) = do
    senior ← role_of ns s
    junior ← role_of ns j
    Some (record {
      senior = senior;
      junior = junior;
      inherits = inherits kind;
      activates = activates kind;
      strong = strong;
    })
  edge_said _ = None

  -- a cap changes the record of its role
  abbrev pub capped : CapKind → ℕ → Option RoleId → List Caps → List Caps
  capped kind n None cs = cs
  capped kind n (Some r) cs = changed_at (with_cap kind n) r.0 cs

  abbrev pub with_caps_said : SaidView → List Caps → List Caps
  with_caps_said (cap kind r n) cs = capped kind n (role_of ns r) cs
  with_caps_said _ cs = cs

  abbrev pub admin_said : SaidView → Option UserId
  admin_said (admin u) = user_of ns u
  admin_said _ = None

  abbrev pub opening_said : SaidView → Option Fluent
  opening_said (opening f) = fluent_of ns f
  opening_said _ = None

  abbrev pub entry_said : SaidView → Option PeriodicEntry
  entry_said (entry f p h) = do
    number ← period_of ns p
    head ← head_of ns h
    Some (record { form = f; period = number; head = head })
  entry_said _ = None

  abbrev pub event_in : Item → Option base_event.Event
  event_in (Event e) = event_of ns e
  event_in _ = None

  abbrev pub signal_in : Item → Option base_signal.Signal
  signal_in (Signal s) = signal_of ns s
  signal_in _ = None

  abbrev pub cond_in : Item → Option base_cond.Cond
  cond_in (Cond c) = cond_of ns c
  cond_in _ = None

  abbrev pub settled_in : Item → Option base_cond.Cond
  settled_in (Settled c) = cond_of ns c
  settled_in _ = None

  -- events, signals, conditions and settled conditions each in the order of the line
  abbrev pub rule_said : SaidView → Option TriggerView
  rule_said (trigger items h d) = do
    head ← head_of ns h
    Some (record {
      events = filter_map event_in items;
      signals = filter_map signal_in items;
      conds = filter_map cond_in items;
      settled = filter_map settled_in items;
      head = head;
      delay = d;
    })
  rule_said _ = None

-- what the lines so far make, over all names
pub record DraftView : Type 0 where
  pub periods : List Period
  pub limits : List LimitRule
  pub edges : List HierEdge
  pub caps : List Caps
  pub admins : List UserId
  pub on_at_first : List Fluent
  pub entries : List PeriodicEntry
  pub triggers : List TriggerView

-- no caps for each role, and nothing else
abbrev pub fresh : Names → DraftView
fresh ns = record {
  periods = [];
  limits = [];
  edges = [];
  caps = map (λ _. no_caps) ns.roles;
  admins = [];
  on_at_first = [];
  entries = [];
  triggers = [];
}

-- with what a line says
abbrev pub adding : Names → DraftView → SaidView → DraftView
adding ns d s =
    record {
      periods = with_item (period_said ns s) d.periods;
      limits = with_item (limit_said ns s) d.limits;
      edges = with_item (edge_said ns s) d.edges;
      caps = with_caps_said ns s d.caps;
      admins = with_new same_user (admin_said ns s) d.admins;
      on_at_first = with_new same_fluent (opening_said ns s) d.on_at_first;
      entries = with_item (entry_said ns s) d.entries;
      triggers = with_item (rule_said ns s) d.triggers;
    }

abbrev pub drafted : Names → DraftView → List SaidView → DraftView
drafted ns d [] = d
drafted ns d (s ∷ ss) = drafted ns (adding ns d s) ss

-- the lines have version 2
abbrev pub is_second : SaidView → Bool
is_second (version n) = nat_eq n 2
is_second _ = false

abbrev pub are_second : List SaidView → Bool
are_second ss = list_any is_second ss

-- so many edges, by number
abbrev pub edges_from : ℕ → ℕ → List Fluent
edges_from n zero = []
edges_from n (suc k) = fluents.Edge n ∷ edges_from (n + 1) k

-- in version 1 every edge is linked at first; in version 2 those that the lines name
abbrev pub linked_at_first : Bool → List HierEdge → List Fluent
linked_at_first true es = []
linked_at_first false es = edges_from 0 (length es)

-- so many users, by number
abbrev pub users_from : ℕ → ℕ → List UserId
users_from n zero = []
users_from n (suc k) = record { 0 = n } ∷ users_from (n + 1) k

-- the administrators by number, each once
abbrev pub policy_of : Names → Bool → DraftView → Policy
policy_of ns second d =
    record {
      roles = length ns.roles;
      users = length ns.users;
      perms = length ns.perms;
      periods = d.periods;
      limits = d.limits;
      edges = d.edges;
      caps = d.caps;
      admins = filter (lists same_user d.admins) (users_from 0 (length ns.users));
      opening = set_of (linked_at_first second d.edges ++ d.on_at_first);
      entries = d.entries;
      triggers = d.triggers;
    }

-- the policy that the lines make, numbers in place of names
abbrev pub named_policy : List SaidView → NamedPolicy
named_policy ss = let ns : Names = names_of ss
    in record { names = ns; policy = policy_of ns (are_second ss) (drafted ns (fresh ns) ss) }
