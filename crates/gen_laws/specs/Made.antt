-- The policy that a made text stands for, with numbers in place of names.
use Rattle.std.specs.Prelude.{ℕ, ◌+◌, ◌-◌, Bool, true, false, List, [], ◌∷◌, ◌++◌, map, flat_map, codes, Some, None}
use Rattle.std.specs.List.{range_with_len}
use Rattle.gt_base.specs.Held.{TriggerView}
use Rattle.gt_base.specs.Sets.{set_of_rising}
use Rattle.gt_base.specs.declared.events.RoleId.{RoleId}
use Rattle.gt_base.specs.declared.events.Fluent.{Fluent}
use Rattle.gt_base.specs.declared.events.Fluent.TheVariants.{Enabled, Assigned, Granted, Edge}
use Rattle.gt_base.specs.declared.events.Event.{Event}
use Rattle.gt_base.specs.declared.events.Prioritised.{Prioritised}
use Rattle.gt_base.specs.declared.policies.Form.TheVariants.{Span}
use Rattle.gt_base.specs.declared.policies.PeriodicEntry.{PeriodicEntry}
use Rattle.gt_base.specs.declared.policies.HierEdge.{HierEdge}
use Rattle.gt_base.specs.declared.limits.TheConstants.{LAST_MINUTE}
use Rattle.gtrbac_model.specs.declared.calendars.Calendar.TheVariants.{Days, Hours}
use Rattle.gtrbac_model.specs.Period.{Period}
use Rattle.gtrbac_model.specs.Policy.{Policy}
use Rattle.policy_words.specs.Naming.{Names, NamePair, NamedPolicy}
use Rattle.policy_words.specs.CapKinds.{no_caps}
use Rattle.policy_gen.specs.Texts.{count_of, one, for_each}

-- names are numbered from 1, and stand at numbers from 0

abbrev pub role_named : ℕ → List ℕ
role_named i = one (codes "r") i

abbrev pub user_named : ℕ → List ℕ
user_named i = one (codes "u") i

abbrev pub perm_named : ℕ → List ℕ
perm_named i = one (codes "p") i

abbrev pub pair_named : ℕ → NamePair
pair_named i = (role_named i, role_named (i + 1))

abbrev pub names_of_made : ℕ → Names
names_of_made k = record {
  roles = for_each role_named k;
  users = for_each user_named k;
  perms = for_each perm_named k;
  periods = codes "hours" ∷ [];
  limits = [];
  edges = map pair_named (range_with_len 1 (k - 1));
}

abbrev pub role_at : ℕ → RoleId
role_at n = record { 0 = n }

-- `all.Days + {9}.Hours > 8.Hours`, at all times
abbrev pub office_hours : Period
office_hours = record {
  first = 0;
  last = LAST_MINUTE;
  expr = record {
    parts = record { calendar = Days; set = None }
        ∷ record { calendar = Hours; set = Some (9 ∷ []) } ∷ [];
    count = 8;
    unit = Hours;
  };
}

-- from each role to the next, weak, of both kinds
abbrev pub edge_down : ℕ → HierEdge
edge_down n = record {
  senior = role_at n;
  junior = role_at (n + 1);
  inherits = true;
  activates = true;
  strong = false;
}

-- the user, and the permission, of a number has the role of that number
abbrev pub assigned_own : ℕ → Fluent
assigned_own n = Assigned (record { 0 = n }) (role_at n)

abbrev pub granted_own : ℕ → Fluent
granted_own n = Granted (record { 0 = n }) (role_at n)

-- all assignments and grants, and every edge
abbrev pub opening_made : ℕ → List Fluent
opening_made k = map assigned_own (range_with_len 0 k) ++ map granted_own (range_with_len 0 k)
    ++ map (λ n. Edge n) (range_with_len 0 (k - 1))

abbrev pub switched : Bool → ℕ → Event
switched on n = record { on = on; fluent = Enabled (role_at n) }

abbrev pub at_fifty : Bool → ℕ → Prioritised
at_fifty on n = record { prio = 50; event = switched on n }

-- what switches a role switches the next one so at once
abbrev pub passed_on : Bool → ℕ → TriggerView
passed_on on n = record {
  events = switched on n ∷ [];
  signals = [];
  conds = [];
  settled = [];
  head = at_fifty on (n + 1);
  delay = 0;
}

abbrev pub passed_both : ℕ → List TriggerView
passed_both n = passed_on true n ∷ passed_on false n ∷ []

-- the first role is on within the hours
abbrev pub first_on : PeriodicEntry
first_on = record { form = Span; period = record { 0 = 0 }; head = at_fifty true 0 }

abbrev pub policy_of_made : ℕ → Policy
policy_of_made k = record {
  roles = k;
  users = k;
  perms = k;
  periods = office_hours ∷ [];
  limits = [];
  edges = map edge_down (range_with_len 0 (k - 1));
  caps = map (λ _. no_caps) (range_with_len 0 k);
  admins = record { 0 = 0 } ∷ [];
  opening = set_of_rising (opening_made k);
  entries = first_on ∷ [];
  triggers = flat_map passed_both (range_with_len 0 (k - 1));
}

abbrev pub made_of : ℕ → NamedPolicy
made_of k = record { names = names_of_made k; policy = policy_of_made k }

-- the policy of a size
abbrev pub made_policy : ℕ → NamedPolicy
made_policy size = made_of (count_of size)
