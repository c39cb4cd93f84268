-- What a contract sees of a policy in the making.
use Rattle.std.specs.Prelude.{Bool, List, length}
use Rattle.gt_base.specs.declared.events.UserId.{UserId}
use Rattle.gt_base.specs.Happening.{Fluents}
use Rattle.policy_words.specs.Naming.{Names, NamedPolicy}
use Rattle.gtrbac_model.specs.Same.{same_user, same_fluent}
use Rattle.policy_words.specs.Sayings.{SaidView}
use Rattle.policy_words.specs.Making.{DraftView, policy_of, with_item, with_new, limit_said, edge_said, with_caps_said, admin_said, opening_said, entry_said, rule_said}
use Rattle.policy_book.specs.declared.drafts.Draft.{Draft}

abbrev pub seen_draft : Draft → DraftView
seen_draft d = record {
  periods = d.periods.items;
  limits = d.limits.items;
  edges = d.edges.items;
  caps = d.caps.items;
  admins = d.admins.keys;
  on_at_first = d.on_at_first.keys;
  entries = d.entries.items;
  triggers = d.triggers.items;
}

-- with what a line says but for its period
abbrev pub adding_numbers : Names → DraftView → SaidView → DraftView
adding_numbers ns d s = record {
  periods = d.periods;
  limits = with_item (limit_said ns s) d.limits;
  edges = with_item (edge_said ns s) d.edges;
  caps = with_caps_said ns s d.caps;
  admins = with_new same_user (admin_said ns s) d.admins;
  on_at_first = with_new same_fluent (opening_said ns s) d.on_at_first;
  entries = with_item (entry_said ns s) d.entries;
  triggers = with_item (rule_said ns s) d.triggers;
}

-- the policy that a finished draft makes in version 2, or else 1, with its names
abbrev pub made_policy : Names → Bool → DraftView → NamedPolicy
made_policy ns second d = record { names = ns; policy = policy_of ns second d }

-- the policy of a draft's rules with these names, administrators and what is on at first
abbrev pub policy_with : Names → DraftView → List UserId → Fluents → NamedPolicy
policy_with ns d admins opening = record {
  names = ns;
  policy = record {
    roles = length ns.roles;
    users = length ns.users;
    perms = length ns.perms;
    periods = d.periods;
    limits = d.limits;
    edges = d.edges;
    caps = d.caps;
    admins = admins;
    opening = opening;
    entries = d.entries;
    triggers = d.triggers;
  };
}
