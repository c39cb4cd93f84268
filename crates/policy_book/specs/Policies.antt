-- What a contract sees of a policy, and what each policy keeps.
use Rattle.std.specs.Prelude.{length}
use Rattle.policy_words.specs.Naming.{NamedPolicy}
use Rattle.policy_book.specs.Seen.{seen_names}
use Rattle.policy_book.specs.declared.books.Policy.TheInside.{Inside}

abbrev pub seen_policy : Inside → NamedPolicy
seen_policy p = record {
  names = seen_names p.names;
  policy = record {
    roles = length p.names.roles;
    users = length p.names.users;
    perms = length p.names.perms;
    periods = p.periods.items;
    limits = p.limits.items;
    edges = p.edges.items;
    caps = p.caps.items;
    admins = p.admins.items;
    opening = p.opening.set;
    entries = p.entries.items;
    triggers = p.triggers.items;
  };
}
