-- What a contract sees of names and policies.
use Rattle.policy_words.specs.Naming.{Names}
use Rattle.policy_book.specs.declared.names.NameTables.{NameTables}

abbrev pub seen_names : NameTables → Names
seen_names t = record {
  roles = t.roles;
  users = t.users;
  perms = t.perms;
  periods = t.periods;
  limits = t.limits;
  edges = t.edges;
}
