-- What a contract sees of a line's saying: the room of its list is left out.
use Rattle.policy_words.specs.declared.sayings.Said.{Said}
use Rattle.policy_words.specs.declared.sayings.Said.TheVariants.{Version, Role, User, Perm, Period, Limit, Edge, Cap, Admin, Opening, Entry, When}
use Rattle.policy_words.specs.Sayings.{SaidView, version, role, user, perm, period, limit, edge, cap, admin, opening, entry, trigger}

abbrev pub seen_said : Said → SaidView
seen_said (Version n) = version n
seen_said (Role n) = role n
seen_said (User n) = user n
seen_said (Perm n) = perm n
seen_said (Period name first last expr) = period name first last expr
seen_said (Limit name prio c most during) = limit name prio c most during
seen_said (Edge kind strong senior junior) = edge kind strong senior junior
seen_said (Cap kind r n) = cap kind r n
seen_said (Admin u) = admin u
seen_said (Opening f) = opening f
seen_said (Entry f p h) = entry f p h
seen_said (When items head delay) = trigger items.items head delay
