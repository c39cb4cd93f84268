-- The lists of a policy, out of its draft.
use Rattle.policy_words.specs.Making.{names_of, fresh}
use Rattle.policy_book.proofs.DraftedLines.{drafted_periods, drafted_limits, drafted_edges, drafted_entries, drafted_triggers}
use Rattle.text_laws.specs.Made.{PoliciesAreMade}
use Rattle.text_laws.proofs.MadeCaps.{rows_said, caps_said}
use Rattle.text_laws.proofs.MadeSets.{admins_said, opening_is_said}

pub policies_are_made : PoliciesAreMade
policies_are_made ss = record {
  periods = drafted_periods (names_of ss) (fresh (names_of ss)) ss;
  limits = drafted_limits (names_of ss) (fresh (names_of ss)) ss;
  edges = drafted_edges (names_of ss) (fresh (names_of ss)) ss;
  entries = drafted_entries (names_of ss) (fresh (names_of ss)) ss;
  triggers = drafted_triggers (names_of ss) (fresh (names_of ss)) ss;
  rows = rows_said (names_of ss) ss;
  caps = caps_said (names_of ss) ss;
  admins = admins_said (names_of ss) ss;
  opening = opening_is_said (names_of ss) ss;
}
