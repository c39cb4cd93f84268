use Rattle.std.proofs.Common.{◌≡◌, drop}
use Rattle.policy_words.specs.Making.{names_in as naming_all, names_of}
use Rattle.policy_words.specs.LinesTogether.{said_in}
use Rattle.policy_book.specs.Seen.{seen_names}
use Rattle.policy_book.proofs.names.names_in.Given as goal

-- the names so far and those of the lines to come are all
abbrev pub invariant-loop-part : goal.invariant-loop-part
invariant-loop-part l = naming_all (seen_names l.names) (said_in (drop l.part-index l.parts)) ≡ names_of (said_in l.parts)
