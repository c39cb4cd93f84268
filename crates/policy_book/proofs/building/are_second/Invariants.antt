use Rattle.std.proofs.Common.{◌≡◌, drop}
use Rattle.policy_words.specs.Making.{are_second}
use Rattle.policy_words.specs.LinesTogether.{said_in}
use Rattle.policy_book.proofs.building.are_second.Given as goal

abbrev pub invariant-loop-part : goal.invariant-loop-part
invariant-loop-part l = are_second (said_in (drop l.part-index l.parts)) ≡ are_second (said_in l.parts)
