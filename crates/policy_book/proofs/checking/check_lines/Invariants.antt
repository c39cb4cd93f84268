use Rattle.std.proofs.Common.{◌≡◌, [], drop}
use Rattle.policy_words.specs.LinesTogether.{first_fault}
use Rattle.policy_book.specs.Seen.{seen_names}
use Rattle.policy_book.specs.Tallies.{seen_tally, first_told}
use Rattle.policy_book.proofs.checking.check_lines.Given as goal

-- the lines to come decide, after those so far
abbrev pub invariant-loop-part : goal.invariant-loop-part
invariant-loop-part l = first_told (seen_names l.names) (seen_tally l.tally) (drop l.part-index l.parts) ≡ first_fault (seen_names l.names) [] l.parts
