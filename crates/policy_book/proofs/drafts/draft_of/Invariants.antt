use Rattle.std.proofs.Common.{◌≡◌}
use Rattle.std.specs.Prelude.{IsTrue}
use Rattle.std.specs.Vec.Iter.{into_iter_items, into_iter_len}
use Rattle.policy_words.specs.Making.{fresh, drafted}
use Rattle.policy_words.specs.LinesTogether.{said_in}
use Rattle.policy_book.specs.Said.{are_sayings}
use Rattle.policy_book.specs.Seen.{seen_names}
use Rattle.policy_book.specs.Drafts.{seen_draft}
use Rattle.policy_book.proofs.drafts.draft_of.Given as goal

-- the lines to come are added to what those so far make
abbrev pub invariant-loop-part : goal.invariant-loop-part
invariant-loop-part l =
    record {
      made : drafted (seen_names l.names) (seen_draft l.draft) (said_in (into_iter_items l.rest)) ≡ drafted (seen_names l.names) (fresh (seen_names l.names)) (said_in l.fn.parts.items);
      said : IsTrue (are_sayings (into_iter_items l.rest));
    }

abbrev pub decreases-loop-part : goal.decreases-loop-part
decreases-loop-part l = into_iter_len l.rest
