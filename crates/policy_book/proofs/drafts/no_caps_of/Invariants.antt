use Rattle.std.proofs.Common.{◌≡◌, replicate}
use Rattle.policy_words.specs.CapKinds.{no_caps}
use Rattle.policy_book.proofs.drafts.no_caps_of.Given as goal

abbrev pub invariant-loop : goal.invariant-loop
invariant-loop l = l.caps.items ≡ replicate l.counter no_caps
