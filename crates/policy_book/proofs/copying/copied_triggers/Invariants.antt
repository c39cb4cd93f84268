use Rattle.std.proofs.Common.{◌≡◌, take}
use Rattle.policy_book.proofs.copying.copied_triggers.Given as goal

abbrev pub invariant-loop-trigger : goal.invariant-loop-trigger
invariant-loop-trigger l = l.copies.items ≡ take l.trigger-index l.triggers
