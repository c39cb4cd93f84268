use Rattle.std.proofs.Common.{◌∙◌}
use Rattle.std.proofs.lemmas.List.{take_all}
use Rattle.policy_book.proofs.copying.copied_triggers.Goals as goal

pub returns : goal.returns
returns c = c.loop-trigger.invariant ∙ take_all c.loop-trigger.trigger-index c.args.triggers.now c.loop-trigger-test.false
