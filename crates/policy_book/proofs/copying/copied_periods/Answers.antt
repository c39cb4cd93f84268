use Rattle.std.proofs.Common.{◌∙◌}
use Rattle.std.proofs.lemmas.List.{take_all}
use Rattle.policy_book.proofs.copying.copied_periods.Goals as goal

pub returns : goal.returns
returns c = c.loop-period.invariant ∙ take_all c.loop-period.period-index c.args.periods.now c.loop-period-test.false
