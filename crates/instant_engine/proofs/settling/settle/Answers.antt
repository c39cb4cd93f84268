use Rattle.std.proofs.Common.{sym, ◌∙◌}
use Rattle.instant_engine.proofs.settling.settle.Goals as goal

pub returns-clause-only : goal.returns-clause-only
returns-clause-only c = λ y is. c.in_ok-x.ensures.only y is ∙ sym c.into_set.ensures
