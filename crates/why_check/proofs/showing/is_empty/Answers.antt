use Rattle.std.proofs.Common.{refl}
use Rattle.why_check.proofs.Shown.{empty_by_test}
use Rattle.why_check.proofs.showing.is_empty.Goals as goal

pub returns : goal.returns
returns c = empty_by_test c.args.base.now.set c.has_something.result _ refl c.has_something.ensures
