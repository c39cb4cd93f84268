use Rattle.std.proofs.Common.{◌∙◌}
use Rattle.gt_base.specs.Sets.{has}
use Rattle.why_check.proofs.Closed.{joined}
use Rattle.why_check.proofs.closing.put_delayed.Goals as goal

pub returns : goal.returns
returns c =
    joined c.put_heads.result _ _ (has c.args.before.now.set) c.args.x.now c.args.at _ c.args.policy.now.policy.triggers c.put_heads.ensures
    (c.as_slice.ensures ∙ c.triggers.ensures)
