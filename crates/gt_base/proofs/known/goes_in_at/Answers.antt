use Rattle.gt_base.proofs.FlagLaws.{gap}
use Rattle.gt_base.proofs.known.goes_in_at.Goals as goal

pub returns : goal.returns
returns c h = gap c.args.fluents.now c.args.f c.args.at c.requires (c.is_after.ensures c.if-not-is_after.false) (c.is_before.ensures h)
