use Rattle.gt_base.proofs.FlagLaws.{only_grant}
use Rattle.gt_base.proofs.known.only_at.Goals as goal

pub returns-then-is_last-clause-alone : goal.returns-then-is_last-clause-alone
returns-then-is_last-clause-alone c =
    only_grant c.args.fluents.now c.args.perm c.in_ok-role.role c.args.at c.requires c.in_ok-role.ensures.0 c.in_ok-role.ensures.1 (c.is_first.ensures c.if-is_first.true) (c.is_last.ensures c.if-is_last.true)
