use Rattle.gt_base.proofs.FlagLaws.{not_there, answers}
use Rattle.gt_base.proofs.known.search.Goals as goal

pub returns-in-Err : goal.returns-in-Err
returns-in-Err c =
    not_there c.args.fluents.now c.args.f c.in-Err.field-0 c.requires c.in-Err.ensures.bound (c.in-Err.ensures.position (answers c.args.fluents.now c.args.f c.requires))
