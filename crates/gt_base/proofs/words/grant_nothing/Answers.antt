use Rattle.std.proofs.Common.{sym, ◌∙◌}
use Rattle.gt_base.proofs.FlagLaws.{no_grants, off_of}
use Rattle.gt_base.proofs.words.grant_nothing.Goals as goal

pub returns : goal.returns
returns c e p r = no_grants p r c.args.words.now (sym c.has_perms.ensures ∙ off_of c.has_perms.result e)
