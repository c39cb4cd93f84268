use Rattle.std.proofs.Common.{◌∙◌, ap}
use Rattle.gt_base.specs.Sets.{set_of, with_member}
use Rattle.gt_base.specs.Orders.{signal_cmp}
use Rattle.time_engine.proofs.SignalSets.{set_of_more}
use Rattle.time_engine.proofs.waiting.Waiting.add.Goals as goal

pub returns-clause-set : goal.returns-clause-set
returns-clause-set c = ap (set_of {R = signal_cmp}) c.in-Ok.ensures.items ∙ set_of_more c.self.inside.signals.items c.args.s ∙ ap (λ v. with_member v.set c.args.s) c.self.view_is
