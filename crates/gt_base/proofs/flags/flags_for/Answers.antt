use Rattle.std.proofs.Common.{map, ap, ◌∙◌}
use Rattle.std.proofs.lemmas.List.{take_all}
use Rattle.gt_base.specs.Sets.{has}
use Rattle.gt_base.specs.Flags.{set_of_parts}
use Rattle.gt_base.proofs.Loops.{mapped_more}
use Rattle.gt_base.proofs.flags.flags_for.Goals as goal

pub loop-f-preserved : goal.loop-f-preserved
loop-f-preserved c =
    mapped_more (has (set_of_parts c.args.flags.now c.args.more.now)) c.args.fluents.now c.loop-f.f-index _ c.is_on_in.result c.loop-f.on.items c.push.new.self.items c.loop-f-test.true c.is_on_in.ensures
    c.loop-f.invariant c.in_ok-push.ensures.items

pub returns : goal.returns
returns c = c.loop-f.invariant ∙ ap (map (has (set_of_parts c.args.flags.now c.args.more.now))) (take_all c.loop-f.f-index c.args.fluents.now c.loop-f-test.false)
