use Rattle.gtrbac_model.specs.Base.{raised_by}
use Rattle.instant_bases.proofs.Copying.{part_more, parts_all}
use Rattle.instant_bases.proofs.raising.push_periodic.Goals as goal

pub loop-e-preserved : goal.loop-e-preserved
loop-e-preserved c =
    part_more (raised_by c.args.periods.now c.args.birth c.args.t) c.args.raised.now.items c.loop-e.raised.items c.push_entry.new.raised.items c.args.entries.now c.loop-e.e-index c.e-item.result c.loop-e-test.true c.e-item.is c.in_ok-push_entry.ensures c.loop-e.invariant

pub returns : goal.returns
returns c = parts_all (raised_by c.args.periods.now c.args.birth c.args.t) c.args.raised.now.items c.loop-e.raised.items c.args.entries.now c.loop-e.e-index c.loop-e-test.false c.loop-e.invariant
