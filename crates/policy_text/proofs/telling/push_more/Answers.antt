use Rattle.std.proofs.Common.{append-nil, sym, refl}
use Rattle.policy_text.specs.FaultTexts.{with_bar}
use Rattle.policy_text.proofs.Runs.{next_listed, further, whole_run}
use Rattle.policy_text.proofs.telling.push_more.Goals as goal

pub loop-name-init : goal.loop-name-init
loop-name-init c = sym (append-nil _)

pub loop-name-preserved : goal.loop-name-preserved
loop-name-preserved c =
    further with_bar c.args.names.now c.loop-name.name-index c.name-item.result _ _ _
    (next_listed c.args.names.now c.args.names.now c.loop-name.name-index c.name-item.result refl c.loop-name-test.true c.name-item.is) c.loop-name.invariant c.in_ok-push_with_bar.ensures

pub returns : goal.returns
returns c = whole_run with_bar c.args.names.now c.args.names.now c.loop-name.name-index _ _ refl c.loop-name-test.false c.loop-name.invariant
