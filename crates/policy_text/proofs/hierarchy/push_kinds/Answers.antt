use Rattle.std.proofs.Common.{append-nil, sym, refl}
use Rattle.policy_text.specs.Sections.{kind_text}
use Rattle.policy_text.proofs.Runs.{next_at, further, whole_run}
use Rattle.policy_text.proofs.hierarchy.push_kinds.Goals as goal

pub loop-kind-init : goal.loop-kind-init
loop-kind-init c = sym (append-nil _)

pub loop-kind-preserved : goal.loop-kind-preserved
loop-kind-preserved c =
    further (kind_text c.args.p.now.names (c.args.r.0, c.args.caps)) c.args.kinds.now c.loop-kind.kind-index _ _ _ _
    (next_at c.args.kinds.now c.args.kinds.now c.loop-kind.kind-index _ refl c.loop-kind-test.true) c.loop-kind.invariant (rw c.of.ensures at c.in_ok-push_cap.ensures)

pub returns : goal.returns
returns c = whole_run (kind_text c.args.p.now.names (c.args.r.0, c.args.caps)) c.args.kinds.now c.args.kinds.now c.loop-kind.kind-index _ _ refl c.loop-kind-test.false c.loop-kind.invariant
