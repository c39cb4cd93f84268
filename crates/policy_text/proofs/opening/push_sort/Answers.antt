use Rattle.std.proofs.Common.{append-nil, sym, refl}
use Rattle.gtrbac_model.specs.WholePolicy.{is_fluent}
use Rattle.policy_text.specs.Sections.{opening_text}
use Rattle.policy_text.proofs.Runs.{next_at, further, passes_at, whole_run}
use Rattle.policy_text.proofs.opening.push_sort.Goals as goal

pub loop-f-init : goal.loop-f-init
loop-f-init c = sym (append-nil _)

pub push_of-requires : goal.push_of-requires
push_of-requires c = passes_at (is_fluent c.args.p.now.policy) c.args.fluents.now c.args.fluents.now c.loop-f.f-index _ c.requires refl c.loop-f-test.true

pub loop-f-preserved : goal.loop-f-preserved
loop-f-preserved c =
    further (opening_text c.args.p.now.names c.args.sort) c.args.fluents.now c.loop-f.f-index _ _ _ _
    (next_at c.args.fluents.now c.args.fluents.now c.loop-f.f-index _ refl c.loop-f-test.true) c.loop-f.invariant c.in_ok-push_of.ensures

pub returns : goal.returns
returns c = whole_run (opening_text c.args.p.now.names c.args.sort) c.args.fluents.now c.args.fluents.now c.loop-f.f-index _ _ refl c.loop-f-test.false c.loop-f.invariant
