use Rattle.std.proofs.Common.{append-nil, refl, ap, sym}
use Rattle.gtrbac_model.specs.WholePolicy.{is_fluent}
use Rattle.policy_words.specs.declared.parts.Item.TheVariants.{Settled}
use Rattle.policy_text.specs.Sections.{settled_item}
use Rattle.policy_text.proofs.Runs.{mapped_further, passes_at, whole_map}
use Rattle.policy_text.proofs.rules.add_settled.Goals as goal

pub loop-cond-preserved : goal.loop-cond-preserved
loop-cond-preserved c =
    mapped_further (settled_item c.args.p.now.names) c.args.conds.now c.loop-cond.cond-index _ _ c.args.items.now.items c.loop-cond.items.items _ c.loop-cond-test.true
    (ap (λ x. Settled x) c.named_cond.ensures) c.loop-cond.invariant c.in_ok-add_item.ensures

pub loop-cond-init : goal.loop-cond-init
loop-cond-init c = sym (append-nil _)

pub named_cond-requires : goal.named_cond-requires
named_cond-requires c = passes_at (λ e. is_fluent c.args.p.now.policy e.fluent) c.args.conds.now c.args.conds.now c.loop-cond.cond-index _ c.requires refl c.loop-cond-test.true

pub returns : goal.returns
returns c = whole_map (settled_item c.args.p.now.names) c.args.conds.now c.loop-cond.cond-index c.args.items.now.items _ c.loop-cond-test.false c.loop-cond.invariant
