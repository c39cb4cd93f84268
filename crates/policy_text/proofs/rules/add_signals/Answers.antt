use Rattle.std.proofs.Common.{append-nil, refl, ap, sym}
use Rattle.gtrbac_model.specs.WholePolicy.{is_signal}
use Rattle.policy_words.specs.declared.parts.Item.TheVariants.{Signal}
use Rattle.policy_text.specs.Sections.{signal_item}
use Rattle.policy_text.proofs.Runs.{mapped_further, passes_at, whole_map}
use Rattle.policy_text.proofs.rules.add_signals.Goals as goal

pub loop-signal-preserved : goal.loop-signal-preserved
loop-signal-preserved c =
    mapped_further (signal_item c.args.p.now.names) c.args.signals.now c.loop-signal.signal-index _ _ c.args.items.now.items c.loop-signal.items.items _ c.loop-signal-test.true
    (ap (λ x. Signal x) c.named_signal.ensures) c.loop-signal.invariant c.in_ok-add_item.ensures

pub loop-signal-init : goal.loop-signal-init
loop-signal-init c = sym (append-nil _)

pub named_signal-requires : goal.named_signal-requires
named_signal-requires c = passes_at (is_signal c.args.p.now.policy) c.args.signals.now c.args.signals.now c.loop-signal.signal-index _ c.requires refl c.loop-signal-test.true

pub returns : goal.returns
returns c = whole_map (signal_item c.args.p.now.names) c.args.signals.now c.loop-signal.signal-index c.args.items.now.items _ c.loop-signal-test.false c.loop-signal.invariant
