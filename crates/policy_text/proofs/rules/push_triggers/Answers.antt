use Rattle.std.proofs.Common.{◌≡◌, append-nil, sym, ◌∙◌}
use Rattle.gtrbac_model.proofs.Elements.{both_true}
use Rattle.gtrbac_model.specs.WholePolicy.{is_rule}
use Rattle.policy_text.specs.Sections.{line_text, trigger_line}
use Rattle.policy_text.proofs.Runs.{item_is, next_listed, further, whole_run}
use Rattle.policy_text.proofs.rules.push_triggers.Goals as goal

pub push_trigger-requires : goal.push_trigger-requires
push_trigger-requires c =
    item_is (is_rule c.args.p.now.policy) c.as_slice-triggers.result.now c.args.p.now.policy.triggers c.loop-trigger.trigger-index c.trigger-item.result
    (both_true _ _ c.keeps.ensures.policy.triggers).1 (c.as_slice-triggers.ensures ∙ c.triggers.ensures) c.loop-trigger-test.true c.trigger-item.is

pub loop-trigger-preserved : goal.loop-trigger-preserved
loop-trigger-preserved c =
    let triggers = c.args.p.now.policy.triggers in
    let same : c.as_slice-triggers.result.now ≡ triggers = c.as_slice-triggers.ensures ∙ c.triggers.ensures in
    let next = next_listed c.as_slice-triggers.result.now triggers c.loop-trigger.trigger-index c.trigger-item.result same c.loop-trigger-test.true c.trigger-item.is in
    further (λ x. line_text (trigger_line c.args.p.now.names x)) triggers c.loop-trigger.trigger-index c.trigger-item.result _ _ _ next c.loop-trigger.invariant c.in_ok-push_trigger.ensures

pub loop-trigger-init : goal.loop-trigger-init
loop-trigger-init c = sym (append-nil _)

pub returns : goal.returns
returns c =
    whole_run (λ x. line_text (trigger_line c.args.p.now.names x)) c.as_slice-triggers.result.now c.args.p.now.policy.triggers c.loop-trigger.trigger-index _ _ (c.as_slice-triggers.ensures ∙ c.triggers.ensures) c.loop-trigger-test.false c.loop-trigger.invariant
