use Rattle.std.proofs.Common.{◌≡◌, append-nil, sym, ◌∙◌}
use Rattle.gtrbac_model.proofs.Elements.{both_true}
use Rattle.gtrbac_model.specs.WholePolicy.{is_entry}
use Rattle.policy_text.specs.Sections.{line_text, entry_line}
use Rattle.policy_text.proofs.Runs.{item_is, next_listed, further, whole_run}
use Rattle.policy_text.proofs.rules.push_entries.Goals as goal

pub loop-entry-init : goal.loop-entry-init
loop-entry-init c = sym (append-nil _)

pub push_entry-requires : goal.push_entry-requires
push_entry-requires c =
    item_is (is_entry c.args.p.now.policy) c.as_slice-entries.result.now c.args.p.now.policy.entries c.loop-entry.entry-index c.entry-item.result
    (both_true _ _ c.keeps.ensures.policy.entries).1 (c.as_slice-entries.ensures ∙ c.entries.ensures) c.loop-entry-test.true c.entry-item.is

pub loop-entry-preserved : goal.loop-entry-preserved
loop-entry-preserved c =
    let entries = c.args.p.now.policy.entries in
    let same : c.as_slice-entries.result.now ≡ entries = c.as_slice-entries.ensures ∙ c.entries.ensures in
    let next = next_listed c.as_slice-entries.result.now entries c.loop-entry.entry-index c.entry-item.result same c.loop-entry-test.true c.entry-item.is in
    further (λ x. line_text (entry_line c.args.p.now.names x)) entries c.loop-entry.entry-index c.entry-item.result _ _ _ next c.loop-entry.invariant c.in_ok-push_entry.ensures

pub returns : goal.returns
returns c =
    whole_run (λ x. line_text (entry_line c.args.p.now.names x)) c.as_slice-entries.result.now c.args.p.now.policy.entries c.loop-entry.entry-index _ _ (c.as_slice-entries.ensures ∙ c.entries.ensures) c.loop-entry-test.false c.loop-entry.invariant
