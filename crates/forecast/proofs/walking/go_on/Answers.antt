use Rattle.std.proofs.Common.{◌≡◌, sym, ap, subst, ◌∙◌}
use Rattle.gt_base.specs.Sets.{has}
use Rattle.gtrbac_model.specs.WholePolicy.{IsPolicy}
use Rattle.instant_bases.specs.Timelines.{TimelineView}
use Rattle.policy_words.specs.Naming.{NamedPolicy}
use Rattle.session_table.specs.Tables.{table_of, closed_at}
use Rattle.core_machine.specs.Steps.{with_signals}
use Rattle.forecast.proofs.Stepping.{stepped}
use Rattle.forecast.proofs.walking.go_on.Goals as goal

pub returns : goal.returns
returns c =
    let np : NamedPolicy = c.ground-ground.result.now in
    let edges : c.args.hierarchy.now ≡ np.policy.edges = c.requires.hierarchy ∙ ap (λ (g : NamedPolicy). g.policy.edges) (sym c.ground-ground.ensures.value) in
    let caps : c.caps.result.now.items ≡ np.policy.caps = c.caps.ensures ∙ ap (λ (g : NamedPolicy). g.policy.caps) c.policy-policy.ensures in
    let status : c.status.result.now.set ≡ c.close.new.self.line.status = c.status.ensures ∙ ap (λ (v : TimelineView). v.status) c.forget_trace.ensures.line in
    stepped c.args.book.now np c.ground-ground.ensures.value (subst (λ (g : NamedPolicy). IsPolicy g.policy) (sym c.ground-ground.ensures.value) c.keeps.ensures.kept.well.policy)
    c.args.line.now.line c.close.new.self.line c.add_signals.new.line.line c.args.table.now c.end_instants.new.table c.forget_days_before.new.self c.requires.way
    c.args.upto c.stop-to.result c.keeps-2.ensures c.stop-to.ensures c.in_ok-close.ensures.ok
    c.in_ok-signals.signals.items
    (c.in_ok-signals.ensures.table ∙ (λ i. closed_at (edges i) (caps i) (has (status i)) (c.now-now.ensures i) c.stop-to.result (table_of c.args.table.now)))
    c.forget_days_before.ensures.table
    (c.forget_days_before.ensures.charged_to ∙ c.in_ok-signals.ensures.charged_to)
    (c.add_signals.ensures ∙ (λ i. with_signals ((c.in_ok-reserve.ensures.line ∙ c.forget_trace.ensures.line) i) (c.as_slice.ensures i)))
