use Rattle.std.proofs.Common.{sym, subst, ap, ◌∙◌}
use Rattle.gt_base.specs.Sets.{has}
use Rattle.hybrid_hierarchy.specs.Nets.{IsHierarchy}
use Rattle.session_table.specs.Tables.{table_of, closed_at}
use Rattle.why_check.specs.Kept.{with_signals}
use Rattle.why_check.proofs.Closed.{waiting_so, for_each}
use Rattle.hybrid_hierarchy.proofs.PolicyEdges.{hierarchy_of}
use Rattle.why_check.proofs.closing.ended.Goals as goal

pub end_instants-requires-clause-edges : goal.end_instants-requires-clause-edges
end_instants-requires-clause-edges c = subst IsHierarchy (sym c.edges.ensures) (hierarchy_of c.args.policy.now.policy c.keeps.ensures.policy)

pub returns-clause-table : goal.returns-clause-table
returns-clause-table c =
    waiting_so _ c.from_slice.result (table_of c.end_instants.new.self) _ _ c.from_slice.ensures.items
    (ap (with_signals (table_of c.end_instants.new.self)) c.as_slice.ensures
    ∙ c.in_ok-ended.ensures.table
    ∙ (λ i. closed_at (c.edges.ensures i) (c.caps.ensures i) (has c.args.status.now.set) c.args.present c.args.to (table_of c.args.table.now)))

pub returns-clause-charged : goal.returns-clause-charged
returns-clause-charged c = for_each c.from_slice.result c.in_ok-ended.ensures.charged_to
