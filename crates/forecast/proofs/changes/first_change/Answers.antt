use Rattle.std.proofs.Common.{ℕ, List, [], Option, sym, ap, subst, ◌∙◌}
use Rattle.gt_base.specs.declared.policies.HierEdge.{HierEdge}
use Rattle.gtrbac_model.specs.Sessions.{Table}
use Rattle.history_laws.proofs.Reading.{legal_onward, reaches}
use Rattle.hybrid_hierarchy.specs.Nets.{IsHierarchy}
use Rattle.hybrid_hierarchy.proofs.PolicyEdges.{hierarchy_of}
use Rattle.instant_bases.specs.Timelines.{TimelineView}
use Rattle.policy_words.specs.Naming.{NamedPolicy}
use Rattle.session_table.specs.Tables.{NotBefore}
use Rattle.core_machine.specs.Books.{IsTableIn, model_in, now_in}
use Rattle.forecast.specs.Going.{IsOnWay}
use Rattle.forecast.proofs.Agreeing.{begins}
use Rattle.forecast.proofs.Existing.{ahead_is_one}
use Rattle.forecast.proofs.Unraised.{unraised_stays}
use Rattle.forecast.proofs.changes.first_change.Goals as goal

pub returns-in_err-line-clause-one : goal.returns-in_err-line-clause-one
returns-in_err-line-clause-one c = let b = c.args.book.now in ahead_is_one b.named.policy c.keeps.ensures.safe b.birth b.entries c.args.upto

pub returns-in_err-table-clause-one : goal.returns-in_err-table-clause-one
returns-in_err-table-clause-one c = let b = c.args.book.now in ahead_is_one b.named.policy c.keeps.ensures.safe b.birth b.entries c.args.upto

pub returns-in_err-hierarchy-clause-one : goal.returns-in_err-hierarchy-clause-one
returns-in_err-hierarchy-clause-one c = let b = c.args.book.now in ahead_is_one b.named.policy c.keeps.ensures.safe b.birth b.entries c.args.upto

pub new-requires : goal.new-requires
new-requires c =
    subst (λ (es : List HierEdge). IsHierarchy es) (sym (c.edges.ensures ∙ ap (λ (g : NamedPolicy). g.policy.edges) c.policy.ensures.value)) (hierarchy_of c.args.book.now.named.policy c.keeps.ensures.kept.well.policy)

pub walk-requires-clause-way : goal.walk-requires-clause-way
walk-requires-clause-way c =
    let b = c.args.book.now in
    subst (λ (v : TimelineView). IsOnWay b v c.in_ok-table.table) (sym c.in_ok-line.ensures)
    (begins b c.timeline-timeline.result.now.line c.in_ok-table.table c.keeps-2.ensures c.timeline-timeline.ensures.trace c.timeline-timeline.ensures.follows c.timeline-timeline.ensures.waiting
    (subst (λ (t : Table). IsTableIn b t) (sym c.in_ok-table.ensures.table) c.sessions.ensures.table)
    (subst (λ (o : Option ℕ). NotBefore o (now_in b)) (sym c.in_ok-table.ensures.charged_to) c.sessions.ensures.charged)
    c.keeps.ensures.kept.legal)

pub returns-clause-one : goal.returns-clause-one
returns-clause-one c = let b = c.args.book.now in ahead_is_one b.named.policy c.keeps.ensures.safe b.birth b.entries c.args.upto

pub returns-then-not-is_raised-clause-first : goal.returns-then-not-is_raised-clause-first
returns-then-not-is_raised-clause-first c =
    let b = c.args.book.now in
    unraised_stays b.named.policy c.keeps.ensures.safe c.keeps.ensures.kept.well.policy b.birth b.entries c.args.f c.args.upto
    (reaches b.birth b.entries (legal_onward b.named.policy b.birth (model_in b) [] b.entries c.keeps.ensures.kept.legal.steps)) c.requires
    (sym c.is_raised.ensures ∙ c.if-not-is_raised.true)

pub returns-then-not-is_raised-clause-one : goal.returns-then-not-is_raised-clause-one
returns-then-not-is_raised-clause-one c = let b = c.args.book.now in ahead_is_one b.named.policy c.keeps.ensures.safe b.birth b.entries c.args.upto
