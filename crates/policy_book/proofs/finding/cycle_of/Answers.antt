use Rattle.std.proofs.Common.{sym, subst}
use Rattle.safety_cycle.specs.declared.strata.Verdict.TheVariants.{Cycle}
use Rattle.safety_cycle.specs.Judged.{IsStratified, IsVerdict}
use Rattle.policy_book.proofs.Carrying.{found, none_found}
use Rattle.policy_book.proofs.finding.cycle_of.Goals as goal

pub returns-in-Ok : goal.returns-in-Ok
returns-in-Ok c = sym (none_found c.args.edges.now c.args.roles c.in-Ok.field-0 (subst (λ g. IsStratified g c.in-Ok.field-0) c.in_ok-graph.ensures c.in-Ok.ensures.ok))

pub returns-in-Err-Cycle : goal.returns-in-Err-Cycle
returns-in-Err-Cycle c =
    let told = subst (λ v. IsVerdict c.in_ok-graph.graph v) c.in-Err-Cycle.field-0-is c.in-Err-Cycle.ensures.cycle in
    sym (found c.args.edges.now c.args.roles c.in-Err-Cycle.edges (subst (λ g. IsVerdict g (Cycle c.in-Err-Cycle.edges)) c.in_ok-graph.ensures told))
