use Rattle.std.proofs.Common.{◌++◌, List, nat_eq, take, flat_map, append_assoc, sym, ◌∙◌, ap}
use Rattle.gt_base.specs.Held.{TriggerView}
use Rattle.gt_base.specs.declared.events.Prioritised.{Prioritised}
use Rattle.gt_base.specs.Sets.{has}
use Rattle.indexmap.specs.IndexMap.{get}
use Rattle.instant_bases.proofs.Joining.{raised_more}
use Rattle.why_check.specs.Kept.{under, joins_at}
use Rattle.why_check.proofs.bases.put_heads.Goals as goal

pub loop-r-preserved : goal.loop-r-preserved
loop-r-preserved c = λ k within.
    let f : TriggerView → List Prioritised = joins_at (has c.args.before.now.set) c.args.x.now c.args.at k in
    let old : List Prioritised = under (get nat_eq c.args.due.now k) (λ v. v.items) in
    let front : List Prioritised = flat_map f (take c.loop-r.r-index c.args.rules.now) in
    c.in_ok-put_head.ensures k within
    ∙ (λ i. c.loop-r.invariant k within i ++ f (c.r-item.is i))
    ∙ append_assoc old front _
    ∙ ap (λ xs. old ++ xs) (sym (raised_more f c.args.rules.now c.loop-r.r-index c.r-item.result c.loop-r-test.true))
