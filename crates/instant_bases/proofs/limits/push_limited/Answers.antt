use Rattle.std.proofs.Common.{ℕ, Bool, ◌++◌, List, take, sym, ◌∙◌, ap, append_assoc}
use Rattle.gt_base.specs.declared.events.Fluent.{Fluent}
use Rattle.gt_base.specs.declared.events.Prioritised.{Prioritised}
use Rattle.gt_base.specs.declared.policies.LimitRule.{LimitRule}
use Rattle.gt_base.specs.Sets.{has}
use Rattle.gtrbac_model.specs.Base.{limited_from, is_ripe, when}
use Rattle.duration_limits.specs.Since.{since_in}
use Rattle.instant_bases.specs.Nexts.{ending}
use Rattle.instant_bases.proofs.Joining.{limited_more}
use Rattle.instant_bases.proofs.limits.push_limited.Goals as goal

pub loop-n-preserved : goal.loop-n-preserved
loop-n-preserved c =
    let st : Fluent → Bool = has c.args.status.now.set in
    let since : Fluent → ℕ = since_in c.args.ages.now in
    let d : LimitRule = c.index-limits-n.result in
    let old : List Prioritised = c.args.raised.now.items in
    let so_far : List Prioritised = limited_from c.args.periods.now st since 0 (take c.loop-n.n c.args.limits.now) c.args.t in
    c.in_ok-push_if.ensures
    ∙ (λ i. c.loop-n.invariant i ++ when (c.is_ripe-ripe.ensures i) (c.ended.ensures i))
    ∙ ap (λ (l : LimitRule). (old ++ so_far) ++ when (is_ripe c.args.periods.now st since c.loop-n.n l c.args.t) (ending l)) c.index-limits-n.is
    ∙ append_assoc old so_far _
    ∙ ap (λ xs. old ++ xs) (sym (limited_more c.args.periods.now st since c.args.t c.args.limits.now c.loop-n.n d c.loop-n-test.true))
