use Rattle.std.proofs.Common.{List, subst, arith}
use Rattle.std.proofs.lemmas.List.{take_all}
use Rattle.gt_base.specs.declared.policies.LimitRule.{LimitRule}
use Rattle.gt_base.specs.Sets.{has}
use Rattle.gtrbac_model.specs.Base.{is_ripe, limited_from}
use Rattle.gtrbac_model.specs.History.{is_some_item}
use Rattle.duration_limits.specs.Since.{since_in}
use Rattle.instant_bases.specs.Nexts.{IsNextOf}
use Rattle.instant_bases.proofs.Nexts.{limit_more}
use Rattle.instant_bases.proofs.limits.next_limited_in_looks.Goals as goal

pub loop-n-preserved : goal.loop-n-preserved
loop-n-preserved g c = record {
  next =
      limit_more c.args.periods.now (has c.args.status.now.set) (since_in c.args.ages.now) c.args.limits.now c.loop-n.n c.index-limits-n.result c.loop-n-test.true c.args.now c.earlier-next.result
      (c.earlier-next.ensures _ _ c.args.now c.loop-n.invariant.next
      (subst (λ (l : LimitRule). IsNextOf (is_ripe c.args.periods.now (has c.args.status.now.set) (since_in c.args.ages.now) c.loop-n.n l) c.args.now c.next_ripe-ripe.result) c.index-limits-n.is c.next_ripe-ripe.ensures.next));
  within = let low = c.loop-n-test.true in omega (arith, low);
  cost = let so_far = c.loop-n.invariant.cost in let more = c.next_ripe-ripe.ensures.cost in omega (arith, so_far, more);
}

pub returns-clause-next : goal.returns-clause-next
returns-clause-next g c =
    subst (λ (ls : List LimitRule). IsNextOf (λ t. is_some_item (limited_from c.args.periods.now (has c.args.status.now.set) (since_in c.args.ages.now) 0 ls t)) c.args.now c.loop-n.next)
    (take_all c.loop-n.n c.args.limits.now c.loop-n-test.false) c.loop-n.invariant.next

pub returns-clause-cost : goal.returns-clause-cost
returns-clause-cost g c = let so_far = c.loop-n.invariant.cost in let within = c.loop-n.invariant.within in omega (arith, so_far, within)
