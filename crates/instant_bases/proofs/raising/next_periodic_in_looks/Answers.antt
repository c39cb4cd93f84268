use Rattle.std.proofs.Common.{List, flat_map, subst, arith}
use Rattle.std.proofs.lemmas.List.{take_all}
use Rattle.gt_base.specs.declared.policies.PeriodicEntry.{PeriodicEntry}
use Rattle.gtrbac_model.specs.Base.{raised_by}
use Rattle.gtrbac_model.specs.History.{is_some_item}
use Rattle.instant_bases.specs.Nexts.{IsNextOf, raises}
use Rattle.instant_bases.proofs.Nexts.{some_more}
use Rattle.instant_bases.proofs.raising.next_periodic_in_looks.Goals as goal

pub loop-e-preserved : goal.loop-e-preserved
loop-e-preserved g c = record {
  next =
      some_more (raised_by c.args.periods.now c.args.birth) c.args.entries.now c.loop-e.e-index c.e-item.result c.loop-e-test.true c.args.now c.earlier-next.result
      (c.earlier-next.ensures _ _ c.args.now c.loop-e.invariant.next
      (subst (λ (e : PeriodicEntry). IsNextOf (raises c.args.periods.now c.args.birth e) c.args.now c.next_entry.result) c.e-item.is c.next_entry.ensures.next));
  within = let low = c.loop-e-test.true in omega (arith, low);
  cost = let so_far = c.loop-e.invariant.cost in let more = c.next_entry.ensures.cost in omega (arith, so_far, more);
}

pub returns-clause-next : goal.returns-clause-next
returns-clause-next g c =
    subst (λ (es : List PeriodicEntry). IsNextOf (λ t. is_some_item (flat_map (raised_by c.args.periods.now c.args.birth t) es)) c.args.now c.loop-e.next)
    (take_all c.loop-e.e-index c.args.entries.now c.loop-e-test.false) c.loop-e.invariant.next

pub returns-clause-cost : goal.returns-clause-cost
returns-clause-cost g c = let so_far = c.loop-e.invariant.cost in let within = c.loop-e.invariant.within in omega (arith, so_far, within)
