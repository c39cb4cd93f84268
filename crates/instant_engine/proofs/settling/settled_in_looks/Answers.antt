use Rattle.std.proofs.Common.{ℕ, ◌≡◌, ◌+◌, ◌<◌, ◌≤◌, slice_index, sym, subst, arith}
use Rattle.gt_base.specs.Sets.{has}
use Rattle.dependency_graph.specs.Carried.{level_in, event_place}
use Rattle.gtrbac_model.proofs.Levels.{by_trigger}
use Rattle.instant_engine.specs.OnTheWay.{IsSettledBelow}
use Rattle.instant_engine.specs.Counted.{most_looks}
use Rattle.instant_engine.proofs.Climbing.{at_first, settles}
use Rattle.instant_engine.proofs.Waking.{spent_more, spent_most}
use Rattle.instant_engine.proofs.settling.settled_in_looks.Goals as goal

lower : (a b n : ℕ) → a < b → b ≤ n → a < n
lower a b n p q = omega arith

pub loop-n-init : goal.loop-n-init
loop-n-init g c =
    let s = has c.args.before.now.set in
    let level = level_in c.args.by.now.graph.now.events c.args.by.now.strata.now in
    record {
      so_far = subst (λ x. IsSettledBelow c.args.by.now.rules.now c.args.base.now.set s level 0 x) (sym c.in_ok-x.ensures)
          (at_first c.args.by.now.rules.now c.args.base.now.set s level (by_trigger c.args.by.now.rules.now level c.args.by.now.levelled.levelling));
      within = omega arith;
      cost = omega arith;
    }

pub loop-n-preserved : goal.loop-n-preserved
loop-n-preserved g c =
    let level = level_in c.args.by.now.graph.now.events c.args.by.now.strata.now in
    let more = c.in_ok-settle_level.ensures in
    record {
      so_far = more.keeps c.args.base.now.set c.loop-n.invariant.so_far;
      within = let low = c.loop-n-test.true in let end = c.count-n-end.ensures in omega (arith, low, end);
      cost = spent_more c.args.by.now.levels.now.caused c.loop-n.n c.args.by.now.rules.now level c.loop-n.x c.settle_level.new.x c.args.looks.now c.loop-n.looks c.settle_level.new.looks
          c.loop-n.invariant.cost more.grows.0 more.grows.1 more.cost;
    }

pub returns-clause-settled : goal.returns-clause-settled
returns-clause-settled g c =
    let s = has c.args.before.now.set in
    let level = level_in c.args.by.now.graph.now.events c.args.by.now.strata.now in
    (settles c.args.by.now.rules.now c.args.base.now.set s level (by_trigger c.args.by.now.rules.now level c.args.by.now.levelled.levelling) c.loop-n.x c.loop-n.n c.loop-n.invariant.so_far
    (λ e _. lower _ _ _ (subst (λ k. slice_index c.args.by.now.strata.now (event_place c.args.by.now.graph.now.events e) < k) (sym c.count-n-end.ensures) (c.args.by.now.due.above (event_place c.args.by.now.graph.now.events e))) c.loop-n-test.false)).0

pub returns-clause-only : goal.returns-clause-only
returns-clause-only g c = λ y is.
    let s = has c.args.before.now.set in
    let level = level_in c.args.by.now.graph.now.events c.args.by.now.strata.now in
    (settles c.args.by.now.rules.now c.args.base.now.set s level (by_trigger c.args.by.now.rules.now level c.args.by.now.levelled.levelling) c.loop-n.x c.loop-n.n c.loop-n.invariant.so_far
    (λ e _. lower _ _ _ (subst (λ k. slice_index c.args.by.now.strata.now (event_place c.args.by.now.graph.now.events e) < k) (sym c.count-n-end.ensures) (c.args.by.now.due.above (event_place c.args.by.now.graph.now.events e))) c.loop-n-test.false)).1 y is

pub returns-clause-cost : goal.returns-clause-cost
returns-clause-cost g c =
    let level = level_in c.args.by.now.graph.now.events c.args.by.now.strata.now in
    let so_far = c.loop-n.invariant.cost in
    let most = spent_most c.args.by.now.levels.now.caused c.loop-n.n c.args.by.now.rules.now level c.loop-n.x in
    let within = c.loop-n.invariant.within in
    let end = c.count-n-end.ensures in
    let past = c.loop-n-test.false in
    let count : ℕ = c.args.by.now.levels.now.count in
    let same : c.loop-n.n ≡ count = omega (arith, within, end, past) in
    subst (λ (k : ℕ). c.loop-n.looks ≤ c.args.looks.now + most_looks c.args.by.now.levels.now.caused k c.args.by.now.rules.now c.loop-n.x) same (omega (arith, so_far, most))
