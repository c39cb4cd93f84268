use Rattle.std.proofs.Common.{◌≡◌, ◌≤◌, slice_index, Some, subst, lt_of_lt_of_le}
use borrow.Author.Count.{below_more}
use Rattle.gtrbac_model.specs.Graph.{item_at}
use Rattle.least_walk.proofs.Items.{item_within, item_read, one_item}
use Rattle.safety_cycle.proofs.judging.never_fall.Goals as goal

pub bounds-ranks-e : goal.bounds-ranks-e
bounds-ranks-e c = (c.requires _ _ (item_read c.args.edges.now c.loop-e.e-index _ c.loop-e-test.true)).from_in

pub bounds-ranks-e-in-loop-e : goal.bounds-ranks-e-in-loop-e
bounds-ranks-e-in-loop-e c = (c.requires _ _ (item_read c.args.edges.now c.loop-e.e-index _ c.loop-e-test.true)).to_in

pub loop-e-preserved : goal.loop-e-preserved
loop-e-preserved c m e h =
    let edges = c.args.edges.now in
    let ranks = c.args.ranks.now in
    below_more (λ k. item_at edges k ≡ Some e → slice_index ranks e.from ≤ slice_index ranks e.to) c.loop-e.e-index (λ k q. c.loop-e.invariant k e q)
    (λ is. subst (λ x. slice_index ranks x.from ≤ slice_index ranks x.to) (one_item edges c.loop-e.e-index _ e (item_read edges c.loop-e.e-index _ c.loop-e-test.true) is) c.if-ranks-e.false)
    m h

pub returns : goal.returns
returns c told n e is = c.loop-e.invariant n e (lt_of_lt_of_le (item_within c.args.edges.now n e is) c.loop-e-test.false) is
