use Rattle.std.proofs.Common.{◌≡◌, ◌<◌, ◌≤◌, ◌+◌, ℕ, Bool, List, [], ◌∷◌, ◌++◌, length, sym, ◌∙◌, ap, subst, arith, slice_index, append_assoc, append-nil}
use Rattle.least_walk.specs.declared.graphs.GraphEdge.{GraphEdge}
use Rattle.least_walk.specs.Walks.{IsFirstStep, Descends}
use Rattle.least_walk.proofs.Items.{item_within, item_read, one_item}
use Rattle.least_walk.proofs.Chaining.{edge_at}
use Rattle.least_walk.proofs.walking.follow.Goals as goal
use Rattle.least_walk.specs.declared.distances.TheConstants.{FAR}

-- the edge that is read is that of the step
the_edge : (ok : ℕ → Bool) (edges : List GraphEdge) (ds : List ℕ) (v n : ℕ) (step : IsFirstStep ok edges ds v n) → edge_at edges n ≡ step.edge
the_edge ok edges ds v n step = one_item edges n _ step.edge (item_read edges n _ (item_within edges n step.edge step.is)) step.is

pub loop-at-preserved : goal.loop-at-preserved
loop-at-preserved g c =
    let ok : ℕ → Bool = g.P.Passable.passes c.args.by.now in
    let edges = c.args.edges.now in
    let ds = c.args.dist.now in
    let n = c.first_step-n.result in
    let step : IsFirstStep ok edges ds c.loop-at.at n = c.first_step-n.ensures in
    let same : edge_at edges n ≡ step.edge = the_edge ok edges ds c.loop-at.at n step in
    record {
      inside = subst (λ e. e.to < length ds) (sym same) (subst (λ k. step.edge.to < k) (sym c.requires.dist.size) (c.requires.ends n step.edge step.is).to_in);
      reached = subst (λ e. slice_index ds e.to < FAR) (sym same) (below _ _ step.closer c.loop-at.invariant.reached);
      whole = λ rest down.
          subst (λ ns. Descends ok edges ds c.args.start ns)
          (sym (ap (λ ns. ns ++ rest) c.in_ok-push.ensures.ok ∙ append_assoc c.loop-at.numbers (n ∷ []) rest))
          (c.loop-at.invariant.whole (n ∷ rest) (step, subst (λ e. Descends ok edges ds e.to rest) same down));
    }
  where
    below : (a b : ℕ) → a + 1 ≡ b → b < FAR → a < FAR
    below a b p q = omega arith

pub bounds-edges-n : goal.bounds-edges-n
bounds-edges-n g c = item_within c.args.edges.now c.first_step-n.result c.first_step-n.ensures.edge c.first_step-n.ensures.is

pub loop-at-smaller : goal.loop-at-smaller
loop-at-smaller g c =
    let step : IsFirstStep (g.P.Passable.passes c.args.by.now) c.args.edges.now c.args.dist.now c.loop-at.at c.first_step-n.result = c.first_step-n.ensures in
    less _ _ _ step.closer (ap (λ e. slice_index c.args.dist.now e.to) (the_edge _ _ _ _ _ step))
  where
    less : (a b d : ℕ) → a + 1 ≡ b → d ≡ a → d < b
    less a b d p q = omega arith

pub returns : goal.returns
returns g c =
    subst (λ ns. Descends (g.P.Passable.passes c.args.by.now) c.args.edges.now c.args.dist.now c.args.start ns) (append-nil c.loop-at.numbers)
    (c.loop-at.invariant.whole [] (zero_of _ c.loop-at-test.false))
  where
    zero_of : (a : ℕ) → a ≤ 0 → a ≡ 0
    zero_of a h = omega arith
