use Rattle.std.proofs.Common.{◌≡◌, ℕ, ◌+◌, ◌<◌, ◌≤◌, List, true, length, slice_index, slice_index_or, sym, ◌∙◌, subst, arith}
use Rattle.std.proofs.lemmas.Bool.{false≢true}
use Rattle.least_walk.specs.declared.graphs.GraphEdge.{GraphEdge}
use Rattle.least_walk.specs.Chains.{AreChains, IsLast, edge_begins}
use Rattle.least_walk.proofs.Items.{any_default}
use Rattle.least_walk.proofs.Chaining.{IsEdgeOf, begun_at, link_of, goes_down, edge_at, edge_of}
use Rattle.least_walk.proofs.Stepping.{Stepped, stepped_start, stepped_skip, stepped_found, stepped_all, one_closer, length_begins}
use Rattle.least_walk.proofs.walking.first_step.Goals as goal
use Rattle.least_walk.proofs.walking.first_step.Goals.{then-dist-edges+then-may_pass, else-dist-edges, else-dist-edges-via-then-dist-edges+else-may_pass, else-dist-edges-via-else-dist-edges}

-- the next link, read from the chain
next_link : (edges : List GraphEdge) (last before : List ℕ) (at n m d : ℕ) → AreChains (edge_begins edges) last before → IsEdgeOf (λ e. e.from) edges at n → m ≡ slice_index_or before n d → IsLast (edge_begins edges) at n m
next_link edges last before at n m d chains e is =
    subst (IsLast (edge_begins edges) at n) (sym (is ∙ any_default before n d 0 (omega (arith, e.low, chains.size, length_begins edges)))) (chains.befores n at e.listed)

pub loop-n-init : goal.loop-n-init
loop-n-init g c =
    let edges : List GraphEdge = c.args.edges.now in
    let last : IsLast (edge_begins edges) c.args.at (length (edge_begins edges)) c.last_of-n.result =
    subst (IsLast (edge_begins edges) c.args.at (length (edge_begins edges))) (sym c.last_of-n.ensures) (begun_at (edge_begins edges) c.args.out.now.last.items c.args.out.now.before.items c.args.at c.requires.chains) in
    stepped_start (g.P.Passable.passes c.args.by.now) edges c.args.dist.now c.args.at c.last_of-n.result last (link_of (edge_begins edges) c.args.at (length (edge_begins edges)) c.last_of-n.result last) c.requires.edges

pub bounds-edges-n : goal.bounds-edges-n
bounds-edges-n g c = (edge_of (λ e. e.from) c.args.edges.now c.args.at c.loop-n.n c.loop-n.invariant.link c.loop-n-test.true).low

pub bounds-dist-edges : goal.bounds-dist-edges
bounds-dist-edges g c =
    let e = edge_of (λ e. e.from) c.args.edges.now c.args.at c.loop-n.n c.loop-n.invariant.link c.loop-n-test.true in
    subst (λ k. (edge_at c.args.edges.now c.loop-n.n).to < k) (sym c.requires.dist.size) (c.requires.ends c.loop-n.n (edge_at c.args.edges.now c.loop-n.n) e.is).to_in

pub index-n-requires : goal.index-n-requires
index-n-requires g c =
    let e = edge_of (λ e. e.from) c.args.edges.now c.args.at c.loop-n.n c.loop-n.invariant.link c.loop-n-test.true in
    omega (arith, e.low, c.requires.chains.size, length_begins c.args.edges.now, c.args.out.now.before.ok)

pub loop-n-smaller : goal.loop-n-smaller
loop-n-smaller g c =
    let e = edge_of (λ e. e.from) c.args.edges.now c.args.at c.loop-n.n c.loop-n.invariant.link c.loop-n-test.true in
    goes_down (edge_begins c.args.edges.now) c.args.at c.loop-n.n c.index-n.result.now (omega (arith, e.low, c.requires.edges))
    (next_link c.args.edges.now c.args.out.now.last.items c.args.out.now.before.items c.args.at c.loop-n.n c.index-n.result.now c.index-n.result.now c.requires.chains e c.index-n.ensures)

pub loop-n-preserved : goal.loop-n-preserved
loop-n-preserved g c =
    let ok : ℕ → _ = g.P.Passable.passes c.args.by.now in
    let edges : List GraphEdge = c.args.edges.now in
    let ds : List ℕ = c.args.dist.now in
    let at : ℕ = c.args.at in
    let n : ℕ = c.loop-n.n in
    let e = edge_of (λ e. e.from) edges at n c.loop-n.invariant.link c.loop-n-test.true in
    let last = next_link edges c.args.out.now.last.items c.args.out.now.before.items at n c.index-n.result.now c.index-n.result.now c.requires.chains e c.index-n.ensures in
    let link = link_of (edge_begins edges) at n c.index-n.result.now last in
    let After : ℕ → Type 0 = λ best. Stepped ok edges ds at c.index-n.result.now best in
    elim c.if-dist-edges.branch [
      | then-dist-edges+then-may_pass b ↦
          let on : ok n ≡ true = sym b.may_pass.ensures ∙ b.if-may_pass.true in
          let closer = one_closer ok edges c.args.goal.now ds n at (edge_at edges n) c.requires.dist e.is on e.has b.if-dist-edges.true in
          subst After (sym b.best-is) (stepped_found ok edges ds at n c.index-n.result.now c.requires.edges (edge_at edges n) e.is last link c.loop-n.best on e.has closer c.loop-n.invariant)
      | else-dist-edges b ↦
          let other : (ok n ≡ true → slice_index ds (edge_at edges n).to + 1 ≡ slice_index ds at → ⊥) =
          elim b.else-dist-edges.branch [
            | else-dist-edges-via-then-dist-edges+else-may_pass b' ↦ λ on closer. false≢true (sym b'.if-may_pass.false ∙ b'.may_pass.ensures ∙ on)
            | else-dist-edges-via-else-dist-edges b' ↦ λ on closer. above _ _ b'.if-dist-edges.false closer
          ] in
          subst After (sym b.best-is) (stepped_skip ok edges ds at n c.index-n.result.now c.requires.edges (edge_at edges n) e.is last link c.loop-n.best other c.loop-n.invariant)
    ]
  where
    above : (f t : ℕ) → f ≤ t → t + 1 ≡ f → ⊥
    above f t p q = omega arith

pub returns : goal.returns
returns g c =
    stepped_all (g.P.Passable.passes c.args.by.now) c.args.edges.now c.args.goal.now c.args.dist.now c.args.at c.loop-n.n c.loop-n.best c.loop-n-test.false c.requires.some c.requires.reached c.requires.dist c.loop-n.invariant
