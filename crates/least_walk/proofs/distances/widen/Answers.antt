use Rattle.std.proofs.Common.{◌≡◌, ℕ, ◌+◌, ◌<◌, List, true, length, Some, slice_index, slice_index_or, slice_set, sym, ◌∙◌, ap, subst, arith}
use Rattle.std.proofs.lemmas.Bool.{false≢true}
use Rattle.gtrbac_model.specs.Graph.{item_at}
use Rattle.least_walk.specs.declared.graphs.GraphEdge.{GraphEdge}
use Rattle.least_walk.specs.Chains.{AreChains, IsLast, ends}
use Rattle.least_walk.specs.Distances.{unreached, NearBy}
use Rattle.least_walk.proofs.Items.{item_read, any_default}
use Rattle.least_walk.proofs.Chaining.{IsEdgeOf, begun_at, link_of, goes_down, edge_at, edge_of}
use Rattle.least_walk.proofs.Spreading.{Widened, widened_start, widened_skip, widened_found, widened_end, near_already, length_ends}
use Rattle.least_walk.proofs.distances.widen.Goals as goal
use Rattle.least_walk.proofs.distances.widen.Goals.{then-dist-from+then-may_pass+in_ok-push, else-dist-from, else-dist-from-via-then-dist-from+else-may_pass, else-dist-from-via-else-dist-from}

-- the next link, read from the chain
next_link : (edges : List GraphEdge) (last before : List ℕ) (at n m d : ℕ) → AreChains (ends edges) last before → IsEdgeOf (λ e. e.to) edges at n → m ≡ slice_index_or before n d → IsLast (ends edges) at n m
next_link edges last before at n m d chains e is =
    subst (IsLast (ends edges) at n) (sym (is ∙ any_default before n d 0 (omega (arith, e.low, chains.size, length_ends edges)))) (chains.befores n at e.listed)

pub loop-n-init : goal.loop-n-init
loop-n-init g c =
    let edges : List GraphEdge = c.args.edges.now in
    let here : item_at c.args.found.now.items c.args.head ≡ Some c.index-at.result.now = item_read c.args.found.now.items c.args.head c.index-at.result.now c.requires.head ∙ ap Some (sym c.index-at.ensures) in
    let last : IsLast (ends edges) c.index-at.result.now (length (ends edges)) c.last_of-n.result =
    subst (IsLast (ends edges) c.index-at.result.now (length (ends edges))) (sym c.last_of-n.ensures) (begun_at (ends edges) c.args.into.now.last.items c.args.into.now.before.items c.index-at.result.now c.requires.chains) in
    widened_start (g.P.Passable.passes c.args.by.now) edges c.args.goal.now c.args.dist.now c.args.found.now.items c.args.head c.index-at.result.now c.last_of-n.result c.requires.spread here last
    (link_of (ends edges) c.index-at.result.now (length (ends edges)) c.last_of-n.result last) c.requires.edges

pub bounds-edges-n : goal.bounds-edges-n
bounds-edges-n g c = (edge_of (λ e. e.to) c.args.edges.now c.index-at.result.now c.loop-n.n c.loop-n.invariant.link c.loop-n-test.true).low

pub bounds-dist-from : goal.bounds-dist-from
bounds-dist-from g c =
    let e = edge_of (λ e. e.to) c.args.edges.now c.index-at.result.now c.loop-n.n c.loop-n.invariant.link c.loop-n-test.true in
    subst (λ k. (edge_at c.args.edges.now c.loop-n.n).from < k) (sym c.loop-n.invariant.spread.size) (c.requires.ends c.loop-n.n (edge_at c.args.edges.now c.loop-n.n) e.is).from_in

pub bounds-dist-at : goal.bounds-dist-at
bounds-dist-at g c = subst (λ k. c.index-at.result.now < k) (sym c.loop-n.invariant.spread.size) (c.loop-n.invariant.spread.members c.args.head c.index-at.result.now c.loop-n.invariant.here).0

pub index-n-requires : goal.index-n-requires
index-n-requires g c =
    let e = edge_of (λ e. e.to) c.args.edges.now c.index-at.result.now c.loop-n.n c.loop-n.invariant.link c.loop-n-test.true in
    omega (arith, e.low, c.requires.chains.size, length_ends c.args.edges.now, c.args.into.now.before.ok)

pub loop-n-smaller : goal.loop-n-smaller
loop-n-smaller g c =
    let e = edge_of (λ e. e.to) c.args.edges.now c.index-at.result.now c.loop-n.n c.loop-n.invariant.link c.loop-n-test.true in
    goes_down (ends c.args.edges.now) c.index-at.result.now c.loop-n.n c.index-n.result.now (omega (arith, e.low, c.requires.edges))
    (next_link c.args.edges.now c.args.into.now.last.items c.args.into.now.before.items c.index-at.result.now c.loop-n.n c.index-n.result.now c.index-n.result.now c.requires.chains e c.index-n.ensures)

pub loop-n-preserved : goal.loop-n-preserved
loop-n-preserved g c =
    let ok : ℕ → _ = g.P.Passable.passes c.args.by.now in
    let edges : List GraphEdge = c.args.edges.now in
    let at : ℕ = c.index-at.result.now in
    let n : ℕ = c.loop-n.n in
    let e = edge_of (λ e. e.to) edges at n c.loop-n.invariant.link c.loop-n-test.true in
    let last = next_link edges c.args.into.now.last.items c.args.into.now.before.items at n c.index-n.result.now c.index-n.result.now c.requires.chains e c.index-n.ensures in
    let link = link_of (ends edges) at n c.index-n.result.now last in
    let total : ℕ = length c.args.found.now.items + unreached c.args.dist.now in
    let w = c.loop-n.invariant in
    let After : List ℕ → List ℕ → Type 0 = λ ds queue. Widened ok edges c.args.goal.now ds queue c.args.head at c.index-n.result.now total in
    elim c.if-dist-from.branch [
      | then-dist-from+then-may_pass+in_ok-push b ↦
          let inside : (edge_at edges n).from < length c.loop-n.dist = subst (λ k. (edge_at edges n).from < k) (sym w.spread.size) (c.requires.ends n (edge_at edges n) e.is).from_in in
          let found = widened_found ok edges c.args.goal.now c.loop-n.dist c.loop-n.found.items c.args.head at n c.index-n.result.now total c.requires.edges (edge_at edges n) e.is last link
          (sym b.may_pass.ensures ∙ b.if-may_pass.true) inside e.has b.if-dist-from.true (omega (arith, c.requires.few)) w in
          subst (λ ds. After ds c.if-dist-from.found.items) (sym b.dist-is)
          (subst (λ queue. After (slice_set c.loop-n.dist (edge_at edges n).from (slice_index c.loop-n.dist at + 1)) queue) (sym (ap (λ f. f.items) b.found-is ∙ b.in_ok-push.ensures.items)) found)
      | else-dist-from b ↦
          let known : (ok n ≡ true → NearBy c.loop-n.dist (edge_at edges n)) =
          elim b.else-dist-from.branch [
            | else-dist-from-via-then-dist-from+else-may_pass b' ↦ λ on. absurd (false≢true (sym b'.if-may_pass.false ∙ b'.may_pass.ensures ∙ on))
            | else-dist-from-via-else-dist-from b' ↦ λ on. near_already ok edges c.args.goal.now c.loop-n.dist c.loop-n.found.items c.args.head at (edge_at edges n) w.spread w.here e.has b'.if-dist-from.false
          ] in
          let stays = widened_skip ok edges c.args.goal.now c.loop-n.dist c.loop-n.found.items c.args.head at n c.index-n.result.now total c.requires.edges (edge_at edges n) e.is last link known w in
          subst (λ ds. After ds c.if-dist-from.found.items) (sym b.dist-is) (subst (λ queue. After c.loop-n.dist queue) (sym (ap (λ f. f.items) b.found-is)) stays)
    ]

pub returns-clause-spread : goal.returns-clause-spread
returns-clause-spread g c =
    widened_end (g.P.Passable.passes c.args.by.now) c.args.edges.now c.args.goal.now c.loop-n.dist c.loop-n.found.items c.args.head c.index-at.result.now c.loop-n.n (length c.args.found.now.items + unreached c.args.dist.now) c.loop-n-test.false c.loop-n.invariant
