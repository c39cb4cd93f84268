use Rattle.std.proofs.Common.{◌≡◌, ◌<◌, ℕ, ◌+◌, ◌-◌, ◌≤◌, List, map, length, sym, ◌∙◌, subst, arith}
use Rattle.std.specs.Vec.{with_items}
use Rattle.std.proofs.lemmas.List.{with_items_is}
use Rattle.least_walk.specs.Distances.{unreached, start_of, Spread}
use Rattle.least_walk.proofs.Spreading.{spread_start, spread_whole}
use Rattle.least_walk.proofs.distances.distances.Goals as goal

pub loop-head-init : goal.loop-head-init
loop-head-init g c =
    subst (λ ds. Spread (g.P.Passable.passes c.args.by.now) c.args.edges.now c.args.goal.now ds c.in_ok-found.found.items 0) (sym c.in_ok-dist.ensures)
    (subst (λ queue. Spread (g.P.Passable.passes c.args.by.now) c.args.edges.now c.args.goal.now (map start_of c.args.goal.now) queue 0) (sym c.in_ok-found.ensures) (spread_start (g.P.Passable.passes c.args.by.now) c.args.edges.now c.args.goal.now))

pub widen-requires-clause-spread : goal.widen-requires-clause-spread
widen-requires-clause-spread g c =
    subst (λ (ds : List ℕ). Spread (g.P.Passable.passes c.args.by.now) c.args.edges.now c.args.goal.now ds c.loop-head.found.items c.loop-head.head) (sym c.deref_mut.ensures.value) c.loop-head.invariant

less_left : (more left found before head : ℕ) → more + left ≤ found + before → head < found → head + 1 ≤ more → more - (head + 1) + left < found - head + before
less_left more left found before head fewer h inside = omega arith

pub loop-head-smaller : goal.loop-head-smaller
loop-head-smaller g c =
    let inside : c.loop-head.head < length c.loop-head.found.items = omega (arith, c.loop-head-test.true, c.len.ensures, c.loop-head.found.ok) in
    let is : (with_items c.loop-head.dist c.widen.new.dist).items ≡ c.widen.new.dist = with_items_is c.loop-head.dist c.widen.new.dist (c.widen.auto.dist ∙ c.deref_mut.ensures.len) in
    let fewer : length c.widen.new.found.items + unreached c.widen.new.dist ≤ length c.loop-head.found.items + unreached c.loop-head.dist.items =
    subst (λ (ds : List ℕ). length c.widen.new.found.items + unreached c.widen.new.dist ≤ length c.loop-head.found.items + unreached ds) c.deref_mut.ensures.value c.in_ok-widen.ensures.fewer in
    subst (λ (ds : List ℕ). length c.widen.new.found.items - (c.loop-head.head + 1) + unreached ds < length c.loop-head.found.items - c.loop-head.head + unreached c.loop-head.dist.items) (sym is)
    (less_left (length c.widen.new.found.items) (unreached c.widen.new.dist) (length c.loop-head.found.items) (unreached c.loop-head.dist.items) c.loop-head.head fewer inside c.in_ok-widen.ensures.spread.front)

pub loop-head-preserved : goal.loop-head-preserved
loop-head-preserved g c =
    let is : (with_items c.loop-head.dist c.widen.new.dist).items ≡ c.widen.new.dist = with_items_is c.loop-head.dist c.widen.new.dist (c.widen.auto.dist ∙ c.deref_mut.ensures.len) in
    subst (λ (ds : List ℕ). Spread (g.P.Passable.passes c.args.by.now) c.args.edges.now c.args.goal.now ds c.widen.new.found.items (c.loop-head.head + 1)) (sym is) c.in_ok-widen.ensures.spread

pub returns : goal.returns
returns g c = spread_whole (g.P.Passable.passes c.args.by.now) c.args.edges.now c.args.goal.now c.loop-head.dist.items c.loop-head.found.items c.loop-head.head (omega (arith, c.loop-head-test.false, c.len.ensures, c.loop-head.found.ok)) c.requires.ends c.loop-head.invariant
