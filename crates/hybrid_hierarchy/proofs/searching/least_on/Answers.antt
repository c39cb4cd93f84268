use Rattle.std.proofs.Common.{◌≡◌, ℕ, ◌+◌, ◌-◌, ◌<◌, ◌≤◌, Bool, List, length, not, Option, Some, None, MatchOption, sym, ◌∙◌, subst, arith}
use Rattle.std.specs.List.{count_by}
use Rattle.gt_base.specs.declared.events.RoleId.{RoleId}
use Rattle.gt_base.specs.declared.policies.HierEdge.{HierEdge}
use Rattle.gtrbac_model.specs.Graph.{Path, IsLeastWalk}
use Rattle.gtrbac_model.specs.Hierarchy.{role_arcs}
use Rattle.least_walk.proofs.Items.{item_within}
use Rattle.hybrid_hierarchy.specs.declared.searching.FoundRole.{FoundRole}
use Rattle.hybrid_hierarchy.specs.Nets.{AreWithin}
use Rattle.hybrid_hierarchy.specs.Searches.{TellsWalks, IsWalkBy, IsGoalBy, roles_of}
use Rattle.hybrid_hierarchy.proofs.Leading.{none_ahead}
use Rattle.hybrid_hierarchy.proofs.Following.{none_seen}
use Rattle.hybrid_hierarchy.proofs.searching.least_on.Goals as goal

the_some : (o : Option ℕ) (P : Type 0) (Q : ℕ → Type 0) (n : ℕ) → o ≡ Some n → MatchOption o P Q → Q n
the_some o P Q n is told = subst (λ o. MatchOption o P Q) is told

the_none : (o : Option ℕ) (P : Type 0) (Q : ℕ → Type 0) → o ≡ None → MatchOption o P Q → P
the_none o P Q is told = subst (λ o. MatchOption o P Q) is told

-- the walk that was told is the least
found_by : (ok : ℕ → HierEdge → Bool) (goals : RoleId → Bool) (es : List HierEdge) (starts : List ℕ) (queue : List FoundRole) (at n : ℕ) (start : RoleId) (edges : List ℕ) → IsGoalBy ok goals es starts queue at n → IsWalkBy queue at n start.0 edges
    → IsLeastWalk (role_arcs ok es) goals (roles_of starts) (record { start = start; arcs = edges })
found_by ok goals es starts queue at n start edges by told =
    let (begin, on) = told by.walks by.stop by.tells by.here in
    subst (λ (w : Path RoleId). IsLeastWalk (role_arcs ok es) goals (roles_of starts) w) (λ i. record { start = record { 0 = sym begin i }; arcs = sym on i }) by.least

less_left : (more unseen found left head : ℕ) → more + unseen ≤ found + left → head < found → more + unseen - (head + 1) < found + left - head
less_left more unseen found left head fewer h = omega arith

pub begun-requires-clause-unmarked : goal.begun-requires-clause-unmarked
begun-requires-clause-unmarked g c = none_seen 1_000

pub begun-requires-clause-starts : goal.begun-requires-clause-starts
begun-requires-clause-starts g c = c.requires.starts

pub begun-requires-clause-no_goals : goal.begun-requires-clause-no_goals
begun-requires-clause-no_goals g c = c.requires.no_goals

pub loop-head-init : goal.loop-head-init
loop-head-init g c = record { size = c.in_ok-queue.ensures.size; searched = c.in_ok-queue.ensures.searched }

pub follow-requires-clause-hierarchy : goal.follow-requires-clause-hierarchy
follow-requires-clause-hierarchy g c = (c.requires.hierarchy.few, subst (λ k. AreWithin k c.args.edges.now) (sym c.loop-head.invariant.size) c.requires.hierarchy.within)

pub follow-requires-clause-searched : goal.follow-requires-clause-searched
follow-requires-clause-searched g c = c.loop-head.invariant.searched

pub walk_by-requires-clause-tells : goal.walk_by-requires-clause-tells
walk_by-requires-clause-tells g c =
    let by : IsGoalBy (g.Q.WalkQuestion.passes c.args.asked.now) (g.Q.WalkQuestion.goals c.args.asked.now) c.args.edges.now c.args.from.now c.follow.new.queue.items c.loop-head.head c.in-Some.n = the_some _ _ _ c.in-Some.n c.in-Some.is c.in_ok-n.ensures.found in
    (by.walks, subst (λ (q : List FoundRole). TellsWalks q by.walks) (sym c.deref.ensures.value) by.tells)

pub walk_by-requires-clause-inside : goal.walk_by-requires-clause-inside
walk_by-requires-clause-inside g c =
    let by : IsGoalBy (g.Q.WalkQuestion.passes c.args.asked.now) (g.Q.WalkQuestion.goals c.args.asked.now) c.args.edges.now c.args.from.now c.follow.new.queue.items c.loop-head.head c.in-Some.n = the_some _ _ _ c.in-Some.n c.in-Some.is c.in_ok-n.ensures.found in
    subst (λ (q : List FoundRole). c.loop-head.head < length q) (sym c.deref.ensures.value) (omega (arith, item_within by.walks c.loop-head.head by.stop by.here, by.tells.size))

pub returns-in-Some : goal.returns-in-Some
returns-in-Some g c =
    let walk = c.in_ok-walk_by.field-0 in
    found_by (g.Q.WalkQuestion.passes c.args.asked.now) (g.Q.WalkQuestion.goals c.args.asked.now) c.args.edges.now c.args.from.now c.follow.new.queue.items c.loop-head.head c.in-Some.n walk.start walk.edges
    (the_some _ _ _ c.in-Some.n c.in-Some.is c.in_ok-n.ensures.found)
    (subst (λ (q : List FoundRole). IsWalkBy q c.loop-head.head c.in-Some.n walk.start.0 walk.edges) c.deref.ensures.value c.in_ok-walk_by.ensures)

pub loop-head-smaller : goal.loop-head-smaller
loop-head-smaller g c =
    let inside : c.loop-head.head < length c.loop-head.queue.items = omega (arith, c.loop-head-test.true, c.len.ensures, c.loop-head.queue.ok) in
    less_left (length c.follow.new.queue.items) (count_by not c.follow.new.seen) (length c.loop-head.queue.items) (count_by not c.loop-head.seen) c.loop-head.head c.in_ok-n.ensures.fewer inside

pub loop-head-preserved : goal.loop-head-preserved
loop-head-preserved g c =
    record {
      size = c.in_ok-n.ensures.size ∙ c.loop-head.invariant.size;
      searched = the_none _ _ _ c.in_default.is c.in_ok-n.ensures.found;
    }

pub returns : goal.returns
returns g c =
    let (ws, w) = c.loop-head.invariant.searched in
    none_ahead (g.Q.WalkQuestion.passes c.args.asked.now) (g.Q.WalkQuestion.goals c.args.asked.now) c.args.edges.now c.args.from.now c.loop-head.seen c.loop-head.queue.items ws c.loop-head.head 0 w
    (omega (arith, c.loop-head-test.false, c.len.ensures, c.loop-head.queue.ok))
