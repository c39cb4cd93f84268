use Rattle.std.proofs.Common.{◌≡◌, ℕ, Bool, ◌+◌, ◌<◌, ◌≤◌, List, length, slice_set, true, not, refl, sym, ◌∙◌, ap, subst, arith}
use Rattle.std.specs.List.{count_by}
use Rattle.std.proofs.lemmas.Bool.{false≢true}
use Rattle.std.proofs.lemmas.List.{length-set}
use Rattle.gt_base.specs.declared.events.RoleId.{RoleId}
use Rattle.gt_base.specs.declared.policies.HierEdge.{HierEdge}
use Rattle.hybrid_hierarchy.specs.declared.searching.FoundRole.{FoundRole}
use Rattle.hybrid_hierarchy.specs.Searches.{is_seen, Following}
use Rattle.walk_laws.proofs.Roles.{one_role}
use Rattle.hybrid_hierarchy.proofs.Seeking.{grown}
use Rattle.hybrid_hierarchy.proofs.Following.{edge_at, edge_of, fewer_unseen, following_start, goes_up, following_skip, following_found, following_end, following_goal, following_none}
use Rattle.hybrid_hierarchy.proofs.searching.follow.Goals as goal
use Rattle.hybrid_hierarchy.proofs.searching.follow.Goals.{then-not-seen-junior+then-may_pass+else-is_goal+in_ok-push, else-not-seen-junior, else-not-seen-junior-via-then-not-seen-junior+else-may_pass, else-not-seen-junior-via-else-not-seen-junior}

pub loop-n-init : goal.loop-n-init
loop-n-init g c =
    record {
      size = refl;
      fewer = omega arith;
      following = following_start (g.Q.WalkQuestion.passes c.args.asked.now) (g.Q.WalkQuestion.goals c.args.asked.now) c.args.edges.now c.args.from.now c.args.out.now.first.items c.args.out.now.next.items c.requires.hierarchy.0 c.requires.outgoing
          c.args.seen.now c.args.queue.now.items c.args.head c.index.result.now.role c.first_of-n.result c.index.result.now c.requires.head (ap (λ f. f.role) c.index.ensures) c.first_of-n.ensures c.requires.searched;
    }

pub may_pass-requires : goal.may_pass-requires
may_pass-requires g c =
    let w = c.loop-n.invariant.following in
    let e = edge_of c.args.edges.now w.stop.node c.loop-n.n w.link c.loop-n-test.true in
    ap (g.Q.WalkQuestion.leaves c.args.asked.now) (one_role (edge_at c.args.edges.now c.loop-n.n).senior (record { 0 = c.index.result.now.role }) (e.from ∙ w.node)) ∙ sym c.may_leave.ensures.asked ∙ c.if-not-may_leave.false

pub returns-then-not-may_leave-clause-found : goal.returns-then-not-may_leave-clause-found
returns-then-not-may_leave-clause-found g c =
    following_none (g.Q.WalkQuestion.passes c.args.asked.now) (g.Q.WalkQuestion.goals c.args.asked.now) c.args.edges.now c.args.from.now c.args.out.now.first.items c.args.out.now.next.items c.requires.hierarchy.0 c.requires.outgoing
    c.args.seen.now c.args.queue.now.items c.args.head c.index.result.now.role c.index.result.now c.requires.head (ap (λ f. f.role) c.index.ensures) (c.may_leave.ensures.shut c.if-not-may_leave.true) c.requires.searched

pub returns-then-is_goal-clause-found : goal.returns-then-is_goal-clause-found
returns-then-is_goal-clause-found g c =
    following_goal (g.Q.WalkQuestion.passes c.args.asked.now) (g.Q.WalkQuestion.goals c.args.asked.now) c.args.edges.now c.args.from.now c.args.out.now.first.items c.args.out.now.next.items c.requires.hierarchy.0 c.requires.outgoing
    c.loop-n.seen c.loop-n.queue.items c.args.head c.index.result.now.role c.loop-n.n c.loop-n-test.true c.loop-n.invariant.following (sym c.may_pass.ensures ∙ c.if-may_pass.true) (sym c.is_goal.ensures ∙ c.if-is_goal.true)

pub bounds-edges-n : goal.bounds-edges-n
bounds-edges-n g c = (edge_of c.args.edges.now c.loop-n.invariant.following.stop.node c.loop-n.n c.loop-n.invariant.following.link c.loop-n-test.true).low

pub bounds-seen-junior : goal.bounds-seen-junior
bounds-seen-junior g c =
    let e = edge_of c.args.edges.now c.loop-n.invariant.following.stop.node c.loop-n.n c.loop-n.invariant.following.link c.loop-n-test.true in
    subst (λ k. (edge_at c.args.edges.now c.loop-n.n).junior.0 < k) (sym c.loop-n.invariant.size) (c.requires.hierarchy.1 c.loop-n.n (edge_at c.args.edges.now c.loop-n.n) e.is).junior_in

pub bounds-seen-junior-then-may_pass : goal.bounds-seen-junior-then-may_pass
bounds-seen-junior-then-may_pass g c =
    let e = edge_of c.args.edges.now c.loop-n.invariant.following.stop.node c.loop-n.n c.loop-n.invariant.following.link c.loop-n-test.true in
    subst (λ k. (edge_at c.args.edges.now c.loop-n.n).junior.0 < k) (sym c.loop-n.invariant.size) (c.requires.hierarchy.1 c.loop-n.n (edge_at c.args.edges.now c.loop-n.n) e.is).junior_in

pub index-n-requires : goal.index-n-requires
index-n-requires g c =
    let e = edge_of c.args.edges.now c.loop-n.invariant.following.stop.node c.loop-n.n c.loop-n.invariant.following.link c.loop-n-test.true in
    omega (arith, e.low, c.requires.outgoing.size, c.args.out.now.next.ok)

pub loop-n-smaller : goal.loop-n-smaller
loop-n-smaller g c =
    let e = edge_of c.args.edges.now c.loop-n.invariant.following.stop.node c.loop-n.n c.loop-n.invariant.following.link c.loop-n-test.true in
    let up = goes_up (g.Q.WalkQuestion.passes c.args.asked.now) (g.Q.WalkQuestion.goals c.args.asked.now) c.args.edges.now c.args.from.now c.args.out.now.first.items c.args.out.now.next.items c.requires.hierarchy.0 c.requires.outgoing
    c.loop-n.invariant.following.stop.node c.loop-n.n c.index-n.result.now _ e c.index-n.ensures in
    omega (arith, up.0, up.1)

-- what an edge of the head leaves
record Kept (ok : ℕ → HierEdge → Bool) (goals : RoleId → Bool) (es : List HierEdge) (starts : List ℕ) (seen : List Bool) (queue : List FoundRole) (head n role many total : ℕ) : Type 0 where
  size : length seen ≡ many
  fewer : length queue + count_by not seen ≤ total
  following : Following ok goals es starts seen queue head role n

pub loop-n-preserved : goal.loop-n-preserved
loop-n-preserved g c =
    let ok : ℕ → HierEdge → Bool = g.Q.WalkQuestion.passes c.args.asked.now in
    let goals : RoleId → Bool = g.Q.WalkQuestion.goals c.args.asked.now in
    let edges : List HierEdge = c.args.edges.now in
    let starts : List ℕ = c.args.from.now in
    let first : List ℕ = c.args.out.now.first.items in
    let next : List ℕ = c.args.out.now.next.items in
    let n : ℕ = c.loop-n.n in
    let w = c.loop-n.invariant.following in
    let e = edge_of edges w.stop.node n w.link c.loop-n-test.true in
    let After : List Bool → List FoundRole → Type 0 = λ seen queue. Kept ok goals edges starts seen queue c.args.head c.index-n.result.now c.index.result.now.role (length c.args.seen.now) (length c.args.queue.now.items + count_by not c.args.seen.now) in
    let kept : After c.if-not-seen-junior.seen c.if-not-seen-junior.queue.items =
    elim c.if-not-seen-junior.branch [
      | then-not-seen-junior+then-may_pass+else-is_goal+in_ok-push b ↦
          let inside : (edge_at edges n).junior.0 < length c.loop-n.seen = subst (λ k. (edge_at edges n).junior.0 < k) (sym c.loop-n.invariant.size) (c.requires.hierarchy.1 n (edge_at edges n) e.is).junior_in in
          let fewer = fewer_unseen c.loop-n.seen (edge_at edges n).junior.0 inside b.if-not-seen-junior.true in
          subst (λ seen. After seen c.if-not-seen-junior.queue.items) (sym b.seen-is)
          (subst (λ queue. After (slice_set c.loop-n.seen (edge_at edges n).junior.0 true) queue) (sym (ap (λ q. q.items) b.queue-is ∙ b.in_ok-push.ensures.items))
          (record {
            size = length-set c.loop-n.seen (edge_at edges n).junior.0 true ∙ c.loop-n.invariant.size;
            fewer = as_few _ _ _ _ _ (grown c.loop-n.queue.items (record { role = (edge_at edges n).junior.0; by = n; before = c.args.head })) fewer c.loop-n.invariant.fewer;
            following = following_found ok goals edges starts first next c.requires.hierarchy.0 c.requires.outgoing c.loop-n.seen c.loop-n.queue.items c.args.head c.index.result.now.role n c.index-n.result.now c.index-n.result.now c.loop-n-test.true c.index-n.ensures w (sym b.may_pass.ensures ∙ b.if-may_pass.true) inside (sym b.is_goal.ensures ∙ b.if-is_goal.false);
          }))
      | else-not-seen-junior b ↦
          let known : (ok n (edge_at edges n) ≡ true → is_seen c.loop-n.seen (edge_at edges n).junior.0 ≡ true) =
          elim b.else-not-seen-junior.branch [
            | else-not-seen-junior-via-then-not-seen-junior+else-may_pass b' ↦ λ on. absurd (false≢true (sym b'.if-may_pass.false ∙ b'.may_pass.ensures ∙ on))
            | else-not-seen-junior-via-else-not-seen-junior b' ↦ λ on. b'.if-not-seen-junior.false
          ] in
          subst (λ seen. After seen c.if-not-seen-junior.queue.items) (sym b.seen-is)
          (subst (λ queue. After c.loop-n.seen queue) (sym (ap (λ q. q.items) b.queue-is))
          (record {
            size = c.loop-n.invariant.size;
            fewer = c.loop-n.invariant.fewer;
            following = following_skip ok goals edges starts first next c.requires.hierarchy.0 c.requires.outgoing c.loop-n.seen c.loop-n.queue.items c.args.head c.index.result.now.role n c.index-n.result.now c.index-n.result.now c.loop-n-test.true c.index-n.ensures w known;
          }))
    ] in
    record { size = kept.size; fewer = kept.fewer; following = kept.following }
  where
    as_few : (a b x y t : ℕ) → b ≡ a + 1 → x + 1 ≡ y → a + y ≤ t → b + x ≤ t
    as_few a b x y t p q r = omega (arith, p, q, r)

pub returns-clause-found : goal.returns-clause-found
returns-clause-found g c =
    following_end (g.Q.WalkQuestion.passes c.args.asked.now) (g.Q.WalkQuestion.goals c.args.asked.now) c.args.edges.now c.args.from.now c.args.out.now.first.items c.args.out.now.next.items c.requires.hierarchy.0 c.requires.outgoing
    c.loop-n.seen c.loop-n.queue.items c.args.head c.index.result.now.role c.loop-n.n c.loop-n-test.false c.loop-n.invariant.following
