use Rattle.std.proofs.Common.{◌≡◌, ℕ, ◌-◌, ◌<◌, length, replicate, slice_index_or, sym, ◌∙◌, ap, subst, arith}
use Rattle.hybrid_hierarchy.specs.Searches.{seniors_in, IsFirstEdge}
use Rattle.hybrid_hierarchy.proofs.Linking.{Linked, linked_start, senior_low, linked_step}
use Rattle.hybrid_hierarchy.proofs.outgoing.outgoing_of.Goals as goal
use Rattle.hybrid_hierarchy.specs.declared.outgoing.TheConstants.{NO_EDGE}

pub loop-n-init : goal.loop-n-init
loop-n-init c =
    let w = subst (λ xs. Linked c.args.edges.now xs c.in_ok-next.next.items (length c.args.edges.now)) (sym c.in_ok-first.ensures)
    (subst (λ xs. Linked c.args.edges.now (replicate 1_000 NO_EDGE) xs (length c.args.edges.now)) (sym c.in_ok-next.ensures) (linked_start c.args.edges.now)) in
    record { low = w.low; nodes = w.nodes; size = w.size; firsts = w.firsts; nexts = w.nexts }

pub index-requires : goal.index-requires
index-requires c =
    let low : c.loop-n.n - 1 < length c.args.edges.now = omega (arith, c.loop-n-test.true, c.loop-n.invariant.low) in
    omega (arith, senior_low c.args.edges.now (c.loop-n.n - 1) c.requires.within low, c.loop-n.invariant.nodes, c.loop-n.first.ok)

pub index_mut-requires-in-loop-n : goal.index_mut-requires-in-loop-n
index_mut-requires-in-loop-n c =
    let low : c.loop-n.n - 1 < length c.args.edges.now = omega (arith, c.loop-n-test.true, c.loop-n.invariant.low) in
    omega (arith, senior_low c.args.edges.now (c.loop-n.n - 1) c.requires.within low, c.loop-n.invariant.nodes, c.loop-n.first.ok)

pub loop-n-preserved : goal.loop-n-preserved
loop-n-preserved c =
    let old : Linked c.args.edges.now c.loop-n.first.items c.loop-n.next.items c.loop-n.n =
    record { low = c.loop-n.invariant.low; nodes = c.loop-n.invariant.nodes; size = c.loop-n.invariant.size; firsts = c.loop-n.invariant.firsts; nexts = c.loop-n.invariant.nexts } in
    let w = linked_step c.args.edges.now c.loop-n.first.items c.loop-n.next.items c.loop-n.n c.requires.within c.loop-n-test.true old c.index.result.now c.index.ensures in
    record { low = w.low; nodes = w.nodes; size = w.size; firsts = w.firsts; nexts = w.nexts }

pub invariant_of-result : goal.invariant_of-result
invariant_of-result c = record { listed = c.in_ok-seniors.ensures ∙ ap seniors_in c.deref.ensures.value }

pub returns : goal.returns
returns c =
    let none : c.loop-n.n ≡ 0 = omega (arith, c.loop-n-test.false) in
    record {
      size = c.loop-n.invariant.size;
      firsts = subst (λ k. (v : ℕ) → IsFirstEdge c.args.edges.now v k (slice_index_or c.loop-n.first.items v NO_EDGE)) none c.loop-n.invariant.firsts;
      nexts = λ m e is. c.loop-n.invariant.nexts m e (omega (arith, none)) is;
    }
