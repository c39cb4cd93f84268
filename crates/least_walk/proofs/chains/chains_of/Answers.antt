use Rattle.std.proofs.Common.{◌≡◌, ℕ, ◌+◌, ◌<◌, ◌++◌, [], ◌∷◌, Some, slice_index, slice_index_or, slice_set, sym, ◌∙◌, ap, subst, arith}
use Rattle.gtrbac_model.specs.Graph.{item_at}
use Rattle.least_walk.proofs.Items.{item_read, any_default}
use Rattle.least_walk.proofs.Chaining.{Chained, chained_start, chained_next, chained_all}
use Rattle.least_walk.proofs.chains.chains_of.Goals as goal

pub loop-n-init : goal.loop-n-init
loop-n-init c =
    subst (λ b. Chained c.args.keys.now c.args.nodes c.in_ok-last.last.items b 0) (sym c.new-before.ensures.items)
    (subst (λ l. Chained c.args.keys.now c.args.nodes l [] 0) (sym c.in_ok-last.ensures) (chained_start c.args.keys.now c.args.nodes))

pub index-requires : goal.index-requires
index-requires c =
    let inside : slice_index_or c.args.keys.now c.loop-n.n 0 < c.args.nodes = c.requires.keys c.loop-n.n _ (item_read c.args.keys.now c.loop-n.n 0 c.loop-n-test.true) in
    omega (arith, inside, c.loop-n.invariant.nodes_are, c.loop-n.last.ok)

pub index_mut-requires : goal.index_mut-requires
index_mut-requires c =
    let inside : slice_index_or c.args.keys.now c.loop-n.n 0 < c.args.nodes = c.requires.keys c.loop-n.n _ (item_read c.args.keys.now c.loop-n.n 0 c.loop-n-test.true) in
    omega (arith, inside, c.loop-n.invariant.nodes_are, c.loop-n.last.ok)

pub loop-n-preserved : goal.loop-n-preserved
loop-n-preserved c =
    let v : ℕ = slice_index_or c.args.keys.now c.loop-n.n 0 in
    let is : item_at c.args.keys.now c.loop-n.n ≡ Some v = item_read c.args.keys.now c.loop-n.n 0 c.loop-n-test.true in
    let pushed : c.push.new.self.items ≡ c.loop-n.before.items ++ slice_index c.loop-n.last.items v ∷ [] = c.in_ok-push.ensures.items ∙ ap (λ x. c.loop-n.before.items ++ x ∷ []) (c.index.ensures ∙ any_default c.loop-n.last.items v _ 0 (subst (λ k. v < k) (sym c.loop-n.invariant.nodes_are) (c.requires.keys c.loop-n.n v is))) in
    subst (λ b. Chained c.args.keys.now c.args.nodes (slice_set c.loop-n.last.items v c.loop-n.n) b (c.loop-n.n + 1)) (sym pushed)
    (chained_next c.args.keys.now c.args.nodes c.loop-n.last.items c.loop-n.before.items c.loop-n.n v is (c.requires.keys c.loop-n.n v is) c.loop-n.invariant)

pub returns : goal.returns
returns c = chained_all c.args.keys.now c.args.nodes _ _ c.loop-n.n c.loop-n-test.false (omega (arith, c.loop-n.auto.n-end)) c.requires.keys c.loop-n.invariant
