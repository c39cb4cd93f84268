use Rattle.std.proofs.Common.{ℕ, ◌≡◌, ◌+◌, ◌++◌, ◌∷◌, [], codes, ap, ◌∙◌, arith}
use Rattle.policy_gen.specs.Texts.{two}
use Rattle.policy_gen.proofs.Growing.{line_further}
use Rattle.policy_gen.proofs.policies.push_edges.Goals as goal

pub loop-n-preserved : goal.loop-n-preserved
loop-n-preserved c =
    let e : c.loop-n.n + 2 ≡ (c.loop-n.n + 1) + 1 = omega arith in
    line_further (λ i. two (codes "edge ia weak r") i (codes " r") (i + 1)) 1 c.loop-n.n (c.loop-n.n + 1) _ _ _ (omega arith) c.loop-n.invariant
    (c.in_ok-push_two_line.ensures ∙ ap (λ (j : ℕ). c.loop-n.text.items ++ (two (codes "edge ia weak r") (c.loop-n.n + 1) (codes " r") j ++ 10 ∷ [])) e)
