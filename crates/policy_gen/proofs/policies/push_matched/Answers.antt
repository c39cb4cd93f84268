use Rattle.std.proofs.Common.{◌+◌, arith}
use Rattle.policy_gen.specs.Texts.{two}
use Rattle.policy_gen.proofs.Growing.{line_further}
use Rattle.policy_gen.proofs.policies.push_matched.Goals as goal

pub loop-n-preserved : goal.loop-n-preserved
loop-n-preserved c =
    line_further (λ i. two c.args.first.now i c.args.second.now i) 1 c.loop-n.n (c.loop-n.n + 1) _ _ _ (omega arith) c.loop-n.invariant c.in_ok-push_two_line.ensures
