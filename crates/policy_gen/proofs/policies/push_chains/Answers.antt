use Rattle.std.proofs.Common.{◌+◌, arith}
use Rattle.policy_gen.specs.Texts.{chain}
use Rattle.policy_gen.proofs.Growing.{lines_further}
use Rattle.policy_gen.proofs.policies.push_chains.Goals as goal

pub loop-n-preserved : goal.loop-n-preserved
loop-n-preserved c = lines_further chain 1 c.loop-n.n (c.loop-n.n + 1) _ _ _ (omega arith) c.loop-n.invariant c.in_ok-push_chain.ensures
