use Rattle.std.proofs.Common.{◌+◌, arith}
use Rattle.policy_gen.specs.Texts.{one}
use Rattle.policy_gen.proofs.Growing.{line_further}
use Rattle.policy_gen.proofs.policies.push_numbered.Goals as goal

pub loop-n-preserved : goal.loop-n-preserved
loop-n-preserved c = line_further (one c.args.piece.now) 1 c.loop-n.n (c.loop-n.n + 1) _ _ _ (omega arith) c.loop-n.invariant c.in_ok-push_one_line.ensures
