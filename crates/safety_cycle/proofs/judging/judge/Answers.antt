use Rattle.std.proofs.Common.{◌≤◌, length, arith}
use Rattle.safety_cycle.proofs.Parting.{stratified}
use Rattle.safety_cycle.proofs.judging.judge.Goals as goal

pub returns-clause-ok : goal.returns-clause-ok
returns-clause-ok c =
    let all : length c.args.g.now.edges ≤ c.loop-n.n = omega (arith, c.len-n-end.ensures, c.loop-n-test.false) in
    stratified c.args.g.now c.loop-n.ranks.items c.loop-n.n all c.loop-n.invariant
