use Rattle.std.proofs.Common.{◌<◌, arith}
use Rattle.std.proofs.lemmas.Grind.{common_steps}
use Rattle.delay_agenda.proofs.TreeLaws.{none_reached}
use Rattle.delay_agenda.proofs.trees.reaches.Goals as goal

pub returns-in-Some : goal.returns-in-Some
returns-in-Some c e =
    let lt : c.args.t < c.in-Some.p.now.due = grind (arith, common_steps, c.le.ensures, e) in
    none_reached c.args.t c.in-Some.p.now c.args.tree.now.keys lt c.in-Some.ensures.greatest
