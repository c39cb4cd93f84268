use Rattle.std.proofs.Common.{refl, sym, ◌∙◌}
use Rattle.std.proofs.lemmas.Bool.{eq-eqb}
use Rattle.delay_agenda.proofs.TreeLaws.{none_due, others_stay}
use Rattle.delay_agenda.proofs.trees.forget_due.Goals as goal

pub loop-p-preserved : goal.loop-p-preserved
loop-p-preserved c = rw c.remove.ensures.keys (others_stay c.in-Some.p c.args.t c.loop-p.tree.keys (eq-eqb _ _ c.in-Some.ensures.some.0) ∙ c.loop-p.invariant)

pub returns : goal.returns
returns c = sym (none_due c.args.t c.loop-p.tree.keys (c.in_default.ensures.none.0 refl)) ∙ c.loop-p.invariant
