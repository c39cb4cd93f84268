use Rattle.std.proofs.Common.{◌≡◌, length}
use Rattle.delay_agenda.specs.Rows.{others_in}
use Rattle.delay_agenda.proofs.trees.forget_due.Given as goal

-- the others stay
abbrev pub invariant-loop : goal.invariant-loop
invariant-loop l = others_in l.tree.keys l.t ≡ others_in l.fn.tree.keys l.t

abbrev pub decreases-loop : goal.decreases-loop
decreases-loop l = length l.tree.keys

abbrev pub invariant-loop-p : goal.invariant-loop-p
invariant-loop-p l = others_in l.tree.keys l.t ≡ others_in l.fn.tree.keys l.t

abbrev pub decreases-loop-p : goal.decreases-loop-p
decreases-loop-p l = length l.tree.keys
