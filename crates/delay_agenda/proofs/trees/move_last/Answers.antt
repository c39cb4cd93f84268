use Rattle.std.proofs.Common.{◌<◌, length, ap, arith}
use Rattle.std.specs.Prelude.{IsSome}
use Rattle.delay_agenda.proofs.DueLaws.{popped}
use Rattle.delay_agenda.proofs.RowLaws.{moved_rise, moved_set, tree_rises}
use Rattle.delay_agenda.proofs.trees.move_last.Goals as goal

some_there : (c : goal.After-pop) → 0 < length c.args.row.now.items → IsSome c.pop.result
some_there c lt = c.pop.ensures.variant.1 (omega (arith, lt, ap length c.deref.ensures.value, c.deref.ensures.len))

pub returns-in_ok-insert-clause-rise : goal.returns-in_ok-insert-clause-rise
returns-in_ok-insert-clause-rise c =
    moved_rise _ _ _ _ _ c.requires (popped _ _ c.pop.result _ c.pop.ensures.items (rw (← c.deref.ensures.value) c.in-Some.ensures.value) (some_there c)) (tree_rises _ c.in_ok-insert.ensures.ordered) c.in_ok-insert.ensures.updates.0

pub returns-in_ok-insert-clause-set : goal.returns-in_ok-insert-clause-set
returns-in_ok-insert-clause-set c =
    moved_set _ _ _ _ _ c.requires (popped _ _ c.pop.result _ c.pop.ensures.items (rw (← c.deref.ensures.value) c.in-Some.ensures.value) (some_there c)) (tree_rises _ c.in_ok-insert.ensures.ordered) c.in_ok-insert.ensures.updates.0
