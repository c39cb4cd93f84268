use Rattle.std.proofs.Common.{◌≡◌, ◌+◌, length, arith}
use Rattle.delay_agenda.specs.Due.{count_due}
use Rattle.delay_agenda.specs.Rows.{due_in, new_due_in}
use Rattle.delay_agenda.proofs.RowLaws.{count_due_pairs, told_both}
use Rattle.delay_agenda.proofs.near.Near.tell.Goals as goal

pub tell_due-requires : goal.tell_due-requires
tell_due-requires c =
    let all : count_due c.args.self.now.set c.args.t ≡ length (due_in c.self.inside.tree.keys c.args.t) + length (new_due_in c.self.inside.tree.keys c.self.inside.row.items c.args.t) =
    rw (← c.self.view_is) (count_due_pairs _ _ c.args.t c.self.invariant) in
    omega (arith, all, c.requires)

pub tell_due-requires-2 : goal.tell_due-requires-2
tell_due-requires-2 c =
    let all : count_due c.args.self.now.set c.args.t ≡ length (due_in c.self.inside.tree.keys c.args.t) + length (new_due_in c.self.inside.tree.keys c.deref.result.now c.args.t) =
    rw (← c.self.view_is, c.deref.ensures.value) (count_due_pairs _ _ c.args.t c.self.invariant) in
    omega (arith, all, c.requires, c.tell_due.ensures.spare)

pub returns-clause-events : goal.returns-clause-events
returns-clause-events c e = rw (← c.self.view_is, ← c.deref.ensures.value) (told_both _ _ _ e _ _ _ (rw c.deref.ensures.value c.self.invariant.row_rises) (c.tell_due.ensures.events e) (c.tell_due-2.ensures.events e))

pub returns-clause-spare : goal.returns-clause-spare
returns-clause-spare c =
    let all : count_due c.args.self.now.set c.args.t ≡ length (due_in c.self.inside.tree.keys c.args.t) + length (new_due_in c.self.inside.tree.keys c.deref.result.now c.args.t) =
    rw (← c.self.view_is, c.deref.ensures.value) (count_due_pairs _ _ c.args.t c.self.invariant) in
    omega (arith, all, c.tell_due.ensures.spare, c.tell_due-2.ensures.spare)
