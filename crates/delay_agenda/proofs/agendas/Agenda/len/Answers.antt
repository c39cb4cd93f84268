use Rattle.std.proofs.Common.{◌≡◌, ◌+◌, length, arith}
use Rattle.gt_base.specs.Sets.{members}
use Rattle.delay_agenda.specs.Far.{more_in}
use Rattle.delay_agenda.proofs.FarLaws.{more_than}
use Rattle.delay_agenda.proofs.agendas.Agenda.len.Goals as goal

pub overflow_add-result : goal.overflow_add-result
overflow_add-result c = omega (arith, c.len.ensures.fits, c.count.ensures.bound, c.deref.type_inv.1)

pub returns : goal.returns
returns c =
    let all : more_in c.self.inside.near.set c.deref.result.now + length (members c.self.inside.near.set) ≡ length (members c.args.self.now.set) =
    rw (← c.self.view_is, c.deref.ensures.value) (more_than c.self.inside.near.set c.self.inside.far.items) in
    omega (arith, all, c.len.ensures.count, c.count.ensures.count)
