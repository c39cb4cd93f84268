use Rattle.std.proofs.Common.{sym}
use Rattle.gt_base.proofs.WordLaws.{on_there, absent_off}
use Rattle.gt_base.proofs.words.is_on.Goals as goal

pub returns-in-Ok : goal.returns-in-Ok
returns-in-Ok c =
    rw (c.bit_of.ensures) (on_there c.args.f c.args.words.now c.requires c.in-Ok.i (rw c.place_of.ensures.place at c.in-Ok.ensures.found) _)

pub returns-in-Err : goal.returns-in-Err
returns-in-Err c = sym (absent_off c.args.f c.args.words.now c.requires c.in-Err.field-0 (rw c.place_of.ensures.place at c.in-Err.ensures.absent))
