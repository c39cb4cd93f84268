use Rattle.std.proofs.Common.{refl}
use Rattle.core_machine.proofs.entering.make_room.Goals as goal

pub returns-in_err-reserve-clause-same : goal.returns-in_err-reserve-clause-same
returns-in_err-reserve-clause-same c = record { ground = refl; birth = refl; line = c.in_err-reserve.ensures.line; table = refl; charged_to = refl; entries = refl }

pub returns-clause-same : goal.returns-clause-same
returns-clause-same c = record { ground = refl; birth = refl; line = c.in_ok-reserve.ensures.line; table = refl; charged_to = refl; entries = c.reserve-2.ensures.items }
