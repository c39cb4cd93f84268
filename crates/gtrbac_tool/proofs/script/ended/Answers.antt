use Rattle.std.proofs.Common.{refl}
use Rattle.gtrbac_tool.proofs.script.ended.Goals as goal

pub returns-in-Ok : goal.returns-in-Ok
returns-in-Ok c = (c.in-Ok.end, refl, c.in-Ok.ensures)
