use Rattle.text_laws.proofs.Exprs.{read_short}
use Rattle.text_laws.proofs.Others.{others_short}
use Rattle.text_laws.proofs.Periods.{periods_short}
use Rattle.text_laws.proofs.laws.lines_stay_short.Goals as goal

pub returns : goal.returns
returns c = record { expressions = read_short; periods = periods_short; others = others_short }
