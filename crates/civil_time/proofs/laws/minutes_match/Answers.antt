use Rattle.civil_time.proofs.Stands.{stands}
use Rattle.civil_time.proofs.OneCivil.{one_civil, one_instant}
use Rattle.civil_time.proofs.Texts.{one_text}
use Rattle.civil_time.proofs.laws.minutes_match.Goals as goal

pub returns : goal.returns
returns c = record { stands = stands; one_civil = one_civil; one_instant = one_instant; one_text = one_text }
