use Rattle.audit_laws.proofs.Owning.{others_are_turned_away, owners_act}
use Rattle.audit_laws.proofs.owners.nobody_acts_in_anothers.Goals as goal

pub returns : goal.returns
returns c = record { others = others_are_turned_away; own = owners_act }
