use Rattle.why_check.proofs.Uniqueness.{accepted_is_model, accepted_is_the_model, accepted_tells}
use Rattle.why_check.proofs.laws.accepted_is_the_model.Goals as goal

pub returns : goal.returns
returns c = record { model = accepted_is_model; only = accepted_is_the_model; tells = accepted_tells }
