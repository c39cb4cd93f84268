use Rattle.gtrbac_model.proofs.Levels.{by_trigger}
use Rattle.gtrbac_model.proofs.Existence.{settled_set}
use Rattle.gtrbac_model.proofs.Uniqueness.{settles_to_one}
use Rattle.walk_laws.proofs.Climbing.{safe_is_levelled}
use Rattle.walk_laws.proofs.laws.safe_settles_once.Goals as goal

pub returns : goal.returns
returns c = λ rules safe base s.
    let levels = safe_is_levelled rules safe in
    let levelled = by_trigger rules levels.0 levels.1 in
    let x = settled_set rules base s levels.0 levelled in
    record { set = x.0; settled = x.1; only = λ y is. settles_to_one rules base s levels.0 levelled y x.0 is x.1 }
