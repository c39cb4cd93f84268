use Rattle.gtrbac_model.proofs.Levels.{by_trigger}
use Rattle.gtrbac_model.proofs.Playing.{levels_give_one_model}
use Rattle.gtrbac_model.proofs.OneModel.{only_model}
use Rattle.walk_laws.proofs.Climbing.{safe_is_levelled}
use Rattle.walk_laws.proofs.laws.safe_has_one_model.Goals as goal

pub returns : goal.returns
returns c =
    record {
      one = λ p safe. let levels = safe_is_levelled p.triggers safe in levels_give_one_model p levels.0 (by_trigger p.triggers levels.0 levels.1);
      only = λ p safe birth h m is. let levels = safe_is_levelled p.triggers safe in only_model p birth h m levels.0 (by_trigger p.triggers levels.0 levels.1) is;
    }
