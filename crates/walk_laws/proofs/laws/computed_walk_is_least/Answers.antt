use Rattle.std.proofs.Common.{nat_eq}
use Rattle.std.proofs.lemmas.Bool.{eqb-true, eq-eqb}
use Rattle.gtrbac_model.proofs.Uniqueness.{is_same_event, same_event_of}
use Rattle.walk_laws.proofs.Computing.{least_walk_is}
use Rattle.walk_laws.proofs.Roles.{tells_apart}
use Rattle.walk_laws.proofs.laws.computed_walk_is_least.Goals as goal

pub returns : goal.returns
returns c =
    record {
      numbers = least_walk_is nat_eq (λ a b. eqb-true a b, λ a b. eq-eqb a b);
      roles = least_walk_is _ tells_apart;
      events = least_walk_is _ (is_same_event, same_event_of);
    }
