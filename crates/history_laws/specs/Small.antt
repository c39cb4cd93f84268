-- A small policy, so that what every policy keeps is seen to hold of one.
use Rattle.std.specs.Prelude.{[], ◌∷◌, true, false, None}
use Rattle.gt_base.specs.declared.events.Fluent.TheVariants.{Assigned, Edge}
use Rattle.gt_base.specs.declared.policies.Caps.{Caps}
use Rattle.gt_base.specs.Sets.{set_of}
use Rattle.gtrbac_model.specs.Policy.{Policy}
use Rattle.walk_laws.specs.Rivals.{enable, at, when}

abbrev uncapped : Caps
uncapped = record { total = None; user = None; length = None; day = None }

-- a role over another by an edge that is on, a user who is assigned to the first, and a trigger
abbrev pub small : Policy
small =
    record {
      roles = 2;
      users = 1;
      perms = 0;
      periods = [];
      limits = [];
      edges = record {
        senior = record { 0 = 0 };
        junior = record { 0 = 1 };
        inherits = true;
        activates = true;
        strong = false;
      } ∷ [];
      caps = uncapped ∷ uncapped ∷ [];
      admins = record { 0 = 0 } ∷ [];
      opening = set_of (Assigned (record { 0 = 0 }) (record { 0 = 0 }) ∷ Edge 0 ∷ []);
      entries = [];
      triggers = when (enable 1) (at 50 (enable 0)) ∷ [];
    }
