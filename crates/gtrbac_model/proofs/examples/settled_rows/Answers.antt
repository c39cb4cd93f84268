use Rattle.std.proofs.Common.{refl, [], ◌∷◌}
use Rattle.gt_base.specs.Sets.{members, has, none, checked, with_member}
use Rattle.gtrbac_model.proofs.examples.settled_rows.Goals as goal
use Rattle.gtrbac_model.specs.ConflictRows.{on, off, at}
use Rattle.gtrbac_model.specs.SettledRows.{two_enabled, overruled}

pub returns : goal.returns
unfolding members has none checked with_member
returns c =
    record {
      sees_own_event = record { is_closed = refl; order = at 50 (on 0) ∷ at 50 (on 1) ∷ at 50 (on 2) ∷ []; grounding = record { lists = refl; grounds = refl }; signals = refl };
      then_on = refl;
      head_is_owed = refl;
      before_sees_not = record { is_closed = refl; order = two_enabled; grounding = record { lists = refl; grounds = refl }; signals = refl };
      then_off = refl;
      overruled_sees_not = record { is_closed = refl; order = overruled; grounding = record { lists = refl; grounds = refl }; signals = refl };
      overruled_off = refl;
      kept = record { is_closed = refl; order = at 50 (on 0) ∷ at 50 (on 2) ∷ []; grounding = record { lists = refl; grounds = refl }; signals = refl };
      decided_first = record { is_closed = refl; order = at 50 (on 0) ∷ at 50 (on 1) ∷ at 50 (on 3) ∷ at 60 (off 1) ∷ []; grounding = record { lists = refl; grounds = refl }; signals = refl };
      not_asked_before = refl;
      decided_is_safe = refl;
      decided_edges = refl;
      numbered_by_place = refl;
      undoing_edges = refl;
      undoing_cycle = refl;
    }
