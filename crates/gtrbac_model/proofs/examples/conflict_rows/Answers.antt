use Rattle.std.proofs.Common.{refl, [], ◌∷◌}
use Rattle.gt_base.specs.Sets.{members, has, none, checked, with_member}
use Rattle.gtrbac_model.proofs.examples.conflict_rows.Goals as goal
use Rattle.gtrbac_model.specs.ConflictRows.{on, off, at}

pub returns : goal.returns
unfolding members has none checked with_member
returns c = record { chain_is_blocked = refl; chain_seen_on = refl; chain_seen_off = refl; chain_seen_none = refl; chain_after = refl; chain_is_closed = refl; once_is_not_closed = refl; chain_settles = record { is_closed = refl; order = at 50 (on 0) ∷ at 50 (on 2) ∷ at 50 (on 1) ∷ at 60 (off 2) ∷ []; grounding = record { lists = refl; grounds = refl }; signals = refl }; ring_is_closed = refl; ring_is_not_grounded = refl; ring_is_safe = refl; tie = refl; tie_seen = refl; cycle_edges = refl; the_cycle_is = refl; delayed_is_safe = refl }
