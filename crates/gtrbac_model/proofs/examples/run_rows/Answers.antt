use Rattle.std.proofs.Common.{refl}
use Rattle.gt_base.specs.Sets.{members, has, none, checked, with_member}
use Rattle.gtrbac_model.proofs.examples.run_rows.Goals as goal

pub returns : goal.returns
unfolding members has none checked with_member
returns c = record { first_base = refl; second_base = refl; replied = refl; is_on = refl; starts_at_01 = refl; kept_at_01 = refl; dropped_at_02 = refl; charged_at_02 = refl; refused_at_02 = refl; not_active_at_02 = refl; opens_after_birth = refl; quiet_then = refl; closes_at_16 = refl; ripe_at_09 = refl; unripe_at_08 = refl; off_at_20 = refl; on_at_19 = refl; active_again = refl; stirs_at_02 = refl; unlink_is_raised = refl; activates_over_edge = refl; unlinked_is_dropped = refl; lends_over_edge = refl; unlinked_is_shut = refl; unlinked_is_off = refl; met_after_its_minute = refl; not_met_after_its_minute = refl }
