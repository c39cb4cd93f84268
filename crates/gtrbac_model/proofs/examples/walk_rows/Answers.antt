use Rattle.std.proofs.Common.{refl}
use Rattle.gtrbac_model.proofs.examples.walk_rows.Goals as goal

pub returns : goal.returns
returns c = record { j_not_allowed = refl; k_allowed = refl; k_still_allowed = refl; k_not_allowed = refl; pj_by_s = refl; pk_by_t = refl; by_doctor = refl; by_nurse = refl; shut = refl; no_active = refl; lent_while_on = refl; shut_while_off = refl; allowed_while_on = refl; not_allowed_while_off = refl; round_it = refl; strong_is_shut = refl; none_is_no_grant = refl; edges_come_last = λ l n. refl; edges_by_number = refl }
