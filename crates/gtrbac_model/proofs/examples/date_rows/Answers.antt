use Rattle.std.proofs.Common.{refl}
use Rattle.gtrbac_model.proofs.examples.date_rows.Goals as goal

pub returns : goal.returns
returns c = record { in_april = refl; not_in_may = refl; july = refl; instant_0_starts = refl; in_at_59 = refl; not_at_60 = refl; next_saturday = refl; inside_still = refl; inside_no_more = refl; inside_at_noon = refl; no_start_at_noon = refl }
