use Rattle.std.proofs.lemmas.List.Elements.{same_from_all_zip}
use Rattle.session_table.proofs.charges.copied.Goals as goal

pub returns : goal.returns
returns c = same_from_all_zip _ _ _ c.in_ok-clone.ensures.cases (λ x y r i. (r.0 i, r.1 i))
