-- Roles of one number are one.
use Rattle.std.proofs.Common.{◌≡◌, true, ap}
use Rattle.std.proofs.lemmas.Bool.{eqb-true, eq-eqb}
use Rattle.gt_base.specs.declared.events.RoleId.{RoleId}
use Rattle.gtrbac_model.specs.Same.{same_role}
use Rattle.walk_laws.specs.Laws.{TellsApart}

pub one_role : (a b : RoleId) → a.0 ≡ b.0 → a ≡ b
one_role a b e = λ i. record { 0 = e i }

pub is_same_role : (a b : RoleId) → same_role a b ≡ true → a ≡ b
is_same_role a b h = one_role a b (eqb-true a.0 b.0 h)

pub same_role_of : (a b : RoleId) → a ≡ b → same_role a b ≡ true
same_role_of a b e = eq-eqb a.0 b.0 (ap (λ r. r.0) e)

pub tells_apart : TellsApart same_role
tells_apart = (is_same_role, same_role_of)
