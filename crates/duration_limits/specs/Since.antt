-- When each fluent last changed.
use Rattle.std.specs.Prelude.{◌≡◌, ℕ, List, [], ◌∷◌, unwrap_or, if◌then◌else◌}
use Rattle.std.specs.Map.{lookup}
use Rattle.gt_base.specs.declared.events.Fluent.{Fluent}
use Rattle.gt_base.specs.Orders.{fluent_eq}
use Rattle.gtrbac_model.specs.Same.{same_fluent}

-- the birth, the last change of each fluent that has changed since, and how many further fluents
-- there is room for
pub record AgesView : Type 0 where
  pub birth : ℕ
  pub rows : List (Fluent × ℕ)
  pub spare : ℕ

-- the fluent's last change, or the birth
unfoldable pub since_in : AgesView → Fluent → ℕ
since_in a f = unwrap_or (lookup (fluent_eq f) a.rows) a.birth

-- with no rows each fluent has the birth, and a row tells the instant of its fluent alone
pub record ReadsRows : Type 0 where
  pub none : (birth spare : ℕ) (f : Fluent)
      → since_in (record { birth = birth; rows = []; spare = spare }) f ≡ birth
  pub row : (a : AgesView) (f : Fluent) (t : ℕ) (g : Fluent)
      → since_in (record a { rows = (f, t) ∷ a.rows }) g
      ≡ (if same_fluent g f then t else since_in a g)
