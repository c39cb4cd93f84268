-- Rows that are read.
use Rattle.std.proofs.Common.{◌≡◌, ℕ, Bool, true, false, cond, List, [], ◌∷◌, Option, Some, refl, ap, ◌∙◌}
use Rattle.std.specs.Prelude.{unwrap_or}
use Rattle.std.specs.Map.{lookup}
use Rattle.gt_base.specs.contracts.events.FluentOrd.TheImpl.Laws as fluent_laws
use Rattle.gt_base.specs.declared.events.Fluent.{Fluent}
use Rattle.gt_base.specs.Orders.{fluent_eq}
use Rattle.gtrbac_model.specs.Same.{same_fluent}
use Rattle.duration_limits.specs.Since.{AgesView, since_in, ReadsRows}

abbrev read : List (Fluent × ℕ) → ℕ → Fluent → ℕ
read rows birth f = unwrap_or (lookup (fluent_eq f) rows) birth

-- what the birth and the rows say
pub since-read : (a : AgesView) (f : Fluent) → read a.rows a.birth f ≡ since_in a f
unfolding since_in
since-read a f = refl

pub since-no_rows : (a : AgesView) → a.rows ≡ [] → (f : Fluent) → since_in a f ≡ a.birth
unfolding since_in
since-no_rows a e f = ap (λ rows. read rows a.birth f) e

pub since-same_rows : (a b : AgesView) → a.rows ≡ b.rows → a.birth ≡ b.birth → (f : Fluent) → since_in a f ≡ since_in b f
unfolding since_in
since-same_rows a b rows birth f = ap (λ rows. read rows a.birth f) rows ∙ ap (λ birth. read b.rows birth f) birth

if_found : (b : Bool) (t : ℕ) (old : Option ℕ) (birth : ℕ) → unwrap_or (cond b (Some t) old) birth ≡ cond b t (unwrap_or old birth)
if_found true t old birth = refl
if_found false t old birth = refl

pub since-changed : (a b : AgesView) (f : Fluent) (t : ℕ)
    → ((g : Fluent) → lookup (fluent_eq g) a.rows ≡ cond (fluent_eq f g) (Some t) (lookup (fluent_eq g) b.rows)) → a.birth ≡ b.birth
    → (g : Fluent) → since_in a g ≡ cond (same_fluent f g) t (since_in b g)
unfolding since_in
since-changed a b f t rows birth g =
    ap (λ o. unwrap_or o a.birth) (rows g)
    ∙ if_found (fluent_eq f g) t _ a.birth
    ∙ (λ i. cond (fluent_laws.matches_eq-law f g i) t (read b.rows (birth i) g))

one_row : (a : AgesView) (f : Fluent) (t : ℕ) (g : Fluent) → since_in (record a { rows = (f, t) ∷ a.rows }) g ≡ cond (same_fluent g f) t (since_in a g)
unfolding since_in
one_row a f t g = if_found (fluent_eq g f) t _ a.birth ∙ (λ i. cond (fluent_laws.matches_eq-law g f i) t (read a.rows a.birth g))

pub reads_rows : ReadsRows
reads_rows = record { none = λ birth spare f. since-no_rows _ refl f; row = one_row }
