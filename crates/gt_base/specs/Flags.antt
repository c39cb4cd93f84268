-- Fluents with a flag each, which tells whether the fluent is on.
use Rattle.std.specs.Prelude.{◌≡◌, ℕ, ◌<◌, Bool, true, false, not, ◌&&◌, ◌||◌, List, [], ◌∷◌, ◌++◌, length, Option, Some, None, MatchOption, if◌then◌else◌}
use Rattle.std.specs.List.{HoldsAt, flat_map, list_any}
use Rattle.std.specs.Ordering.{eq_by_cmp}
use Rattle.gt_base.specs.declared.events.Fluent.{Fluent}
use Rattle.gt_base.specs.declared.events.Fluent.TheVariants.{Granted}
use Rattle.gt_base.specs.declared.events.PermId.{PermId}
use Rattle.gt_base.specs.declared.events.RoleId.{RoleId}
use Rattle.gt_base.specs.declared.words.FlagWord.{FlagWord}
use Rattle.gt_base.specs.Orders.{fluent_cmp}
use Rattle.gt_base.specs.Sets.{SetOf, has, set_of}
use Rattle.gt_base.specs.Words.{fluents_of, set_of_words}

-- the fluents that have a flag, and their flags
pub record Flagged : Type 0 where
  pub known : List Fluent
  pub on : List Bool

-- what there is for the value, if it is there, and else no fluent
abbrev pub none_or : {A : Type 0} → (A → List Fluent) → Option A → List Fluent
none_or f None = []
none_or f (Some a) = f a

-- those whose flags are set
abbrev pub flagged : List Fluent → List Bool → List Fluent
flagged [] bs = []
flagged (k ∷ ks) [] = []
flagged (k ∷ ks) (b ∷ bs) = if b then k ∷ flagged ks bs else flagged ks bs

-- whether the fluent is one of the list
abbrev pub is_among : List Fluent → Fluent → Bool
is_among ks f = list_any (eq_by_cmp fluent_cmp f) ks

-- whether the fluent has a flag that is set
abbrev pub is_lit : Flagged → Fluent → Bool
is_lit s f = is_among (flagged s.known s.on) f

-- the place of the fluent in the list, or that it is not there
abbrev pub IsPlace : List Fluent → Fluent → Option ℕ → Type 0
IsPlace ks f at = MatchOption at (is_among ks f ≡ false)
    (λ i. (i < length ks) × HoldsAt (λ k. k ≡ f) ks i)

-- the fluent is lit besides those that were, and no longer lit
abbrev pub IsWith : Fluent → Flagged → Flagged → Type 0
IsWith f old new = (x : Fluent) → is_lit new x ≡ (eq_by_cmp fluent_cmp x f || is_lit old x)

abbrev pub IsWithout : Fluent → Flagged → Flagged → Type 0
IsWithout f old new = (x : Fluent) → is_lit new x ≡ (is_lit old x && not (eq_by_cmp fluent_cmp f x))

-- no fluent that has a flag is on by a word
abbrev pub AreApart : Flagged → List FlagWord → Type 0
AreApart s ws = (x : Fluent) → is_among s.known x ≡ true → has (set_of_words ws) x ≡ false

-- the set of the fluents that are lit and of those that words stand for
unfoldable pub set_of_parts : Flagged → List FlagWord → SetOf fluent_cmp
set_of_parts s ws = set_of (flagged s.known s.on ++ flat_map fluents_of ws)

-- no other role has the permission, and this one as it is said
abbrev pub IsOnlyGrant : (Fluent → Bool) → PermId → RoleId × Bool → Type 0
IsOnlyGrant has perm (role, on) =
    (on ≡ has (Granted perm role)) × ((r : RoleId) → has (Granted perm r) ≡ true → r ≡ role)
