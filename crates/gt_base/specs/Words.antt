-- Which fluents a word stands for.
use Rattle.std.specs.Prelude.{◌≡◌, ℕ, ◌+◌, ◌*◌, ◌/◌, ◌^◌, ◌<◌, ◌≤◌, ◌==◌, Bool, true, false, List, map, insert, length}
use Rattle.std.specs.Int.{bit_at}
use Rattle.std.specs.List.{All, HoldsAt, filter, flat_map, list_any, range_with_len}
use Rattle.std.specs.Ordering.{eq_by_cmp}
use Rattle.std.specs.declared.cmp.Ordering.{Ordering}
use Rattle.gt_base.specs.declared.events.Fluent.{Fluent}
use Rattle.gt_base.specs.declared.events.Fluent.TheVariants.{Enabled, Assigned, Granted, Limit, Edge}
use Rattle.gt_base.specs.declared.words.Row.{Row}
use Rattle.gt_base.specs.declared.words.Row.TheVariants.{Roles, UsersOf, PermsOf, Limits, Edges}
use Rattle.gt_base.specs.declared.words.WordPlace.{WordPlace}
use Rattle.gt_base.specs.declared.words.FlagWord.{FlagWord}
use Rattle.gt_base.specs.contracts.words.WordPlaceOrd.TheImpl as place_impl
use Rattle.gt_base.specs.Orders.{fluent_cmp}
use Rattle.gt_base.specs.Sets.{SetOf, set_of, Rises}

-- the fluent of a row with this first name
abbrev pub fluent_in : Row → ℕ → Fluent
fluent_in Roles n = Enabled (record { 0 = n })
fluent_in (UsersOf r) n = Assigned (record { 0 = n }) r
fluent_in (PermsOf r) n = Granted (record { 0 = n }) r
fluent_in Limits n = Limit (record { 0 = n })
fluent_in Edges n = Edge n

-- the fluents that a word stands for: for each bit that is 1 the one of the row with that place in
-- the row
unfoldable pub fluents_of : FlagWord → List Fluent
fluents_of w = map (λ b. fluent_in w.place.row (w.place.below * 64 + b))
    (filter (λ b. bit_at w.bits b == 1) (range_with_len 0 64))

-- the set that words stand for
unfoldable pub set_of_words : List FlagWord → SetOf fluent_cmp
set_of_words ws = set_of (flat_map fluents_of ws)

-- a fluent's row, its first name, and the place of its word
abbrev pub row_of : Fluent → Row
row_of (Enabled r) = Roles
row_of (Assigned u r) = UsersOf r
row_of (Granted p r) = PermsOf r
row_of (Limit l) = Limits
row_of (Edge e) = Edges

abbrev pub first_of : Fluent → ℕ
first_of (Enabled r) = r.0
first_of (Assigned u r) = u.0
first_of (Granted p r) = p.0
first_of (Limit l) = l.0
first_of (Edge e) = e

-- whether it is a row of permissions that are granted to a role
abbrev pub is_of_perms : Row → Bool
is_of_perms (PermsOf r) = true
is_of_perms _ = false

abbrev pub word_place : Fluent → WordPlace
word_place f = record { row = row_of f; below = first_of f / 64 }

abbrev pub place_cmp : WordPlace → WordPlace → Ordering
place_cmp = place_impl.ghosts.cmp

abbrev pub places : List FlagWord → List WordPlace
places ws = map (λ w. w.place) ws

-- their places rise, and each fluent's first name is below 2 ^ 32
pub record AreWords (ws : List FlagWord) : Type 0 where
  pub rising : Rises place_cmp (places ws)
  pub within : All (λ p. p.below < 2 ^ 26) (places ws)

-- the word of the place stands at i
pub record WordStandsAt (place : WordPlace) (ws : List FlagWord) (i : ℕ) : Type 0 where
  pub below : i < length ws
  pub is : HoldsAt (λ w. w.place ≡ place) ws i

-- there is no word of the place, and it goes in at i
pub record GoesAt (place : WordPlace) (ws : List FlagWord) (i : ℕ) : Type 0 where
  pub below : i ≤ length ws
  pub absent : list_any (eq_by_cmp place_cmp place) (places ws) ≡ false
  pub rises : Rises place_cmp (insert (places ws) i place)
