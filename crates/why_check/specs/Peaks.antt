-- The greatest priority of each event of a set.
use Rattle.std.specs.Prelude.{◌≡◌, ℕ, Bool, false, not, ◌&&◌, nat_lt, List, length, slice_get, Option, Some, None, if◌then◌else◌}
use Rattle.std.specs.List.{list_any}
use Rattle.gt_base.specs.declared.events.Event.{Event}
use Rattle.gt_base.specs.declared.events.Fluent.{Fluent}
use Rattle.gt_base.specs.declared.events.Fluent.TheVariants.{Enabled, Assigned, Granted, Limit, Edge}
use Rattle.gt_base.specs.declared.events.Prioritised.{Prioritised}
use Rattle.gt_base.specs.Orders.{fluent_eq}
use Rattle.gtrbac_model.specs.Conflict.{beats}
use Rattle.gtrbac_model.specs.Same.{same_event}
use Rattle.indexmap.specs.IndexMap.{get}
use Rattle.why_check.specs.declared.sides.Sides.{Sides}
use Rattle.why_check.specs.declared.sides.SideTable.{SideTable}

-- the peak with one priority more
abbrev pub peak_with : Option ℕ → ℕ → ℕ
peak_with None p = p
peak_with (Some q) p = if nat_lt p q then q else p

-- the peak of the events that set the fluent of the sides so
abbrev pub side : Bool → Option Sides → Option ℕ
side on None = None
side on (Some s) = if on then s.on else s.off

-- the sides with one event more
abbrev pub sides_with : Option Sides → Bool → ℕ → Sides
sides_with sides on p =
    if on then record { on = Some (peak_with (side on sides) p); off = side (not on) sides }
    else record { on = side (not on) sides; off = Some (peak_with (side on sides) p) }

-- the peak of an event, by the sides of each fluent
abbrev pub peak_in : (Fluent → Option Sides) → Event → Option ℕ
peak_in sides e = side e.on (sides e.fluent)

-- where a fluent stands among the first so many roles, if it stands there
abbrev pub role_place : ℕ → Fluent → Option ℕ
role_place many (Enabled r) = if nat_lt r.0 many then Some r.0 else None
role_place many (Assigned u r) = None
role_place many (Granted p r) = None
role_place many (Limit l) = None
role_place many (Edge n) = None

-- the sides at the place in the row, where there is one, and else those beside the row
abbrev pub sides_at : List Sides → Option Sides → Option ℕ → Option Sides
sides_at row beside None = beside
sides_at row beside (Some n) = slice_get row n

-- the sides that the table has of a fluent
abbrev pub sides_in : SideTable → Fluent → Option Sides
sides_in t f = sides_at t.roles.items (get fluent_eq t.others f) (role_place (length t.roles.items) f)

-- whether the converse with this peak, or none, blocks an event at priority p
abbrev pub beaten_from : Bool → ℕ → Option ℕ → Bool
beaten_from on p None = false
beaten_from on p (Some q) = beats on q p

-- whether an event with this peak is won where its converse has that one
abbrev pub wins_from : Bool → Option ℕ → Option ℕ → Bool
wins_from on None against = false
wins_from on (Some p) against = not (beaten_from on p against)

-- the peak of an event blocks what the event blocks at one of its priorities
abbrev pub ArePeaks : List Prioritised → (Event → Option ℕ) → Type 0
ArePeaks es peak = (e : Event) (on : Bool) (p : ℕ)
    → beaten_from on p (peak e) ≡ list_any (λ o. same_event o.event e && beats on o.prio p) es
