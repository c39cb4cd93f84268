-- Where no role has a cap on minutes, no cap ends an activation; and where each activation stands, caps alone drop.
use Rattle.std.proofs.Common.{◌≡◌, ℕ, zero, suc, ◌-◌, Bool, true, false, cond, not, ◌||◌, List, [], ◌∷◌, filter, Option, Some, None, is_some, is_none, refl, sym, ap, ◌∙◌}
use Rattle.std.specs.List.{list_any}
use Rattle.gt_base.specs.declared.events.Fluent.TheVariants.{Enabled}
use Rattle.gt_base.specs.declared.policies.Caps.{Caps}
use Rattle.gt_base.specs.declared.policies.HierEdge.{HierEdge}
use Rattle.gtrbac_model.specs.Calendar.{day_of}
use Rattle.gtrbac_model.specs.Conflict.{Status}
use Rattle.gtrbac_model.specs.Graph.{item_at}
use Rattle.gtrbac_model.specs.Hierarchy.{activation_walk}
use Rattle.gtrbac_model.specs.Sessions.{Activation, caps_of, reached, is_dropped}
use Rattle.session_table.specs.Charges.{Charged}
use Rattle.session_table.specs.NextDrops.{limits_minutes, capped_in}
use Rattle.session_table.specs.Plans.{AllStand}
use Rattle.session_table.specs.Tables.{TableView, table_of, charged_through, dropped_at, is_capped}
use Rattle.session_table.proofs.Committing.{filter_by_items}

abbrev no_caps : Caps
no_caps = record { total = None; user = None; length = None; day = None }

abbrev at_role : List Caps → ℕ → Caps
at_role caps i = elim (item_at caps i) [ Some c ↦ c | None ↦ no_caps ]

-- the role at a place has no cap on minutes
unlimited : (caps : List Caps) → list_any limits_minutes caps ≡ false → (i : ℕ) → limits_minutes (at_role caps i) ≡ false
unlimited [] e i = refl
unlimited (c ∷ cs) e i = by (limits_minutes c) refl e (unlimited cs) i
  where
    by : (b : Bool) → limits_minutes c ≡ b → (b || list_any limits_minutes cs) ≡ false → (list_any limits_minutes cs ≡ false → (i : ℕ) → limits_minutes (at_role cs i) ≡ false)
        → (i : ℕ) → limits_minutes (at_role (c ∷ cs) i) ≡ false
    by true is e rest i = cc
    by false is e rest zero = is
    by false is e rest (suc i) = rest e i

never_reached : (l d : Option ℕ) → (is_some l || is_some d) ≡ false → (n m : ℕ) → (reached l n || reached d m) ≡ false
never_reached None None e n m = refl
never_reached (Some x) d e n m = cc
never_reached None (Some y) e n m = cc

module _ (caps : List Caps) (e : list_any limits_minutes caps ≡ false) (rows : Charged) (active : List Activation) (now t : ℕ) where
  pub not_capped : (a : Activation) → capped_in caps rows active now t a ≡ false
  not_capped a = never_reached (caps_of caps a.role).length (caps_of caps a.role).day (unlimited caps e a.role.0) _ _

  pub none_capped : (xs : List Activation) → list_any (capped_in caps rows active now t) xs ≡ false
  none_capped [] = refl
  none_capped (x ∷ xs) = ap (λ b. b || list_any (capped_in caps rows active now t) xs) (not_capped x) ∙ none_capped xs

  pub none_gone : (xs : List Activation) → [] ≡ filter (capped_in caps rows active now t) xs
  none_gone [] = refl
  none_gone (x ∷ xs) = none_gone xs ∙ sym (ap (λ b. cond b (x ∷ filter (capped_in caps rows active now t) xs) (filter (capped_in caps rows active now t) xs)) (not_capped x))

by_cap : (on none long spent : Bool) → on ≡ true → none ≡ false → (long || spent) ≡ (not on || none || long || spent)
by_cap true false long spent e f = refl
by_cap true true long spent e f = cc
by_cap false none long spent e f = cc

-- where each activation stands, the close of `to` drops those that a cap ends
pub still_drops : (edges : List HierEdge) (caps : List Caps) (s : Status) (now to : ℕ) (v : TableView) → AllStand edges s (table_of v)
    → filter (is_capped caps now (table_of v) to) v.active ≡ dropped_at edges caps s now to (table_of v)
still_drops edges caps s now to v h =
    filter_by_items (is_capped caps now (table_of v) to) (is_dropped edges caps s to (charged_through now to (table_of v))) v.active
    (λ i a is. by_cap (s (Enabled a.role)) (is_none (activation_walk edges s a.user a.role)) (reached (caps_of caps a.role).length (to - a.begun))
    (reached (caps_of caps a.role).day ((charged_through now to (table_of v)).charged a.user a.role (day_of to))) (h i a is).on (h i a is).allowed)
