-- What the close of an instant drops, in the words of the rows.
use Rattle.std.specs.Prelude.{◌≡◌, ℕ, ◌+◌, ◌-◌, ◌*◌, Bool, ◌||◌, not, List, count_by, is_none, IfSome}
use Rattle.std.specs.Map.{lookup}
use Rattle.gt_base.specs.declared.events.RoleId.{RoleId}
use Rattle.gt_base.specs.declared.events.UserId.{UserId}
use Rattle.gt_base.specs.declared.events.Fluent.TheVariants.{Enabled}
use Rattle.gt_base.specs.declared.policies.Caps.{Caps}
use Rattle.gt_base.specs.declared.policies.HierEdge.{HierEdge}
use Rattle.gtrbac_model.specs.Calendar.{day_of}
use Rattle.gtrbac_model.specs.Conflict.{Status}
use Rattle.gtrbac_model.specs.Hierarchy.{activation_walk}
use Rattle.gtrbac_model.specs.Sessions.{Activation, caps_of, reached, is_of}
use Rattle.history_laws.specs.Tables.{minutes_of_day}
use Rattle.session_table.specs.Charges.{Charged, charged_in}
use Rattle.session_table.specs.declared.dropping.AskedWalk.{AskedWalk}
use Rattle.session_table.specs.contracts.dropping.AskedWalkPartialEq.TheImpl as asked_equality

-- what is charged on the civil day of `to`, where the minutes after now are charged to each
-- activation
abbrev pub spent_by : Charged → List Activation → ℕ → ℕ → UserId → RoleId → ℕ
spent_by rows active now to u r =
    charged_in rows u r (day_of to) + minutes_of_day now (to - now) (day_of to) * count_by
    (is_of u r) active

-- whether the close of `to` drops the activation
abbrev pub is_dropped : List HierEdge → List Caps → Status → Charged → List Activation → ℕ → ℕ
    → Activation → Bool
is_dropped edges caps s rows active now to a =
    not (s (Enabled a.role))
    || is_none (activation_walk edges s a.user a.role)
    || reached (caps_of caps a.role).length (to - a.begun)
    || reached (caps_of caps a.role).day (spent_by rows active now to a.user a.role)

abbrev pub asked_eq : AskedWalk → AskedWalk → Bool
asked_eq = asked_equality.ghosts.eq

-- what the rows say of a user and a role is whether no walk of usable edges lets the one activate
-- the other
abbrev pub AreBarred : List HierEdge → Status → List (AskedWalk × Bool) → Type 0
AreBarred edges s rows =
    (u : UserId) (r : RoleId)
    → IfSome (lookup (asked_eq (record { user = u; role = r })) rows)
    (λ b. b ≡ is_none (activation_walk edges s u r))
