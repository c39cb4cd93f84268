-- What lets a user activate a role, in the words of the rows.
use Rattle.std.specs.Prelude.{◌≡◌, ℕ, Bool, false, List, [], ◌∷◌, ◌++◌, map, count_by, Some, None, is_none}
use Rattle.std.specs.List.{list_any}
use Rattle.gt_base.specs.declared.events.RoleId.{RoleId}
use Rattle.gt_base.specs.declared.events.UserId.{UserId}
use Rattle.gt_base.specs.declared.events.SessionId.{SessionId}
use Rattle.gt_base.specs.declared.policies.Caps.{Caps}
use Rattle.gt_base.specs.declared.policies.HierEdge.{HierEdge}
use Rattle.gt_base.specs.declared.requests.Actor.{Actor}
use Rattle.gt_base.specs.declared.requests.Request.TheVariants.{Activate}
use Rattle.gt_base.specs.declared.requests.Reply.TheVariants.{Active}
use Rattle.gt_base.specs.declared.requests.Refusal.{Refusal}
use Rattle.gt_base.specs.declared.requests.Refusal.TheVariants.{NotAssigned}
use Rattle.gt_base.specs.Held.{RoleWalk}
use Rattle.gtrbac_model.specs.Same.{same_role}
use Rattle.gtrbac_model.specs.Calendar.{day_of}
use Rattle.gtrbac_model.specs.Conflict.{Status}
use Rattle.gtrbac_model.specs.Hierarchy.{activation_walk}
use Rattle.gtrbac_model.specs.Sessions.{Table, Activation, caps_of, is_of, is_active_in, owner_of}
use Rattle.gtrbac_model.specs.Reply.{session_causes}
use Rattle.session_table.specs.declared.faults.SessionFault.{SessionFault}
use Rattle.session_table.specs.declared.faults.SessionFault.TheVariants.{Refused, Memory}
use Rattle.session_table.specs.declared.opened.Open.{Open}
use Rattle.session_table.specs.Opened.{opened, still_open, role_in}
use Rattle.session_table.specs.Causes.{first_cause, StandsAt, with_sessions, early_causes, late_causes}
use Rattle.session_table.specs.Charges.{Charged, charged_in}
use Rattle.session_table.specs.Replies.{AnswersAt}

-- the table of these rows, no signals told
abbrev pub rows_table : List Open → List Activation → Charged → ℕ → Table
rows_table os active charges begun =
    record {
      sessions = map opened (still_open os);
      active = active;
      charged = charged_in charges;
      begun = begun;
      signals = [];
    }

-- the session stands at the place and is of the user, whom neither it nor the role's status refuses
pub record IsReadyUser (s : Status) (actor : Actor) (n : SessionId) (r : RoleId) (os : List Open)
    (at : ℕ) (u : UserId) : Type 0 where
  pub stands : StandsAt os n at
  pub owner : (tb : Table) → owner_of (with_sessions os tb) n ≡ Some u
  pub may : (tb : Table) → first_cause (session_causes (with_sessions os tb) actor n) ≡ None
  pub early : first_cause (early_causes s (role_in os n r) r) ≡ None

-- the refusal is the first cause before a walk is asked
abbrev pub IsFirstCause : Status → Actor → SessionId → RoleId → List Open → Refusal → Type 0
IsFirstCause s actor n r os x =
    (tb : Table)
    → first_cause
    (session_causes (with_sessions os tb) actor n ++ early_causes s (role_in os n r) r)
    ≡ Some x

-- what refuses the user from the walk on
abbrev pub walk_causes : List HierEdge → List Caps → Status → ℕ → List Activation → Charged → UserId
    → RoleId → List (Bool × Refusal)
walk_causes edges caps s now active charges u r =
    (is_none (activation_walk edges s u r), NotAssigned)
    ∷ late_causes (caps_of caps r) (count_by (λ a. same_role a.role r) active)
    (count_by (is_of u r) active) (charged_in charges u r (day_of now))

-- the walk is the model's, and nothing from it on refuses
pub record Lets (edges : List HierEdge) (caps : List Caps) (s : Status) (now : ℕ)
    (active : List Activation) (charges : Charged) (u : UserId) (r : RoleId) (w : RoleWalk)
    : Type 0 where
  pub walk : activation_walk edges s u r ≡ Some w
  pub late : first_cause (walk_causes edges caps s now active charges u r) ≡ None

-- the fault is want of memory, or the first of the causes
abbrev pub IsCauseOf : SessionFault → List (Bool × Refusal) → Type 0
IsCauseOf (Refused x) causes = first_cause causes ≡ Some x
IsCauseOf Memory causes = Unit {0}

-- the user's activation in the session at the place is answered with the walk, and the role is not
-- active there yet
pub record IsPermitted (edges : List HierEdge) (caps : List Caps) (s : Status) (now : ℕ)
    (actor : Actor) (n : SessionId) (r : RoleId) (os : List Open) (active : List Activation)
    (charges : Charged) (at : ℕ) (u : UserId) (w : RoleWalk) : Type 0 where
  pub stands : StandsAt os n at
  pub owner : (tb : Table) → owner_of (with_sessions os tb) n ≡ Some u
  pub fresh : list_any (is_active_in n r) active ≡ false
  pub answer : (begun : ℕ)
      → AnswersAt edges caps s now (rows_table os active charges begun) actor (Activate n r)
      (Active w)
