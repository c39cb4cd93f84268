-- An activation joins the table.
use Rattle.std.proofs.Common.{◌≡◌, ℕ, true, [], ◌∷◌, ◌++◌, Option, Some, None, ap}
use Rattle.gt_base.specs.declared.events.RoleId.{RoleId}
use Rattle.gt_base.specs.declared.events.UserId.{UserId}
use Rattle.gt_base.specs.declared.events.SessionId.{SessionId}
use Rattle.gt_base.specs.declared.requests.Actor.{Actor}
use Rattle.gt_base.specs.declared.requests.Request.TheVariants.{Activate}
use Rattle.gt_base.specs.declared.requests.Reply.TheVariants.{Active}
use Rattle.gt_base.specs.Held.{RoleWalk}
use Rattle.gtrbac_model.specs.Sessions.{Table, Activation, owner_of, applied, signal_of}

abbrev pub activation : SessionId → UserId → RoleId → ℕ → Activation
activation n u r t = record { session = n; user = u; role = r; begun = t }

abbrev entering : ℕ → SessionId → RoleId → Option UserId → Table → Table
entering now n r None tb = tb
entering now n r (Some u) tb = record tb { active = tb.active ++ activation n u r now ∷ []; signals = tb.signals ++ signal_of true (activation n u r now) ∷ [] }

pub entered_is : (now : ℕ) (n : SessionId) (r : RoleId) (tb : Table) (actor : Actor) (w : RoleWalk) (u : UserId) → owner_of tb n ≡ Some u
    → applied now actor (Activate n r) (Active w) tb ≡ record tb { active = tb.active ++ activation n u r now ∷ []; signals = tb.signals ++ signal_of true (activation n u r now) ∷ [] }
entered_is now n r tb actor w u own = ap (λ o. entering now n r o tb) own
