-- What an answered activation does to the table, where its session has an owner and where it has none.
use Rattle.std.proofs.Common.{◌≡◌, ℕ, true, [], ◌∷◌, ◌++◌, Option, Some, None, refl}
use Rattle.gt_base.specs.Held.{RoleWalk}
use Rattle.gt_base.specs.declared.events.RoleId.{RoleId}
use Rattle.gt_base.specs.declared.events.UserId.{UserId}
use Rattle.gt_base.specs.declared.events.SessionId.{SessionId}
use Rattle.gt_base.specs.declared.requests.Actor.{Actor}
use Rattle.gt_base.specs.declared.requests.Request.TheVariants.{Activate}
use Rattle.gt_base.specs.declared.requests.Reply.TheVariants.{Active}
use Rattle.gtrbac_model.specs.Sessions.{Table, Activation, applied, owner_of, signal_of}

module _ (now : ℕ) (actor : Actor) (n : SessionId) (r : RoleId) (w : RoleWalk) (tb : Table) where
  abbrev pub activated_in : Table
  activated_in = applied now actor (Activate n r) (Active w) tb

  abbrev pub begun_by : UserId → Activation
  begun_by u = record { session = n; user = u; role = r; begun = now }

  pub active_some : (u : UserId) → owner_of tb n ≡ Some u → activated_in.active ≡ tb.active ++ begun_by u ∷ []
  active_some u e = rw e refl

  pub signals_some : (u : UserId) → owner_of tb n ≡ Some u → activated_in.signals ≡ tb.signals ++ signal_of true (begun_by u) ∷ []
  signals_some u e = rw e refl

  pub active_none : owner_of tb n ≡ None → activated_in.active ≡ tb.active
  active_none e = rw e refl

  pub signals_none : owner_of tb n ≡ None → activated_in.signals ≡ tb.signals
  signals_none e = rw e refl

  pub sessions_stay : (o : Option UserId) → owner_of tb n ≡ o → activated_in.sessions ≡ tb.sessions
  sessions_stay None e = rw e refl
  sessions_stay (Some u) e = rw e refl
