-- A refused request is read for no table and raises nothing.
use Rattle.std.proofs.Common.{◌≡◌, ℕ, List, [], refl}
use Rattle.gt_base.specs.Machines.{asked}
use Rattle.gt_base.specs.declared.requests.Who.{Who}
use Rattle.gt_base.specs.declared.requests.Actor.{Actor}
use Rattle.gt_base.specs.declared.requests.Request.{Request}
use Rattle.gt_base.specs.declared.requests.Request.TheVariants.{OpenSession, CloseSession, Activate, Deactivate, Raise}
use Rattle.gt_base.specs.declared.requests.Refusal.{Refusal}
use Rattle.gt_base.specs.declared.requests.Reply.TheVariants.{Refused}
use Rattle.gt_base.specs.declared.requests.Entry.{Entry}
use Rattle.gtrbac_model.specs.Policy.{Policy}
use Rattle.gtrbac_model.specs.Status.{Model}
use Rattle.gtrbac_model.specs.Sessions.{Table, applied}
use Rattle.gtrbac_model.specs.Base.{queued_at}
use Rattle.history_laws.specs.Histories.{RefusedChangesNothing, LegalWithoutRefused}
use Rattle.history_laws.specs.Looks.{ChangesNothing}
use Rattle.history_laws.proofs.Silent.{changes_nothing}

pub refused_leaves : (now : ℕ) (actor : Actor) (request : Request) (why : Refusal) (tb : Table) → applied now actor request (Refused why) tb ≡ tb
refused_leaves now actor OpenSession why tb = refl
refused_leaves now actor (CloseSession n) why tb = refl
refused_leaves now actor (Activate n r) why tb = refl
refused_leaves now actor (Deactivate n r) why tb = refl
refused_leaves now actor _ why tb = refl

pub refused_raises : (t : ℕ) (request : Request) (why : Refusal) → queued_at t request (Refused why) ≡ []
refused_raises t (Raise head delay) why = refl
refused_raises t _ why = refl

refused_is_silent : (p : Policy) (birth : ℕ) (m : Model) (g h : List Entry) (who : Who) (actor : Actor) (request : Request) (why : Refusal) → ChangesNothing p birth m g (asked who actor request (Refused why)) h
refused_is_silent p birth m g h who actor request why =
    changes_nothing who actor request (Refused why) (record { leaves = λ now tb. refused_leaves now actor request why tb; raises = λ t. refused_raises t request why }) p birth m g h

pub refused_changes_nothing : RefusedChangesNothing
refused_changes_nothing p birth m g h who actor request why = (refused_is_silent p birth m g h who actor request why).same

pub legal_without_refused : LegalWithoutRefused
legal_without_refused p birth m g h who actor request why legal = (refused_is_silent p birth m g h who actor request why).without legal
