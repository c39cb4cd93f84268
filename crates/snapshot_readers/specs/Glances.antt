-- What a glance shows, and of what.
use Rattle.std.specs.Prelude.{◌≡◌, ℕ, List, length}
use Rattle.gt_base.specs.declared.requests.Actor.{Actor}
use Rattle.gt_base.specs.declared.requests.Request.{Request}
use Rattle.gt_base.specs.declared.requests.Entry.{Entry}
use Rattle.gtrbac_model.specs.Policy.{Policy}
use Rattle.gtrbac_model.specs.Status.{Model}
use Rattle.gtrbac_model.specs.History.{Legal, now_of}
use Rattle.history_laws.specs.Named.{AreNamed}
use Rattle.connection_laws.specs.Desks.{IsReplyAt}
use Rattle.snapshot_readers.specs.declared.glass.Glanced.{Glanced}

-- the list is legal with some model, and its moves are the policy's
pub record IsHistory (p : Policy) (birth : ℕ) (h : List Entry) : Type 0 where
  pub model : Model
  pub legal : Legal p birth h model
  pub named : AreNamed p h

-- the reply at the history, its instant and its length
pub record IsGlance (p : Policy) (birth : ℕ) (h : List Entry) (actor : Actor) (request : Request)
    (g : Glanced) : Type 0 where
  pub reply : IsReplyAt p birth h actor request g.reply
  pub at : g.at ≡ now_of birth h
  pub len : g.len ≡ length h
