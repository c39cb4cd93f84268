-- What a service begins with.
use Rattle.std.specs.Prelude.{◌≡◌, ◌≤◌, ℕ, List, [], length, replicate, All}
use Rattle.turn_lock.specs.Holders.{Lock, Holder, newcomers}
use Rattle.policy_words.specs.Naming.{NamedPolicy}
use Rattle.core_machine.specs.Books.{BookView}
use Rattle.ledger_laws.specs.Serving.{CanBeServed}
use Rattle.connection_laws.specs.Desks.{GlancesCanBeTold}
use Rattle.line_server.specs.declared.workers.Worker.{Worker}
use Rattle.snapshot_readers.specs.declared.viewers.Viewer.{Viewer}
use Rattle.snapshot_readers.specs.Glazed.{Glazed, fresh_glass}
use Rattle.snapshot_readers.specs.Seats.{IsNewViewer}
use Rattle.gtrbac_daemon.specs.Crew.{IsNew}

-- a ledger of this policy, whose connections can ask it, without entries
pub record IsNewLedger (np : NamedPolicy) (l : BookView) : Type 0 where
  pub named : l.named ≡ np
  pub empty : l.entries ≡ []
  pub served : CanBeServed l

-- a desk over such a ledger, with so many passes that have drawn nothing
pub record IsNewDesk (np : NamedPolicy) (count : ℕ) (desk : Lock BookView)
    (passes : List (Holder BookView)) : Type 0 where
  pub ledger : IsNewLedger np desk.root
  pub count_is : desk.passes ≡ count
  pub passes_are : passes ≡ newcomers desk [] 0 count

-- the ledger of a board, with so many glasses that have seen nothing, whose glances can be told
pub record IsNewBoard (np : NamedPolicy) (count : ℕ) (l : BookView) (glasses : List Glazed) : Type 0
  where
    pub ledger : IsNewLedger np l
    pub told : GlancesCanBeTold np l.birth
    pub glasses_are : glasses ≡ replicate count (fresh_glass np l.birth)

-- one to eight workers that have not begun
pub record IsNewCrew {D C G L : Type 0} (crew : List (Worker D C G L)) : Type 0 where
  pub some : 1 ≤ length crew
  pub few : length crew ≤ 8
  pub new : All (λ w. IsNew w) crew

-- and one to eight such viewers beside them
pub record IsNewCompany {D C G L : Type 0} (crew : List (Worker D C G L))
    (viewers : List (Viewer D G L)) : Type 0 where
  pub workers : IsNewCrew crew
  pub some : 1 ≤ length viewers
  pub few : length viewers ≤ 8
  pub new : All (λ v. IsNewViewer v) viewers
