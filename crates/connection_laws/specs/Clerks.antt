-- What one request makes of a worker that answers it.
use Rattle.std.specs.Prelude.{◌≡◌, ℕ, ◌*◌, ◌^◌, List, length}
use Rattle.std.specs.declared.option.Option.{Option}
use Rattle.gt_base.specs.declared.requests.Who.{Who}
use Rattle.gt_base.specs.declared.requests.Actor.{Actor}
use Rattle.gt_base.specs.declared.requests.Request.{Request}
use Rattle.gt_base.specs.declared.requests.Entry.{Entry}
use Rattle.gt_io.specs.Links.{Reads}
use Rattle.turn_lock.specs.Holders.{Holder, rested}
use Rattle.connection_laws.specs.Lines.{Answer}
use Rattle.connection_laws.specs.Connection.{Asks, IsTimed, placed}
use Rattle.locked_history.specs.Fronts.{by}
use Rattle.connection_laws.specs.declared.clerk.Clerk.{Clerk}
use Rattle.connection_laws.specs.Services.{Service, service_at}
use Rattle.connection_laws.specs.Turns.{Grows, AreMine}

-- a worker as it answers: its pass, at rest, and the readings of its clock that are to come, where
-- they are told
pub record ClerkView (M : Type 0) : Type 0 where
  pub pass : Holder M
  pub clock : Option (ℕ → ℕ)

abbrev pub clerk_view : {M : Type 0} → Holder M → Option (ℕ → ℕ) → ClerkView M
clerk_view pass clock = record { pass = rested pass; clock = clock }

-- a pass that has drawn so many turns is worn after n of them: it has drawn as many as a pass may
abbrev pub WearsAt : ℕ → ℕ → Type 0
WearsAt draws n = (n ≡ 2 ^ 40) × (draws ≡ 2 ^ 40)

abbrev pub WearsClerk : {M : Type 0} → ClerkView M → ℕ → Type 0
WearsClerk k = WearsAt k.pass.draws

module _ {M : Type 0} (v : Service) (who : Who) where
  -- the request got what a connection's request gets, behind the entries that the pass had, and the
  -- pass and the clock went on by its entries and its one reading
  pub record ClerkAsks (a b : ClerkView M) (actor : Actor) (request : Request) (answer : Answer)
      (readings : List ℕ) (entries : List Entry) : Type 0 where
    pub asks : (birth : ℕ) → IsTimed birth v.legal v.now
        → Asks birth who b.pass.seen actor request answer (placed who v.first a.pass.own) readings
        entries
    pub mine : AreMine who entries
    pub grows : Grows a.pass b.pass entries (2 * length readings)
    pub reads : Reads a.clock b.clock readings
    pub one : length readings ≡ 1

-- it, with its pass at rest and nothing held back
abbrev pub rested_clerk : {M R C G : Type 0} → Clerk M R C G → Clerk M R C G
rested_clerk k = record k { pass = record k.pass { now = rested k.pass.now }; held = 0 }

-- what it was lent is the same
abbrev pub KeepsLent : {M R C G : Type 0} → Clerk M R C G → Clerk M R C G → Type 0
KeepsLent j k =
    (k.server ≡ j.server) × (k.pass.ghost_name ≡ j.pass.ghost_name)
    × (k.clock.ghost_name ≡ j.clock.ghost_name) × (k.reached.ghost_name ≡ j.reached.ghost_name)

-- over what the machine of its desk tells, and the readings of its clock
module _ {M R C G : Type 0} (list : M → List Entry) (legal : M → List Entry → Type 0)
    (now_of : M → List Entry → ℕ) (readings_by : C → Option (ℕ → ℕ)) where
  abbrev pub seen_clerk : Clerk M R C G → ClerkView M
  seen_clerk k = clerk_view k.pass.now (readings_by k.clock.now)

  abbrev pub service_of : Clerk M R C G → Service
  service_of k = service_at list legal now_of k.server.now.desk.now k.server.now.policy.now

  abbrev pub who_of : Clerk M R C G → Who
  who_of k = by k.pass.now.number k.server.now.conn

  -- so it is behind a request, which got what it gets at the desk
  pub record ClerkGets (j k : Clerk M R C G) (actor : Actor) (request : Request) (answer : Answer)
      (readings : List ℕ) (entries : List Entry) : Type 0 where
    pub keeps : KeepsLent j k
    pub asks : ClerkAsks (service_of j) (who_of j) (seen_clerk j) (seen_clerk k) actor request
        answer readings entries
