-- What a crew leaves: one history with one model, and each link's part of it.
use Rattle.std.specs.Prelude.{◌≡◌, ℕ, ◌+◌, ◌*◌, ◌≤◌, true, List, [], ◌∷◌, ◌++◌, length}
use Rattle.gt_base.specs.declared.requests.Entry.{Entry}
use Rattle.gt_io.specs.Links.{Traffic, Reads}
use Rattle.turn_lock.specs.Turns.{part}
use Rattle.locked_history.specs.Fronts.{by}
use Rattle.policy_words.specs.Naming.{NamedPolicy}
use Rattle.connection_laws.specs.Lines.{asked_in, denied_in}
use Rattle.connection_laws.specs.Connection.{part_of}
use Rattle.line_server.specs.declared.ended.Served.{Served}
use Rattle.line_server.specs.Serving.{IsServedLink}
use Rattle.line_server.specs.Working.{Tale, begun_of, hours_of, WorksTo}
use Rattle.connection_laws.specs.Doors.{Gives, AddUp}
use Rattle.gtrbac_daemon.specs.Crew.{Crewman}
use Rattle.gtrbac_daemon.specs.Runs.{Headline}

module _ {L : Type 0} (traffic : L → Traffic) (np : NamedPolicy) (birth : ℕ) (h : List Entry)
    (w : ℕ) where
  -- Link c of worker w was served as this is told: it satisfies the definition of a connection over
  -- the whole history, with its part of it as its own entries
  pub record IsServed (c : ℕ) (s : Served L) (x : Tale L) : Type 0 where
    pub own : x.own ≡ part_of (by w c) h
    pub link : IsServedLink np birth (by w c) h 0 x.draws (traffic x.begun) (traffic s.link)
        x.taken x.readings x.own x.given x.acted s.report.outcome
    pub asked : s.report.asked ≡ asked_in x.acted
    pub denied : s.report.denied ≡ denied_in x.acted

  -- the links from number c on
  abbrev pub AreServed : ℕ → List (Served L) → List (Tale L) → Type 0
  AreServed c [] [] = Unit {0}
  AreServed c (s ∷ ss) (x ∷ xs) = IsServed c s x × AreServed (c + 1) ss xs
  AreServed c _ _ = ⊥

  -- the parts of the connections from number c on, one after the other
  abbrev pub parts_from : ℕ → List (Served L) → List Entry
  parts_from c [] = []
  parts_from c (s ∷ ss) = part_of (by w c) h ++ parts_from (c + 1) ss

  -- Worker w: its served links are the first of its door, the readings of its clock are theirs one
  -- after the other, and so is its part of the history, so that no other connection of it has an
  -- entry
  pub record HasWorked (a b : Crewman L) : Type 0 where
    pub tales : List (Tale L)
    pub links : AreServed 1 b.served tales
    pub door : Gives a.door.links b.door.links (begun_of tales)
    pub counted : AddUp a.door.links b.door.links b.served
    pub readings : Reads a.clock b.clock (hours_of tales)
    pub parts : part w h ≡ parts_from 1 b.served
    pub draws : ℕ
    pub few_draws : draws ≤ length (part w h) + 2 * length (hours_of tales)
    pub cause : WorksTo b.door.links a.door.tally b.door.tally draws b.served b.outcome
    pub closed : b.door.closed ≡ true

-- the workers from number w on
abbrev pub HaveWorked : {L : Type 0} → (L → Traffic) → NamedPolicy → ℕ → List Entry → ℕ
    → List (Crewman L) → List (Crewman L) → Type 0
HaveWorked traffic np birth h w [] [] = Unit {0}
HaveWorked traffic np birth h w (a ∷ as') (b ∷ bs) =
    HasWorked traffic np birth h w a b × HaveWorked traffic np birth h (w + 1) as' bs
HaveWorked traffic np birth h w _ _ = ⊥

-- what a crew leaves: one history with one model, and each link's part of it
abbrev pub CrewHeadline : {L : Type 0} → (L → Traffic) → NamedPolicy → ℕ → List (Crewman L)
    → List (Crewman L) → List Entry → Type 0
CrewHeadline traffic np birth crew crew' h =
    Headline np birth h (length crew) (HaveWorked traffic np birth h 0 crew crew')
