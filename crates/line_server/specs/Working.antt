-- What a worker keeps from link to link.
use Rattle.std.specs.Prelude.{◌≡◌, ℕ, ◌+◌, ◌*◌, ◌^◌, ◌<◌, true, false, List, [], ◌∷◌, ◌++◌, length, drop, IfSome, MatchOption}
use Rattle.std.specs.declared.option.Option.{Option}
use Rattle.gt_base.specs.declared.requests.Entry.{Entry}
use Rattle.gt_base.specs.declared.limits.TheConstants.{MAX_LINKS}
use Rattle.gt_io.specs.Memory.{one_more}
use Rattle.gt_io.specs.Links.{Traffic, Tally, Doorway, IsFresh, Reads}
use Rattle.turn_lock.specs.Turns.{Each, part}
use Rattle.turn_lock.specs.Holders.{Site, Holder, IsToldBy}
use Rattle.locked_history.specs.Fronts.{by}
use Rattle.connection_laws.specs.declared.ends.LinkEnd.TheVariants.{Worn as LinkWorn}
use Rattle.connection_laws.specs.Doors.{Gives}
use Rattle.connection_laws.specs.Lines.{Acted, asked_in, denied_in}
use Rattle.connection_laws.specs.Connection.{part_of, IsTimed, placed, Conn}
use Rattle.connection_laws.specs.Services.{Service}
use Rattle.line_server.specs.declared.ended.Served.{Served}
use Rattle.line_server.specs.declared.ended.WorkEnd.{WorkEnd}
use Rattle.line_server.specs.declared.ended.WorkEnd.TheVariants.{Fresh, Done, DoorFault, Enough, Worn, Memory}
use Rattle.line_server.specs.declared.posts.Post.{Post}
use Rattle.line_server.specs.declared.workers.Worker.{Worker}
use Rattle.connection_laws.specs.Turns.{IsIdle, Grows, AreMine}
use Rattle.connection_laws.specs.Attending.{bytes_of, Carries, EndsBy, is_worn_out}
use Rattle.connection_laws.specs.Clerks.{WearsAt}

-- what there is to tell of a served link: the link as the door gave it, its bytes, readings, own
-- entries and acted lines, and the draws at its end
pub record Tale (L : Type 0) : Type 0 where
  pub begun : L
  pub taken : List ℕ
  pub given : List ℕ
  pub readings : List ℕ
  pub own : List Entry
  pub acted : List Acted
  pub draws : ℕ

abbrev pub begun_of : {L : Type 0} → List (Tale L) → List L
begun_of [] = []
begun_of (x ∷ xs) = x.begun ∷ begun_of xs

abbrev pub hours_of : {L : Type 0} → List (Tale L) → List ℕ
hours_of [] = []
hours_of (x ∷ xs) = x.readings ++ hours_of xs

abbrev pub owns_of : {L : Type 0} → List (Tale L) → List Entry
owns_of [] = []
owns_of (x ∷ xs) = x.own ++ owns_of xs

abbrev pub AllUnworn : {L : Type 0} → List (Served L) → Type 0
AllUnworn {L} served = Each (λ (s : Served L). is_worn_out s.report.outcome ≡ false) served

-- a moment of a worker: its pass, the readings of its clock that are to come, where they are told,
-- and its door
pub record WorkerSpot (M L : Type 0) : Type 0 where
  pub pass : Holder M
  pub clock : Option (ℕ → ℕ)
  pub door : Doorway L

abbrev pub worker_spot : {M L : Type 0} → Holder M → Option (ℕ → ℕ) → Doorway L → WorkerSpot M L
worker_spot pass clock door = record { pass = pass; clock = clock; door = door }

-- a worker at its post, its served links, and how it ended
pub record PostView (M L : Type 0) : Type 0 where
  pub spot : WorkerSpot M L
  pub served : List (Served L)
  pub outcome : WorkEnd

abbrev pub post_view : {M D C G L : Type 0} → (C → Option (ℕ → ℕ)) → (D → Doorway L) → Holder M
    → Worker D C G L → PostView M L
post_view readings doorway pass w =
    record {
      spot = worker_spot pass (readings w.clock) (doorway w.door);
      served = w.served.items;
      outcome = w.outcome;
    }

abbrev pub at_post : {M D C G L : Type 0} → (C → Option (ℕ → ℕ)) → (D → Doorway L) → Post M D C G L
    → PostView M L
at_post readings doorway p = post_view readings doorway p.pass p.worker

-- Each end has its cause. A door that gave none or has failed is asked no more, and that ends the
-- work
abbrev pub WorksTo : {L : Type 0} → Option (List L) → Tally → Tally → ℕ → List (Served L) → WorkEnd
    → Type 0
WorksTo {L} links t t' draws served Done =
    AllUnworn served × (length served < MAX_LINKS) × IfSome links (λ ls. ls ≡ [])
    × (t' ≡ record t { ends = one_more t.ends })
WorksTo {L} links t t' draws served DoorFault =
    AllUnworn served × (length served < MAX_LINKS)
    × (t' ≡ record t { faults = one_more t.faults })
WorksTo {L} links t t' draws served Enough =
    AllUnworn served × (length served ≡ MAX_LINKS) × (t' ≡ t)
WorksTo {L} links t t' draws served (Worn n) =
    (front : List (Served L)) × (last : Served L) × (served ≡ front ++ last ∷ []) × AllUnworn front
    × (last.report.outcome ≡ LinkWorn n) × (n ≡ 2 ^ 40) × (draws ≡ 2 ^ 40) × (t' ≡ t)
WorksTo {L} links t t' draws served Memory =
    AllUnworn served × (length served < MAX_LINKS) × (t' ≡ t)
WorksTo {L} links t t' draws served Fresh = ⊥

module _ {L : Type 0} (traffic : L → Traffic) (v : Service) (number : ℕ) where
  -- link c of the worker was served as this is told, over a history; own are the entries that its
  -- pass had before the first link
  pub record IsServedSoFar (h : List Entry) (own : List Entry) (c : ℕ) (s : Served L) (x : Tale L)
      : Type 0 where
    pub fresh : IsFresh (traffic x.begun)
    pub conn : (birth : ℕ) → IsTimed birth v.legal v.now
        → Conn v.policy birth (by number c) h (placed (by number c) v.first own) x.taken
        x.readings x.own x.given x.acted s.report.outcome
    pub mine : AreMine (by number c) x.own
    pub asked : s.report.asked ≡ asked_in x.acted
    pub denied : s.report.denied ≡ denied_in x.acted
    pub carries : Carries (bytes_of (traffic x.begun)) (bytes_of (traffic s.link)) x.taken x.given
    pub cause : EndsBy (WearsAt x.draws) (traffic x.begun) (traffic s.link) x.taken
        s.report.outcome
    pub finished : (traffic s.link).finished ≡ true

  -- the links from number c on
  abbrev pub AreServedSoFar : List Entry → List Entry → ℕ → List (Served L) → List (Tale L) → Type 0
  AreServedSoFar h own c [] [] = Unit {0}
  AreServedSoFar h own c [] (x ∷ xs) = ⊥
  AreServedSoFar h own c (s ∷ ss) [] = ⊥
  AreServedSoFar h own c (s ∷ ss) (x ∷ xs) =
      IsServedSoFar h own c s x × AreServedSoFar h own (c + 1) ss xs

module _ {M L : Type 0} (traffic : L → Traffic) (v : Service) (number : ℕ) where
  pub record WorkedSoFar (o p : WorkerSpot M L) (served : List (Served L)) (tales : List (Tale L))
      : Type 0 where
    pub links : AreServedSoFar traffic v number p.pass.seen o.pass.own 1 served tales
    pub grows : Grows o.pass p.pass (owns_of tales) (2 * length (hours_of tales))
    pub reads : Reads o.clock p.clock (hours_of tales)
    pub door : Gives o.door.links p.door.links (begun_of tales)

  -- what one more link comes to
  abbrev pub WorksOn : WorkerSpot M L → WorkerSpot M L → List (Served L) → List (Served L)
      → Option WorkEnd → Type 0
  WorksOn p p' served served' result =
      (o : WorkerSpot M L) (tales : List (Tale L)) → WorkedSoFar o p served tales → AllUnworn served
      → (tales' : List (Tale L)) × WorkedSoFar o p' served' tales'
      × MatchOption result (AllUnworn served' × (p'.door.tally ≡ p.door.tally))
      (λ end. WorksTo p'.door.links p.door.tally p'.door.tally p'.pass.draws served' end)

  -- all the work of a worker
  pub record WorksThrough (o p : WorkerSpot M L) (served : List (Served L)) (end : WorkEnd)
      : Type 0 where
    pub tales : List (Tale L)
    pub worked : WorkedSoFar o p served tales
    pub cause : WorksTo p.door.links o.door.tally p.door.tally p.pass.draws served end

module _ {M L : Type 0} (traffic : L → Traffic) (v : Service) where
  -- What a worker and its pass come to. The pass is idle again, and the door was closed
  pub record HasWorkedAtPost (site : Site M) (a b : PostView M L) : Type 0 where
    pub works : WorksThrough traffic v a.spot.pass.number a.spot b.spot b.served b.outcome
    pub idle : IsIdle site b.spot.pass
    pub number_is : b.spot.pass.number ≡ a.spot.pass.number
    pub closed : b.spot.door.closed ≡ true

-- the own entries of each link are the part of its connection
abbrev pub AreOwnParts : {L : Type 0} → List Entry → ℕ → ℕ → List (Tale L) → Type 0
AreOwnParts es w c [] = Unit {0}
AreOwnParts es w c (x ∷ xs) = (part_of (by w c) es ≡ x.own) × AreOwnParts es w (c + 1) xs

-- Over the history h of a closed desk, of a worker whose pass had no entry before: each of its
-- links is told over h, its part of h is the own entries of its links one after the other, and the
-- own entries of each link are the part of its connection
abbrev pub IsTellingOfWorkers : (M : Type 0) {L : Type 0} → (L → Traffic) → Service → Type 0
IsTellingOfWorkers M {L} traffic v =
    (w : ℕ) (o p : WorkerSpot M L) (served : List (Served L)) (end : WorkEnd) (h : List Entry)
    → o.pass.own ≡ [] → p.pass.number ≡ w
    → WorksThrough traffic v w o p served end → IsToldBy v.first h p.pass
    → (tales : List (Tale L)) × AreServedSoFar traffic v w h [] 1 served tales
    × (part w (drop (length v.first) h) ≡ owns_of tales)
    × AreOwnParts (drop (length v.first) h) w 1 tales
    × Gives o.door.links p.door.links (begun_of tales)
