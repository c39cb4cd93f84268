-- The table of links, and what each link is told over the history of its closed desk.
use Rattle.std.specs.Prelude.{◌≡◌, ℕ, zero, suc, ◌+◌, ◌^◌, ◌<◌, ◌≤◌, Bool, true, false, List, [], ◌++◌, map, length, take, slice_get, Option, Some, None, Result, Ok, Err, MatchOption}
use Rattle.gt_base.specs.declared.requests.Entry.{Entry}
use Rattle.gt_base.specs.declared.requests.Actor.TheVariants.{Nobody}
use Rattle.gt_base.specs.declared.limits.TheConstants.{MAX_BYTES, MAX_LINKS}
use Rattle.turn_lock.specs.Turns.{Each, part}
use Rattle.turn_lock.specs.Holders.{Holder, IsToldBy}
use Rattle.policy_words.specs.Naming.{NamedPolicy}
use Rattle.gt_io.specs.Frames.{blank_frame}
use Rattle.gt_io.specs.Causes.{Rose}
use Rattle.gt_io.specs.Links.{IsNothing, Reads}
use Rattle.gt_io.specs.declared.source.Failed.{Failed}
use Rattle.connection_laws.specs.declared.talk.LineAnswer.TheVariants.{Silence}
use Rattle.connection_laws.specs.Lines.{Acted, readings_of, entries_of, asked_in, denied_in}
use Rattle.connection_laws.specs.Services.{Service, service}
use Rattle.connection_laws.specs.Attending.{Bytes, Carries}
use Rattle.poll_front.specs.declared.ends.Polled.{Polled}
use Rattle.poll_front.specs.declared.ends.PollEnd.{PollEnd}
use Rattle.poll_front.specs.declared.ends.PollEnd.TheVariants.{Full, Stopped, Worn}
use Rattle.poll_front.specs.declared.front.RunEnd.{RunEnd}
use Rattle.poll_front.specs.declared.front.RunEnd.TheVariants.{Stopped as EndStopped, PortFault, Enough, Worn as EndWorn, Memory}
use Rattle.poll_front.specs.declared.states.LinkState.{LinkState}
use Rattle.poll_front.specs.declared.states.RunCounters.{RunCounters}
use Rattle.poll_front.specs.declared.seats.LinkRow.{LinkRow}
use Rattle.poll_front.specs.declared.seats.LinkRow.TheVariants.{New, Open, Over}
use Rattle.gt_io.specs.declared.port.PortEvent.{PortEvent}
use Rattle.gt_io.specs.declared.port.PortEvent.TheVariants.{Opened, Ready, Stop}
use Rattle.gt_io.specs.Ports.{Port, Harbour, IsOpen, is_over, KeepsRest, open_among}
use Rattle.poll_front.specs.Fronts.{Turn, FrontSpot, front_spot, acted_of, faults_by, ends_told_by, port_bytes, course, Rests, EndsLink, HasOwnEnd, polled_as, CanServe, Running, all_acted, EndsAs, PollsBy}
use Rattle.poll_front.specs.declared.front.TheConstants.{MAX_OPEN}
use Rattle.gt_base.specs.declared.requests.Who.{Who}
use Rattle.gt_io.specs.declared.port.Called.{Called}
use Rattle.locked_history.specs.Fronts.{by}
use Rattle.connection_laws.specs.declared.ends.LinkEnd.{LinkEnd}
use Rattle.connection_laws.specs.Connection.{part_of, IsTimed, Conn}

-- the state of a link before its first byte
pub record IsFreshState (s : LinkState) : Type 0 where
  pub framer : s.framer ≡ blank_frame
  pub actor : s.talk.actor ≡ Nobody
  pub counts : (s.talk.asked ≡ 0) × (s.talk.denied ≡ 0)
  pub told : (s.told ≡ Silence) × (s.at ≡ 0)
  pub left : s.left ≡ MAX_BYTES
  pub waits : (s.from ≡ 0) × (s.upto ≡ 0)

-- a place that was not served yet gets what is kept of its link
abbrev pub TakesState : LinkRow → LinkRow → Type 0
TakesState New (Open b) = IsFreshState b.value
TakesState New _ = ⊥
TakesState s s' = s' ≡ s

-- what the service of a link asks of its place
abbrev pub CanServeSeat : NamedPolicy → Harbour → ℕ → RunCounters → LinkRow → Type 0
CanServeSeat np a c counters New = ⊥
CanServeSeat np a c counters (Open b) = CanServe np a c counters b.value
CanServeSeat np a c counters (Over e) = Unit {0}

-- a link is let go at once exactly where as many others were open as may be
abbrev pub IsLetIn : ℕ → PollEnd → Type 0
IsLetIn others Full = others ≡ MAX_OPEN
IsLetIn others _ = others < MAX_OPEN

-- what stands in the place of a link
abbrev pub Sits : NamedPolicy → Bytes → Port → List Acted → LinkRow → Type 0
Sits np start q acted New =
    (acted ≡ []) × (port_bytes q ≡ start) × (is_over q.last ≡ false) × (q.finished ≡ None)
    × (q.others < MAX_OPEN)
Sits np start q acted (Open b) =
    Rests np start (course q) b.value acted × (q.finished ≡ None) × (q.others < MAX_OPEN)
Sits np start q acted (Over e) =
    EndsLink np start (course q) acted e × ((n : ℕ) × (q.finished ≡ Some n))
    × IsLetIn q.others e.outcome × HasOwnEnd e.outcome

-- nothing has gone over the link yet
abbrev pub IsBlank : Port → Type 0
IsBlank q = IsNothing q.taken × IsNothing q.given

-- when a link was finished: one that was open at the end was so behind the last call of `next`
abbrev pub IsLetGo : ℕ → Option ℕ → PollEnd → Type 0
IsLetGo nexts finished Stopped = finished ≡ Some nexts
IsLetGo nexts finished _ = (n : ℕ) × (finished ≡ Some n)

-- before the first event
abbrev pub first_spot : {M : Type 0} → Holder M → Option (ℕ → ℕ) → FrontSpot M
first_spot pass clock = front_spot pass clock (record { calls = 0; reached = None })

-- `next` was not called yet, or told last that a link was opened or is ready
abbrev pub MayGoOn : Option (Result PortEvent Failed) → Type 0
MayGoOn None = Unit {0}
MayGoOn (Some (Ok (Opened c))) = Unit {0}
MayGoOn (Some (Ok (Ready c))) = Unit {0}
MayGoOn (Some (Ok Stop)) = ⊥
MayGoOn (Some (Err f)) = ⊥

-- how many of these the first n links have shown, each by its last call
abbrev pub count_among : (Called → ℕ) → (ℕ → Port) → ℕ → ℕ
count_among one port zero = 0
count_among one port (suc n) = count_among one port n + one (port (n + 1)).last

-- and `next`, as it was last called
abbrev pub faults_told : Option (Result PortEvent Failed) → ℕ
faults_told None = 0
faults_told (Some (Ok event)) = 0
faults_told (Some (Err f)) = 1

-- Each call that failed is the last read or write of its link, or the last call of `next`: the
-- count rose by no more than these
abbrev pub FaultsAreLast : Harbour → Harbour → Type 0
FaultsAreLast start b =
    b.faults ≤ start.faults + (count_among faults_by b.port b.opened + faults_told b.told)

-- Each read that told the end of a link is its last call: the count rose by no more than these
abbrev pub EndsAreLast : Harbour → Harbour → Type 0
EndsAreLast start b = b.ends ≤ start.ends + count_among ends_told_by b.port b.opened

abbrev pub is_worn_end : PollEnd → Bool
is_worn_end (Worn n) = true
is_worn_end _ = false

abbrev pub AreUnwornEnds : List Polled → Type 0
AreUnwornEnds ends =
    (i : ℕ) (e : Polled) → slice_get ends i ≡ Some e → is_worn_end e.outcome ≡ false

-- why a run ended
abbrev pub RunsTo : Harbour → Harbour → ℕ → List Polled → RunEnd → Type 0
RunsTo start b draws ends EndStopped =
    (b.told ≡ Some (Ok Stop)) × (b.opened < MAX_LINKS) × AreUnwornEnds ends
RunsTo start b draws ends PortFault =
    ((f : Failed) × (b.told ≡ Some (Err f))) × Rose start.faults b.faults × (b.opened < MAX_LINKS)
    × AreUnwornEnds ends
RunsTo start b draws ends Enough =
    ((c : ℕ) × (b.told ≡ Some (Ok (Opened c)))) × (b.opened ≡ MAX_LINKS) × AreUnwornEnds ends
RunsTo start b draws ends EndWorn =
    ((c : ℕ) × (b.told ≡ Some (Ok (Ready c)))) × (draws ≡ 2 ^ 40)
    × ((i : ℕ) × ((e : Polled) × (slice_get ends i ≡ Some e) × (is_worn_end e.outcome ≡ true)))
RunsTo start b draws ends Memory =
    MayGoOn b.told × (b.opened < MAX_LINKS) × AreUnwornEnds ends

-- what a link has come to; one that is open is let go now
abbrev pub polled_in : LinkRow → Polled
polled_in New = record { asked = 0; denied = 0; outcome = Stopped }
polled_in (Open b) = polled_as b.value Stopped
polled_in (Over e) = e

-- what it makes of the link
abbrev pub port_behind : LinkRow → ℕ → Port → Port
port_behind New nexts q = record q { owed = false; finished = Some nexts }
port_behind (Open b) nexts q = record q { owed = false; finished = Some nexts }
port_behind (Over e) nexts q = q

abbrev pub IsOpenSeat : LinkRow → Type 0
IsOpenSeat New = Unit {0}
IsOpenSeat (Open b) = Unit {0}
IsOpenSeat (Over e) = ⊥

pub record EndsSeat (a b : Harbour) (c : ℕ) (seat : LinkRow) (e : Polled) : Type 0 where
  pub polled : e ≡ polled_in seat
  pub port : b.port c ≡ port_behind seat a.nexts (a.port c)
  pub rest : KeepsRest a b c
  pub faults : b.faults ≡ a.faults
  pub ends : b.ends ≡ a.ends

-- the links of the seats from number c on are open where their seats are
abbrev pub AreOpenSeats : Harbour → ℕ → List LinkRow → Type 0
AreOpenSeats a n seats =
    (i : ℕ) (s : LinkRow) → n ≤ i → slice_get seats i ≡ Some s → IsOpenSeat s → IsOpen a (i + 1)

-- the links of the first n seats were let go where they were open
pub record LetsGo (a b : Harbour) (seats : List LinkRow) (n : ℕ) (ends : List Polled) : Type 0 where
  pub told : b.told ≡ a.told
  pub nexts : b.nexts ≡ a.nexts
  pub opened : b.opened ≡ a.opened
  pub faults : b.faults ≡ a.faults
  pub told_ends : b.ends ≡ a.ends
  pub polled : ends ≡ map polled_in (take n seats)
  pub each : (i : ℕ) (s : LinkRow) → i < n → slice_get seats i ≡ Some s
      → b.port (i + 1) ≡ port_behind s a.nexts (a.port (i + 1))
  pub ahead : (k : ℕ) → n < k → b.port k ≡ a.port k

module _ {M : Type 0} (v : Service) where
  -- a link was served in its place, or had ended before
  pub record SeatGone (o p : FrontSpot M) (start : Bytes) (q : Port) (c : ℕ) (turns : List Turn)
      (seat : LinkRow) (result : Option PollEnd) : Type 0 where
    pub more : List Turn
    pub own : Each (λ (t : Turn). t.link ≡ c) more
    pub running : Running v o p (more ++ turns)
    pub sits : Sits v.policy start q (acted_of c (more ++ turns)) seat
    pub worn_out : (n : ℕ) → result ≡ Some (Worn n) → p.pass.draws ≡ 2 ^ 40
    pub unworn : result ≡ None → is_worn_end (polled_in seat).outcome ≡ false
    pub unowed : q.finished ≡ None → q.owed ≡ false

  pub record SeatServed (p p' : FrontSpot M) (a b : Harbour) (c : ℕ) (seat seat' : LinkRow)
      (result : Option PollEnd) : Type 0 where
    pub rest : KeepsRest a b c
    pub others : (b.port c).others ≡ (a.port c).others
    pub later : a.faults ≤ b.faults
    pub faults : b.faults + faults_by (a.port c).last ≤ a.faults + faults_by (b.port c).last
    pub ends : b.ends + ends_told_by (a.port c).last ≤ a.ends + ends_told_by (b.port c).last
    pub ended : MatchOption result ((b.port c).finished ≡ (a.port c).finished)
        (λ end. ((a.port c).finished ≡ None) × ((n : ℕ) × ((b.port c).finished ≡ Some n)))
    pub over : (end : PollEnd) → result ≡ Some end
        → (e : Polled) × (seat' ≡ Over e) × (e.outcome ≡ end)
    pub served : (o : FrontSpot M) (start : Bytes) (turns : List Turn) → Running v o p turns
        → Sits v.policy start (a.port c) (acted_of c turns) seat
        → is_worn_end (polled_in seat).outcome ≡ false
        → SeatGone o p' start (b.port c) c turns seat' result

  -- the table between two events
  pub record Tabled (o p : FrontSpot M) (start a : Harbour) (seats : List LinkRow) (busy : ℕ)
      (turns : List Turn) : Type 0 where
    pub running : Running v o p turns
    pub opened : a.opened ≡ length seats
    pub count : busy ≡ open_among a.port a.opened
    pub sits : (i : ℕ) (s : LinkRow) → slice_get seats i ≡ Some s
        → Sits v.policy (port_bytes (start.port (i + 1))) (a.port (i + 1))
        (acted_of (i + 1) turns) s
    pub ahead : (k : ℕ) → a.opened < k → port_bytes (a.port k) ≡ port_bytes (start.port k)
    pub fresh : (k : ℕ) → 1 ≤ k → k ≤ a.opened → IsBlank (start.port k)
    pub range : Each (λ (t : Turn). (1 ≤ t.link) × (t.link ≤ a.opened)) turns
    pub later : start.faults ≤ a.faults
    pub faults : FaultsAreLast start a
    pub ends : EndsAreLast start a

  -- what a run comes to, before its open links are let go
  pub record Went (before after : Holder M) (clock clock' : Option (ℕ → ℕ)) (start b : Harbour)
      (seats : List LinkRow) (end : RunEnd) : Type 0 where
    pub counters : RunCounters
    pub busy : ℕ
    pub turns : List Turn
    pub tabled : Tabled (first_spot before clock) (front_spot after clock' counters) start b seats
        busy turns
    pub runs : RunsTo start b after.draws (map polled_in seats) end

-- a run to its end
pub record Ran {M : Type 0} (np : NamedPolicy) (first : List Entry)
    (legal : List Entry → Type 0) (now : List Entry → ℕ) (number : ℕ) (before after : Holder M)
    (clock clock' : Option (ℕ → ℕ)) (start b : Harbour) (polled : List Polled) (end : RunEnd)
    : Type 0 where
  pub counters : RunCounters
  pub turns : List Turn
  pub number_is : before.number ≡ number
  pub running : Running (service np first legal now) (first_spot before clock)
      (front_spot after clock' counters) turns
  pub count : length polled ≡ b.opened
  pub links : (i : ℕ) (e : Polled) → slice_get polled i ≡ Some e
      → EndsLink np (port_bytes (start.port (i + 1))) (course (b.port (i + 1)))
      (acted_of (i + 1) turns) e
      × IsLetIn (b.port (i + 1)).others e.outcome
      × IsLetGo b.nexts (b.port (i + 1)).finished e.outcome
  pub fresh : (k : ℕ) → 1 ≤ k → k ≤ b.opened → IsBlank (start.port k)
  pub range : Each (λ (t : Turn). (1 ≤ t.link) × (t.link ≤ b.opened)) turns
  pub runs : RunsTo start b after.draws polled end
  pub faults : FaultsAreLast start b
  pub ends : EndsAreLast start b

-- the link is a connection over the history, with its part of it as its own entries, that ends so
abbrev pub PollConn : NamedPolicy → ℕ → Who → List Entry → List ℕ → List ℕ → List Acted → Called
    → PollEnd → Type 0
PollConn np birth who h taken given acted last outcome =
    (end : LinkEnd) × EndsAs outcome taken given acted last end
    × Conn np birth who h 0 taken (readings_of acted) (part_of who h) given acted end

-- link c came to this, from its begin as `start` to its end as `now`
pub record IsPolledLink (np : NamedPolicy) (birth : ℕ) (h : List Entry) (nexts c : ℕ)
    (start now : Port) (e : Polled) (acted : List Acted) : Type 0 where
  pub taken : List ℕ
  pub given : List ℕ
  pub fresh : IsBlank start
  pub conn : PollConn np birth (by 0 c) h taken given acted now.last e.outcome
  pub asked : e.asked ≡ asked_in acted
  pub denied : e.denied ≡ denied_in acted
  pub carries : Carries (port_bytes start) (port_bytes now) taken given
  pub cause : PollsBy (course now) taken e.outcome
  pub let_in : IsLetIn now.others e.outcome
  pub let_go : IsLetGo nexts now.finished e.outcome

-- All links: their lines were acted on in the order of these turns, which have the latest first;
-- the readings of the clock and the history's entries are those of the turns, one after the other
pub record IsPolledFront (np : NamedPolicy) (birth : ℕ) (h : List Entry)
    (clock clock' : Option (ℕ → ℕ)) (start now : Harbour) (ends : List Polled) : Type 0 where
  pub turns : List Turn
  pub count : length ends ≡ now.opened
  pub links : (i : ℕ) (e : Polled) → slice_get ends i ≡ Some e
      → IsPolledLink np birth h now.nexts (i + 1) (start.port (i + 1)) (now.port (i + 1)) e
      (acted_of (i + 1) turns)
  pub range : Each (λ (t : Turn). (1 ≤ t.link) × (t.link ≤ now.opened)) turns
  pub readings : Reads clock clock' (readings_of (all_acted turns))
  pub entries : part 0 h ≡ entries_of (all_acted turns)

-- what a front has come to is told over each history of which its pass knows the part
abbrev pub IsTellingOfFronts : (M : Type 0) → NamedPolicy → (List Entry → Type 0) → (List Entry → ℕ)
    → Type 0
IsTellingOfFronts M np legal now =
    (birth : ℕ) → IsTimed birth legal now
    → (h : List Entry) (before after : Holder M) (clock clock' : Option (ℕ → ℕ))
    (start b : Harbour) (ends : List Polled) (end : RunEnd)
    → Ran np [] legal now 0 before after clock clock' start b ends end → before.own ≡ []
    → after.number ≡ 0 → IsToldBy [] h after → IsPolledFront np birth h clock clock' start b ends
