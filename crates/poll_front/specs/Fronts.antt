-- What a front keeps from line to line.
use Rattle.std.specs.Prelude.{◌≡◌, ◌⊎◌, ℕ, ◌+◌, ◌*◌, ◌^◌, ◌<◌, ◌≤◌, ◌==◌, false, List, [], ◌∷◌, ◌++◌, ◌-◌, length, take, drop, OnOk, Option, Result, Ok, Err, if◌then◌else◌}
use Rattle.std.specs.Io.KnownBytes.{Appends, Consumes, IsAtEnd}
use mathlib.Core.List.{IsPrefix}
use Rattle.gt_base.specs.declared.requests.Entry.{Entry}
use Rattle.gt_base.specs.declared.limits.TheConstants.{MAX_BYTES}
use Rattle.gt_io.specs.Frames.{Frame, PushesFront}
use Rattle.gt_io.specs.Links.{Reads}
use Rattle.gt_io.specs.declared.source.Failed.{Failed}
use Rattle.turn_lock.specs.Turns.{Each}
use Rattle.turn_lock.specs.Holders.{Lock, Holder, site_of}
use Rattle.locked_history.specs.Fronts.{by}
use Rattle.policy_words.specs.Naming.{NamedPolicy}
use Rattle.connection_laws.specs.declared.talk.LineAnswer.{LineAnswer}
use Rattle.connection_laws.specs.declared.talk.Talk.{Talk}
use Rattle.connection_laws.specs.declared.talk.LineAnswer.TheVariants.{Silence, Worn as ToldWorn}
use Rattle.connection_laws.specs.declared.ends.LinkEnd.{LinkEnd}
use Rattle.connection_laws.specs.declared.ends.LinkEnd.TheVariants.{Ended as LinkEnded, ReadFault as LinkReadFault, WriteFault as LinkWriteFault, Spent as LinkSpent, Worn as LinkWorn}
use Rattle.connection_laws.specs.Cuts.{whole_lines}
use Rattle.connection_laws.specs.Lines.{Acted, answer_text, actor_after, reply_lines, readings_of, entries_of, replies_text, asked_in, denied_in, AreUnworn, IsGiven}
use Rattle.connection_laws.specs.Connection.{AreActed, IsTimed, placed}
use Rattle.connection_laws.specs.Fits.{FrameFits}
use Rattle.connection_laws.specs.Desks.{IsNamedActor}
use Rattle.connection_laws.specs.Turns.{Grows, AreMine, IsReached, StaysIdle}
use Rattle.connection_laws.specs.Services.{Service}
use Rattle.connection_laws.specs.Acting.{IsTold, told_bytes}
use Rattle.connection_laws.specs.Attending.{Bytes, Carries}
use Rattle.poll_front.specs.declared.ends.Polled.{Polled}
use Rattle.poll_front.specs.declared.ends.PollEnd.{PollEnd}
use Rattle.poll_front.specs.declared.ends.PollEnd.TheVariants.{Ended, ReadFault, WriteFault, Spent, Full, Stopped, Worn}
use Rattle.poll_front.specs.declared.states.LinkState.{LinkState}
use Rattle.poll_front.specs.declared.states.RunCounters.{RunCounters}
use Rattle.poll_front.specs.declared.states.Yield.{Yield}
use Rattle.poll_front.specs.declared.states.Yield.TheVariants.{Later, End}
use Rattle.poll_front.specs.declared.states.TheConstants.{MAX_READ}
use Rattle.poll_front.specs.declared.front.TheConstants.{MAX_OPEN}
use Rattle.gt_io.specs.declared.port.Got.TheVariants.{Bytes as GotBytes, Finished, NotYet as GotNotYet}
use Rattle.gt_io.specs.declared.port.Took.TheVariants.{NotYet}
use Rattle.gt_io.specs.declared.port.Called.{Called}
use Rattle.gt_io.specs.declared.port.Called.TheVariants.{Nothing, Read, Wrote}
use Rattle.gt_io.specs.Ports.{Port, Harbour, IsOpen, KeepsRest, is_over}

-- a line that was acted on, and the link that it came from
pub record Turn : Type 0 where
  pub link : ℕ
  pub acted : Acted

-- lists of turns have the latest first, as those of acted lines have

-- the lines of one link
abbrev pub acted_of : ℕ → List Turn → List Acted
acted_of c [] = []
acted_of c (t ∷ before) =
    if t.link == c then t.acted ∷ acted_of c before else acted_of c before

-- the lines of all links
abbrev pub all_acted : List Turn → List Acted
all_acted [] = []
all_acted (t ∷ before) = t.acted ∷ all_acted before

-- a moment of a front: its pass, its clock, and its counters
pub record FrontSpot (M : Type 0) : Type 0 where
  pub pass : Holder M
  pub clock : Option (ℕ → ℕ)
  pub counters : RunCounters

abbrev pub front_spot : {M : Type 0} → Holder M → Option (ℕ → ℕ) → RunCounters → FrontSpot M
front_spot pass clock counters = record { pass = pass; clock = clock; counters = counters }

-- what shows of a link's way: the bytes that went over it, its last read or write, and how many
-- other links were open as it was opened
pub record Course : Type 0 where
  pub bytes : Bytes
  pub last : Called
  pub others : ℕ

abbrev pub port_bytes : Port → Bytes
port_bytes q = record { left = q.left; taken = q.taken; given = q.given }

abbrev pub course : Port → Course
course q = record { bytes = port_bytes q; last = q.last; others = q.others }

-- how many faults a link has shown, by its last call: one where that failed
abbrev pub faults_by : Called → ℕ
faults_by Nothing = 0
faults_by (Read (Ok g)) = 0
faults_by (Read (Err f)) = 1
faults_by (Wrote (Ok t)) = 0
faults_by (Wrote (Err f)) = 1

-- how many ends a link has told, by its last call: one where that told it
abbrev pub ends_told_by : Called → ℕ
ends_told_by Nothing = 0
ends_told_by (Read (Ok (GotBytes n))) = 0
ends_told_by (Read (Ok Finished)) = 1
ends_told_by (Read (Ok GotNotYet)) = 0
ends_told_by (Read (Err f)) = 0
ends_told_by (Wrote t) = 0

-- the link is open, and has not come to its end
pub record IsLive (a : Harbour) (c : ℕ) : Type 0 where
  pub opened : IsOpen a c
  pub live : is_over (a.port c).last ≡ false

-- Calls on one link that was live: it stays open, and the others as they are. At most the last call
-- failed or told the end, none where it goes on; and it is not owed where it is left for another
pub record CallsOn (a b : Harbour) (c : ℕ) (result : Result (Unit {0}) Yield) : Type 0 where
  pub rest : KeepsRest a b c
  pub finished : (b.port c).finished ≡ (a.port c).finished
  pub others : (b.port c).others ≡ (a.port c).others
  pub later : a.faults ≤ b.faults
  pub faults : b.faults ≤ a.faults + faults_by (b.port c).last
  pub ends : b.ends ≤ a.ends + ends_told_by (b.port c).last
  pub live : OnOk result (is_over (b.port c).last ≡ false)
  pub unowed : result ≡ Err Later → (b.port c).owed ≡ false

-- the last reply is written
abbrev pub IsReplyWritten : LinkState → Type 0
IsReplyWritten s = s.at ≡ length (told_bytes s.told)

-- the bytes that wait to be acted on
abbrev pub waiting_bytes : LinkState → List ℕ
waiting_bytes s = drop s.from (take s.upto s.chunk)

-- the bytes that wait are taken up to a line feed, which is left
pub record TakesUpToFeed (s s' : LinkState) : Type 0 where
  pub many : ℕ
  pub within : s.from + many ≤ s.upto
  pub front : PushesFront s.framer (waiting_bytes s) many s'.framer
  pub rest : s' ≡ record s { framer = s'.framer; from = s.from + many }

-- what was given where so many bytes of the last reply were written
abbrev pub given_text : NamedPolicy → List Acted → ℕ → List ℕ
given_text np [] at = []
given_text np (a ∷ before) at = replies_text np before ++ take at (answer_text np a.answer)

-- what is told is the reply of the last line, of which so many bytes were written
abbrev pub TellsLast : NamedPolicy → List Acted → LineAnswer → ℕ → Type 0
TellsLast np [] told at = (told ≡ Silence) × (at ≡ 0)
TellsLast np (a ∷ before) told at =
    IsTold np told a.answer × (at ≤ length (answer_text np a.answer))

-- these bytes were cut into these lines, and the lines were acted on
pub record HasHeard (np : NamedPolicy) (frame : Frame) (talk : Talk) (fed : List ℕ)
    (acted : List Acted) : Type 0 where
  pub frame_fits : FrameFits frame fed
  pub lines : reply_lines acted ≡ whole_lines fed
  pub few : length acted ≤ length fed
  pub actor : talk.actor ≡ actor_after np acted
  pub named : IsNamedActor np talk.actor
  pub asked : talk.asked ≡ asked_in acted
  pub denied : talk.denied ≡ denied_in acted

-- An open link: fed are its bytes that were acted on, and these are its acted lines. It began as
-- start, before anything was taken from it
pub record LinkStands (np : NamedPolicy) (start now : Bytes) (s : LinkState) (fed : List ℕ)
    (acted : List Acted) : Type 0 where
  pub heard : HasHeard np s.framer s.talk fed acted
  pub unworn : AreUnworn acted
  pub told : TellsLast np acted s.told s.at
  pub carries : Carries start now (fed ++ waiting_bytes s) (given_text np acted s.at)
  pub counted : length (fed ++ waiting_bytes s) + s.left ≡ MAX_BYTES
  pub within : (s.from ≤ s.upto) × (s.upto ≤ MAX_READ) × (s.upto ≤ length s.chunk)

-- it is left for another: all of its bytes were acted on and told, or its last reply waits for room
pub record Rests (np : NamedPolicy) (start : Bytes) (now : Course) (s : LinkState)
    (acted : List Acted) : Type 0 where
  pub fed : List ℕ
  pub stands : LinkStands np start now.bytes s fed acted
  pub waits : (IsReplyWritten s × (s.from ≡ s.upto))
      ⊎ ((s.at < length (told_bytes s.told)) × (now.last ≡ Wrote (Ok NotYet)))
  pub live : is_over now.last ≡ false

-- It ends as a connection. One that is open as the run ends has the text of all its whole lines, or
-- its last write found no room and the last reply is given in part. One that was let go at once has
-- nothing
abbrev pub EndsAs : PollEnd → List ℕ → List ℕ → List Acted → Called → LinkEnd → Type 0
EndsAs Ended taken given acted last end = end ≡ LinkEnded
EndsAs ReadFault taken given acted last end = end ≡ LinkReadFault
EndsAs WriteFault taken given acted last end = end ≡ LinkWriteFault
EndsAs Spent taken given acted last end = end ≡ LinkSpent
EndsAs (Worn draws) taken given acted last end = end ≡ LinkWorn draws
EndsAs Stopped taken given acted last end =
    (end ≡ LinkEnded) ⊎ ((end ≡ LinkWriteFault) × (last ≡ Wrote (Ok NotYet)))
EndsAs Full taken given acted last end =
    (end ≡ LinkEnded) × (taken ≡ []) × (given ≡ []) × (acted ≡ [])

-- each end has its cause
abbrev pub PollsBy : Course → List ℕ → PollEnd → Type 0
PollsBy q taken Ended =
    (q.last ≡ Read (Ok Finished)) × IsAtEnd q.bytes.left × (length taken < MAX_BYTES)
PollsBy q taken ReadFault = (f : Failed) × (q.last ≡ Read (Err f)) × (length taken < MAX_BYTES)
PollsBy q taken WriteFault = (f : Failed) × (q.last ≡ Wrote (Err f))
PollsBy q taken Spent = (is_over q.last ≡ false) × (length taken ≡ MAX_BYTES)
PollsBy q taken Full = (q.last ≡ Nothing) × (MAX_OPEN ≤ q.others)
PollsBy q taken Stopped = is_over q.last ≡ false
PollsBy q taken (Worn n) = (is_over q.last ≡ false) × (n ≡ 2 ^ 40)

-- what a link came to
pub record EndsLink (np : NamedPolicy) (start : Bytes) (now : Course) (acted : List Acted)
    (e : Polled) : Type 0 where
  pub taken : List ℕ
  pub given : List ℕ
  pub end : LinkEnd
  pub ends_as : EndsAs e.outcome taken given acted now.last end
  pub given_is : IsGiven np taken given acted end
  pub lines : IsPrefix (reply_lines acted) (whole_lines taken)
  pub carries : Carries start now.bytes taken given
  pub asked_is : e.asked ≡ asked_in acted
  pub denied_is : e.denied ≡ denied_in acted
  pub few : length acted ≤ length taken
  pub cause : PollsBy now taken e.outcome

-- the run has not ended for it
abbrev pub HasOwnEnd : PollEnd → Type 0
HasOwnEnd Stopped = ⊥
HasOwnEnd _ = Unit {0}

-- what a link has come to that ends so
abbrev pub polled_as : LinkState → PollEnd → Polled
polled_as s end = record { asked = s.talk.asked; denied = s.talk.denied; outcome = end }

-- a link goes on, is left for another, or has ended
abbrev pub Comes : NamedPolicy → Bytes → Course → LinkState → List Acted → Result (Unit {0}) Yield
    → Type 0
Comes np start now s acted (Ok _) = (fed : List ℕ) × LinkStands np start now.bytes s fed acted
Comes np start now s acted (Err Later) = Rests np start now s acted
Comes np start now s acted (Err (End e)) =
    EndsLink np start now acted (polled_as s e) × HasOwnEnd e

module _ {M : Type 0} (v : Service) where
  -- the lines so far, of all links
  pub record Running (o p : FrontSpot M) (turns : List Turn) : Type 0 where
    pub grows : Grows o.pass p.pass (entries_of (all_acted turns))
        (2 * length (readings_of (all_acted turns)))
    pub mine : Each (λ (t : Turn). AreMine (by o.pass.number t.link) t.acted.entries) turns
    pub brief : Each (λ (t : Turn). length t.acted.readings ≤ 1) turns
    pub fits : (k birth : ℕ) → IsTimed birth v.legal v.now
        → AreActed v.policy birth (by o.pass.number k) p.pass.seen
        (placed (by o.pass.number k) v.first o.pass.own) (acted_of k turns)
    pub reads : Reads o.clock p.clock (readings_of (all_acted turns))
    pub calls : p.counters.calls ≡ o.counters.calls + length (readings_of (all_acted turns))

  -- some lines of this link were acted on, and this is what it came to
  pub record Gone (o p : FrontSpot M) (start : Bytes) (now : Course) (c : ℕ) (turns : List Turn)
      (s : LinkState) (result : Result (Unit {0}) Yield) : Type 0 where
    pub more : List Turn
    pub own : Each (λ (t : Turn). t.link ≡ c) more
    pub running : Running o p (more ++ turns)
    pub comes : Comes v.policy start now s (acted_of c (more ++ turns)) result
    pub worn_out : (n : ℕ) → result ≡ Err (End (Worn n)) → p.pass.draws ≡ 2 ^ 40

  -- whatever went before, a link that stands comes to this
  pub record LinkComesTo (p p' : FrontSpot M) (a b : Harbour) (c : ℕ) (s s' : LinkState)
      (result : Result (Unit {0}) Yield) : Type 0 where
    pub steps : (o : FrontSpot M) (start : Bytes) (turns : List Turn) (fed : List ℕ)
        → Running o p turns
        → LinkStands v.policy start (port_bytes (a.port c)) s fed (acted_of c turns)
        → Gone o p' start (course (b.port c)) c turns s' result

-- Writing goes on with the reply, from the bytes at which it stands
abbrev pub Pushed : Port → List ℕ → ℕ → Result (Unit {0}) Yield → Type 0
Pushed q text at (Ok _) = at ≡ length text
Pushed q text at (Err Later) = (at < length text) × (q.last ≡ Wrote (Ok NotYet))
Pushed q text at (Err (End WriteFault)) =
    (at < length text) × ((f : Failed) × (q.last ≡ Wrote (Err f)))
Pushed q text at (Err (End e)) = ⊥

pub record PushesOut (a b : Harbour) (c : ℕ) (text : List ℕ) (at at' : ℕ)
    (result : Result (Unit {0}) Yield) : Type 0 where
  pub calls : CallsOn a b c result
  pub taken : (b.port c).taken ≡ (a.port c).taken
  pub left : (b.port c).left ≡ (a.port c).left
  pub within : (at ≤ at') × (at' ≤ length text)
  pub given : (start : Option (List ℕ)) (front : List ℕ)
      → Appends start (a.port c).given (front ++ take at text)
      → Appends start (b.port c).given (front ++ take at' text)
  pub pushed : Pushed (b.port c) text at' result

-- how the telling of a line went
abbrev pub TellsLine : Harbour → Harbour → ℕ → LineAnswer → ℕ → Result (Unit {0}) Yield → Type 0
TellsLine a b c (ToldWorn n) at result = (b ≡ a) × (at ≡ 0) × (result ≡ Err (End (Worn n)))
TellsLine a b c told at result = PushesOut a b c (told_bytes told) 0 at result

-- A read gives the bytes that wait next
abbrev pub Filled : Port → LinkState → LinkState → Result (Unit {0}) Yield → Type 0
Filled q s s' (Ok _) =
    (n : ℕ) × (0 < n) × (n ≤ s.left) × (n ≤ MAX_READ)
    × (s' ≡ record s { chunk = s'.chunk; from = 0; upto = n; left = s.left - n })
Filled q s s' (Err Later) = (s' ≡ record s { chunk = s'.chunk }) × (is_over q.last ≡ false)
Filled q s s' (Err (End Ended)) =
    (s' ≡ record s { chunk = s'.chunk }) × (q.last ≡ Read (Ok Finished)) × IsAtEnd q.left
Filled q s s' (Err (End ReadFault)) =
    (s' ≡ record s { chunk = s'.chunk }) × ((f : Failed) × (q.last ≡ Read (Err f)))
Filled q s s' (Err (End e)) = ⊥

pub record FillsUp (a b : Harbour) (c : ℕ) (s s' : LinkState) (result : Result (Unit {0}) Yield)
    : Type 0 where
  pub calls : CallsOn a b c result
  pub given : (b.port c).given ≡ (a.port c).given
  pub taken : Appends (a.port c).taken (b.port c).taken (waiting_bytes s')
  pub left : Consumes (a.port c).left (b.port c).left (waiting_bytes s')
  pub filled : Filled (b.port c) s s' result

-- so many more lines may be acted on
pub record CanTalk (np : NamedPolicy) (talk : Talk) (counters : RunCounters) (n : ℕ) : Type 0 where
  pub actor : IsNamedActor np talk.actor
  pub asked : talk.asked + n < 2 ^ 63
  pub denied : talk.denied + n < 2 ^ 63
  pub calls : counters.calls + n < 2 ^ 64

-- one more line may have been acted on
abbrev pub CountsOne : Talk → Talk → RunCounters → RunCounters → Type 0
CountsOne talk talk' counters counters' =
    (talk'.asked ≤ talk.asked + 1) × (talk'.denied ≤ talk.denied + 1)
    × (counters'.calls ≤ counters.calls + 1)

-- a live link may be served: there is room to count a line for each of its bytes
pub record CanServe (np : NamedPolicy) (a : Harbour) (c : ℕ) (counters : RunCounters)
    (s : LinkState) : Type 0 where
  pub live : IsLive a c
  pub told : s.at ≤ length (told_bytes s.told)
  pub waits : (s.from ≤ s.upto) × (s.upto ≤ MAX_READ)
  pub talk : CanTalk np s.talk counters (s.upto - s.from + s.left)

-- The pass is idle again and of the same number, and has seen a history that has come to this
-- minute, where one is known
abbrev pub StaysIdleFrom : {M : Type 0} → (M → List Entry → Type 0) → (M → List Entry → ℕ) → Lock M
    → Holder M → Holder M → Option ℕ → Type 0
StaysIdleFrom legal now_of desk before pass minute =
    StaysIdle (site_of desk) before pass
    × IsReached (legal desk.root) (now_of desk.root) pass.seen minute
