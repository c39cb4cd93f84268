-- What ports in memory tell.
use Rattle.std.specs.Prelude.{◌≡◌, ℕ, zero, suc, ◌+◌, ◌-◌, ◌==◌, ◌&&◌, Bool, false, List, [], ◌∷◌, ◌++◌, length, take, drop, min, nat_lt, nat_le, slice_get, unwrap_or, if◌then◌else◌, Some, None, Ok, Err}
use Rattle.std.specs.declared.option.Option.{Option}
use Rattle.std.specs.declared.result.Result.{Result}
use Rattle.gt_io.specs.declared.source.Failed.{Failed}
use Rattle.gt_io.specs.declared.port.PortEvent.{PortEvent}
use Rattle.gt_io.specs.declared.port.PortEvent.TheVariants.{Opened, Ready, Stop}
use Rattle.gt_io.specs.declared.port.Got.{Got}
use Rattle.gt_io.specs.declared.port.Got.TheVariants.{Bytes as GotBytes, Finished, NotYet as NothingYet}
use Rattle.gt_io.specs.declared.port.Took.{Took}
use Rattle.gt_io.specs.declared.port.Took.TheVariants.{Bytes as TookBytes, NotYet as NoRoomYet}
use Rattle.gt_io.specs.declared.port.Called.TheVariants.{Nothing}
use Rattle.gt_io.specs.declared.memory_ports.Hitches.{Hitches}
use Rattle.gt_io.specs.declared.memory_ports.MemEvent.{MemEvent}
use Rattle.gt_io.specs.declared.memory_ports.MemEvent.TheVariants.{Open, Ready as Wake}
use Rattle.gt_io.specs.declared.memory_ports.MemPort.{MemPort}
use Rattle.gt_io.specs.declared.memory_ports.MemPorts.{MemPorts}
use Rattle.gt_io.specs.Memory.{one_more, is_listed}
use Rattle.gt_io.specs.Ports.{Port, Harbour, told_in, took_bytes}

abbrev pub port_of : MemPort → Port
port_of p =
    record {
      left = Some (drop p.at p.bytes.items);
      taken = Some (take p.at p.bytes.items);
      given = Some p.given.items;
      last = p.last;
      owed = p.owed;
      others = p.others;
      finished = p.finished;
    }

-- a link that there is none of
abbrev pub no_port : Port
no_port =
    record {
      left = Some [];
      taken = Some [];
      given = Some [];
      last = Nothing;
      owed = false;
      others = 0;
      finished = None;
    }

-- the link of a number from 1
abbrev pub port_in : List MemPort → ℕ → Port
port_in ps k = told_in port_of no_port ps k

abbrev pub harbour_of : Option (Result PortEvent Failed) → ℕ → ℕ → List MemPort → ℕ → ℕ
    → Harbour
harbour_of told nexts opened ports faults ends =
    record {
      told = told;
      nexts = nexts;
      opened = opened;
      port = port_in ports;
      faults = faults;
      ends = ends;
    }

-- nothing was taken from it and nothing was given to it
abbrev pub IsUnused : MemPort → Type 0
IsUnused p = (p.at ≡ 0) × (p.given.items ≡ [])

-- What a link in memory keeps: its bytes, and how many of them were taken; how many have come each
-- time that it is ready, how often it was, and whether its peer ends it; what was written, how much
-- there may be and the most that one write takes; its reads and writes, and those with a hitch
pub record Wire : Type 0 where
  pub bytes : List ℕ
  pub at : ℕ
  pub marks : List ℕ
  pub readies : ℕ
  pub ends : Bool
  pub given : List ℕ
  pub room : ℕ
  pub most : ℕ
  pub reads : ℕ
  pub writes : ℕ
  pub hitches : Hitches

abbrev pub wire_of : MemPort → Wire
wire_of p =
    record {
      bytes = p.bytes.items;
      at = p.at;
      marks = p.marks.items;
      readies = p.readies;
      ends = p.ends;
      given = p.given.items;
      room = p.room;
      most = p.most;
      reads = p.reads;
      writes = p.writes;
      hitches = p.hitches;
    }

-- how many bytes have come: none before the link is first ready, then as its marks tell, and all
-- behind the last of them
abbrev pub come_of : Wire → ℕ
come_of w =
    if w.readies == 0 then 0 else unwrap_or (slice_get w.marks (w.readies - 1)) (length w.bytes)

-- how many a read gives: of those that have come and were not taken, as many as the buffer holds
abbrev pub coming : Wire → ℕ → ℕ
coming w room = min (length (drop w.at w.bytes)) (min room (come_of w - w.at))

-- all of its bytes were taken, and behind its marks its peer has ended it
abbrev pub is_at_end : Wire → Bool
is_at_end w = (w.at == length w.bytes) && (w.ends && nat_lt (length w.marks) w.readies)

abbrev pub got_of : Wire → ℕ → Got
got_of w zero = if is_at_end w then Finished else NothingYet
got_of w (suc n) = GotBytes (suc n)

-- a read fails where its number is listed, and finds nothing yet where it is listed as late
abbrev pub read_answer : Wire → ℕ → Result Got Failed
read_answer w room =
    if is_listed w.reads w.hitches.bad_reads.items then Err (record {}) else
    (if is_listed w.reads w.hitches.late_reads.items then Ok NothingYet else
    Ok (got_of w (coming w room)))

abbrev pub got_count : Result Got Failed → ℕ
got_count (Ok (GotBytes n)) = n
got_count (Ok Finished) = 0
got_count (Ok NothingYet) = 0
got_count (Err f) = 0

abbrev pub read_from : Wire → Result Got Failed → Wire
read_from w result = record w { at = w.at + got_count result; reads = one_more w.reads }

-- how many bytes of so many a write takes
abbrev pub fitting : Wire → ℕ → ℕ
fitting w n = min n (min w.most (w.room - length w.given))

abbrev pub took_of : ℕ → Result Took Failed
took_of zero = Err (record {})
took_of (suc n) = Ok (TookBytes (suc n))

-- a write fails where its number is listed and where no room is left, and finds no room yet where
-- it is listed as late
abbrev pub write_answer : Wire → ℕ → Result Took Failed
write_answer w n =
    if is_listed w.writes w.hitches.bad_writes.items then Err (record {}) else
    (if is_listed w.writes w.hitches.late_writes.items then Ok NoRoomYet else
    took_of (fitting w n))

abbrev pub written_to : Wire → List ℕ → Result Took Failed → Wire
written_to w piece result =
    record w { given = w.given ++ took_bytes result piece; writes = one_more w.writes }

abbrev pub woken : Wire → Wire
woken w = record w { readies = one_more w.readies }

-- What ports in memory keep: the events that are left, the numbers of the calls of `next` that
-- fail, how many links there are, and each of them by its number
pub record Plan : Type 0 where
  pub left : List MemEvent
  pub bad_nexts : List ℕ
  pub count : ℕ
  pub wire : ℕ → Wire

-- a link that there is none of
abbrev pub no_wire : Wire
no_wire =
    record {
      bytes = [];
      at = 0;
      marks = [];
      readies = 0;
      ends = false;
      given = [];
      room = 0;
      most = 0;
      reads = 0;
      writes = 0;
      hitches = record {
        bad_reads = record { items = []; spare = 0 };
        late_reads = record { items = []; spare = 0 };
        bad_writes = record { items = []; spare = 0 };
        late_writes = record { items = []; spare = 0 };
      };
    }

abbrev pub plan_of : MemPorts → Plan
plan_of p =
    record {
      left = drop p.at p.events.items;
      bad_nexts = p.bad_nexts.items;
      count = length p.ports.items;
      wire = told_in wire_of no_wire p.ports.items;
    }

-- one link changes
abbrev pub with_wire : Plan → ℕ → Wire → Plan
with_wire p c w = record p { wire = λ k. if k == c then w else p.wire k }

-- The first event that is left, of so many links of which so many are opened. With none there is
-- nothing more to do, nor where no link is left to be opened, or the one to be ready is not opened
abbrev pub opening : ℕ → ℕ → PortEvent
opening count opened = if nat_lt opened count then Opened (opened + 1) else Stop

abbrev pub waking : ℕ → ℕ → PortEvent
waking opened c = if nat_le 1 c && nat_le c opened then Ready c else Stop

abbrev pub event_of : ℕ → ℕ → List MemEvent → PortEvent
event_of count opened [] = Stop
event_of count opened (Open ∷ left) = opening count opened
event_of count opened (Wake c ∷ left) = waking opened c

-- a call of `next` fails where its number is listed
abbrev pub next_answer : Plan → ℕ → ℕ → Result PortEvent Failed
next_answer p nexts opened =
    if is_listed nexts p.bad_nexts then Err (record {}) else Ok (event_of p.count opened p.left)

-- a link that is ready is so once more
abbrev pub plan_by : PortEvent → Plan → Plan
plan_by (Opened c) p = p
plan_by (Ready c) p = with_wire p c (woken (p.wire c))
plan_by Stop p = p

-- the event is left no longer
abbrev pub plan_after : Result PortEvent Failed → Plan → Plan
plan_after (Ok event) p = plan_by event (record p { left = drop 1 p.left })
plan_after (Err f) p = p

pub record GivesEvent (p q : Plan) (nexts opened : ℕ) (result : Result PortEvent Failed)
    : Type 0 where
  pub answer : result ≡ next_answer p nexts opened
  pub plan : q ≡ plan_after result p

pub record GivesGot (p q : Plan) (c room : ℕ) (result : Result Got Failed) : Type 0 where
  pub answer : result ≡ read_answer (p.wire c) room
  pub plan : q ≡ with_wire p c (read_from (p.wire c) result)

pub record GivesTook (p q : Plan) (c : ℕ) (piece : List ℕ) (result : Result Took Failed)
    : Type 0 where
  pub answer : result ≡ write_answer (p.wire c) (length piece)
  pub plan : q ≡ with_wire p c (written_to (p.wire c) piece result)
