-- What ports tell of their links.
use Rattle.std.specs.Prelude.{◌≡◌, ◌≢◌, ℕ, zero, suc, ◌+◌, ◌<◌, ◌≤◌, ◌==◌, Bool, true, false, List, [], ◌∷◌, length, take, if◌then◌else◌, Some, None, Ok, Err, IfOk}
use Rattle.std.specs.declared.option.Option.{Option}
use Rattle.std.specs.declared.result.Result.{Result}
use Rattle.std.specs.Io.KnownBytes.{Appends, Consumes, IsAtEnd}
use Rattle.gt_io.specs.Causes.{FailsOnce}
use Rattle.gt_io.specs.Links.{IsNothing}
use Rattle.gt_io.specs.Memory.{one_more}
use Rattle.gt_io.specs.declared.source.Failed.{Failed}
use Rattle.gt_io.specs.declared.port.PortEvent.{PortEvent}
use Rattle.gt_io.specs.declared.port.PortEvent.TheVariants.{Opened, Ready, Stop}
use Rattle.gt_io.specs.declared.port.Got.{Got}
use Rattle.gt_io.specs.declared.port.Got.TheVariants.{Bytes as GotBytes, Finished, NotYet as NothingYet}
use Rattle.gt_io.specs.declared.port.Took.{Took}
use Rattle.gt_io.specs.declared.port.Took.TheVariants.{Bytes as TookBytes, NotYet as NoRoomYet}
use Rattle.gt_io.specs.declared.port.Called.{Called}
use Rattle.gt_io.specs.declared.port.Called.TheVariants.{Nothing, Read, Wrote}

-- One link: the bytes that it has left, and those that were taken from it and given to it, where
-- they are told; its last read or write with the answer; whether it is owed; how many other links
-- were open as it was opened; and, where it was finished, how many calls of `next` came before
pub record Port : Type 0 where
  pub left : Option (List ℕ)
  pub taken : Option (List ℕ)
  pub given : Option (List ℕ)
  pub last : Called
  pub owed : Bool
  pub others : ℕ
  pub finished : Option ℕ

-- All links: the last answer of `next`, how often it was called, how many links were opened, each
-- link by its number, the faults, and how often a read told the end of a link
pub record Harbour : Type 0 where
  pub told : Option (Result PortEvent Failed)
  pub nexts : ℕ
  pub opened : ℕ
  pub port : ℕ → Port
  pub faults : ℕ
  pub ends : ℕ

abbrev pub is_none : {A : Type 0} → Option A → Bool
is_none None = true
is_none (Some x) = false

-- how many of the first n links are not finished
abbrev pub open_among : (ℕ → Port) → ℕ → ℕ
open_among port zero = 0
open_among port (suc n) = open_among port n + (if is_none (port (n + 1)).finished then 1 else 0)

-- the link was opened and is not finished
pub record IsOpen (a : Harbour) (c : ℕ) : Type 0 where
  pub first : 1 ≤ c
  pub last : c ≤ a.opened
  pub unfinished : (a.port c).finished ≡ None

-- a call by which a link has come to its end
abbrev pub is_over : Called → Bool
is_over Nothing = false
is_over (Read (Ok (GotBytes n))) = false
is_over (Read (Ok Finished)) = true
is_over (Read (Ok NothingYet)) = false
is_over (Read (Err f)) = true
is_over (Wrote (Ok t)) = false
is_over (Wrote (Err f)) = true

-- no open link is owed
abbrev pub NoneOwed : Harbour → Type 0
NoneOwed a = (k : ℕ) → IsOpen a k → (a.port k).owed ≡ false

-- each link that has come to its end is finished
abbrev pub AreFinished : Harbour → Type 0
AreFinished a = (k : ℕ) → IsOpen a k → is_over (a.port k).last ≡ false

-- `next` was not called yet
abbrev pub IsUncalled : Harbour → Type 0
IsUncalled a = (a.told ≡ None) × (a.opened ≡ 0)

-- a link that was just opened, and one that is ready
abbrev pub newly : ℕ → Port → Port
newly others p = record p { last = Nothing; owed = false; others = others; finished = None }

abbrev pub readied : Port → Port
readied p = record p { owed = is_none p.finished }

-- what an answer of `next` makes of the link of number k
abbrev pub port_by : Result PortEvent Failed → ℕ → ℕ → Port → Port
port_by (Ok (Opened c)) others k p = if k == c then newly others p else p
port_by (Ok (Ready c)) others k p = if k == c then readied p else p
port_by (Ok Stop) others k p = p
port_by (Err f) others k p = p

abbrev pub opened_by : Result PortEvent Failed → ℕ → ℕ
opened_by (Ok (Opened c)) n = n + 1
opened_by (Ok (Ready c)) n = n
opened_by (Ok Stop) n = n
opened_by (Err f) n = n

-- What an event makes of the links. From a link that is opened nothing was taken and to it nothing
-- was given, where it tells
pub record Happens (a b : Harbour) (result : Result PortEvent Failed) : Type 0 where
  pub opened : b.opened ≡ opened_by result a.opened
  pub number : (c : ℕ) → result ≡ Ok (Opened c) → c ≡ a.opened + 1
  pub known : (c : ℕ) → result ≡ Ok (Ready c) → (1 ≤ c) × (c ≤ a.opened)
  pub fresh : (c : ℕ) → result ≡ Ok (Opened c)
      → IsNothing (a.port c).taken × IsNothing (a.port c).given
  pub ports : (k : ℕ) → b.port k ≡ port_by result (open_among a.port a.opened) k (a.port k)
  pub cause : FailsOnce a.faults b.faults result
  pub ends : b.ends ≡ a.ends

pub record Nexts (a b : Harbour) (result : Result PortEvent Failed) : Type 0 where
  pub told : b.told ≡ Some result
  pub nexts : b.nexts ≡ one_more a.nexts
  pub happens : Happens a b result

-- a call on one link leaves the others as they are
pub record KeepsRest (a b : Harbour) (c : ℕ) : Type 0 where
  pub told : b.told ≡ a.told
  pub nexts : b.nexts ≡ a.nexts
  pub opened : b.opened ≡ a.opened
  pub others : (k : ℕ) → k ≢ c → b.port k ≡ a.port k

-- the bytes that a read gave
abbrev pub got_bytes : Result Got Failed → List ℕ → List ℕ
got_bytes (Ok (GotBytes n)) buf = take n buf
got_bytes (Ok Finished) buf = []
got_bytes (Ok NothingYet) buf = []
got_bytes (Err f) buf = []

-- a link is owed until it answers that there is nothing yet, comes to its end or fails
abbrev pub owed_by_read : Result Got Failed → Bool → Bool
owed_by_read (Ok (GotBytes n)) owed = owed
owed_by_read (Ok Finished) owed = false
owed_by_read (Ok NothingYet) owed = false
owed_by_read (Err f) owed = false

-- a read that tells the end of a link, and nothing else, raises the count, by one up to the end of
-- its type
abbrev pub ends_by : Result Got Failed → ℕ → ℕ
ends_by (Ok (GotBytes n)) ends = ends
ends_by (Ok Finished) ends = one_more ends
ends_by (Ok NothingYet) ends = ends
ends_by (Err f) ends = ends

-- at least a byte, and at most so many
abbrev pub FitsGot : ℕ → Got → Type 0
FitsGot room (GotBytes n) = (0 < n) × (n ≤ room)
FitsGot room Finished = Unit {0}
FitsGot room NothingYet = Unit {0}

pub record PortReads (p q : Port) (buf : List ℕ) (result : Result Got Failed) : Type 0 where
  pub taken : Appends p.taken q.taken (got_bytes result buf)
  pub left : Consumes p.left q.left (got_bytes result buf)
  pub end : result ≡ Ok Finished → IsAtEnd q.left
  pub rest : q
      ≡ record p {
        left = q.left;
        taken = q.taken;
        last = Read result;
        owed = owed_by_read result p.owed;
      }

pub record ReadsPort (a b : Harbour) (c : ℕ) (buf : List ℕ) (result : Result Got Failed)
    : Type 0 where
  pub bound : IfOk result (FitsGot (length buf))
  pub port : PortReads (a.port c) (b.port c) buf result
  pub rest : KeepsRest a b c
  pub cause : FailsOnce a.faults b.faults result
  pub ends : b.ends ≡ ends_by result a.ends

-- the bytes that a write took
abbrev pub took_bytes : Result Took Failed → List ℕ → List ℕ
took_bytes (Ok (TookBytes n)) piece = take n piece
took_bytes (Ok NoRoomYet) piece = []
took_bytes (Err f) piece = []

abbrev pub owed_by_write : Result Took Failed → Bool → Bool
owed_by_write (Ok (TookBytes n)) owed = owed
owed_by_write (Ok NoRoomYet) owed = false
owed_by_write (Err f) owed = false

abbrev pub FitsTook : ℕ → Took → Type 0
FitsTook room (TookBytes n) = (0 < n) × (n ≤ room)
FitsTook room NoRoomYet = Unit {0}

pub record PortWrites (p q : Port) (piece : List ℕ) (result : Result Took Failed) : Type 0 where
  pub given : Appends p.given q.given (took_bytes result piece)
  pub rest : q
      ≡ record p { given = q.given; last = Wrote result; owed = owed_by_write result p.owed }

pub record WritesPort (a b : Harbour) (c : ℕ) (piece : List ℕ) (result : Result Took Failed)
    : Type 0 where
  pub bound : IfOk result (FitsTook (length piece))
  pub port : PortWrites (a.port c) (b.port c) piece result
  pub rest : KeepsRest a b c
  pub cause : FailsOnce a.faults b.faults result
  pub ends : b.ends ≡ a.ends

-- it is owed no longer
pub record Finishes (a b : Harbour) (c : ℕ) : Type 0 where
  pub port : b.port c ≡ record (a.port c) { owed = false; finished = Some a.nexts }
  pub rest : KeepsRest a b c
  pub faults : b.faults ≡ a.faults
  pub ends : b.ends ≡ a.ends

-- what each of a list tells, by its number from 1
abbrev pub told_at : {A B : Type 0} → (A → B) → B → List A → ℕ → B
told_at tells other [] i = other
told_at tells other (x ∷ xs) zero = tells x
told_at tells other (x ∷ xs) (suc i) = told_at tells other xs i

abbrev pub told_in : {A B : Type 0} → (A → B) → B → List A → ℕ → B
told_in tells other xs zero = other
told_in tells other xs (suc i) = told_at tells other xs i

-- a link of which nothing is told but whether it was finished
abbrev pub unknown_but : Option ℕ → Port
unknown_but finished =
    record {
      left = None;
      taken = None;
      given = None;
      last = Nothing;
      owed = false;
      others = 0;
      finished = finished;
    }

-- how many of the first n of a list are not finished
abbrev pub open_in : {A : Type 0} → (A → Option ℕ) → List A → ℕ → ℕ
open_in finished xs n =
    open_among (told_in (λ x. unknown_but (finished x)) (unknown_but None) xs) n
