-- What a run of the polling server leaves, and how it ends.
use Rattle.std.specs.Prelude.{◌≡◌, ◌⊎◌, ◌≤◌, ◌<◌, ◌+◌, ◌*◌, ℕ, List, length, codes, slice_get, true, Some, Ok, Err, Option}
use Rattle.gt_base.specs.declared.requests.Entry.{Entry}
use Rattle.gt_base.specs.declared.limits.TheConstants.{MAX_LINKS}
use Rattle.gt_io.specs.Causes.{Rose}
use Rattle.gt_io.specs.declared.source.Failed.{Failed}
use Rattle.gt_io.specs.declared.port.PortEvent.TheVariants.{Stop}
use Rattle.gt_io.specs.Ports.{Harbour}
use Rattle.turn_lock.specs.Turns.{part}
use Rattle.policy_words.specs.Naming.{NamedPolicy}
use Rattle.request_text.specs.Replies.{log_text}
use Rattle.connection_laws.specs.Lines.{readings_of}
use Rattle.poll_front.specs.declared.ends.Polled.{Polled}
use Rattle.poll_front.specs.declared.front.RunEnd.{RunEnd}
use Rattle.poll_front.specs.declared.front.RunEnd.TheVariants.{Stopped, PortFault, Enough, Worn, Memory}
use Rattle.poll_front.specs.Fronts.{all_acted}
use Rattle.poll_front.specs.Tables.{RunsTo, FaultsAreLast, EndsAreLast, is_worn_end, AreUnwornEnds, IsPolledFront}
use Rattle.gtrbac_daemon.specs.Words.{named_behind}
use Rattle.gtrbac_daemon.specs.Runs.{ServerScene, Headline, IsWritten, Starves, IsDueButFor, Way, Runs}

-- who serves: the readings of the requests' clock, the ports, and how links ended
pub record Polling : Type 0 where
  pub clock : Option (ℕ → ℕ)
  pub ports : Harbour
  pub ends : List Polled

abbrev pub polling : Option (ℕ → ℕ) → Harbour → List Polled → Polling
polling clock ports ends = record { clock = clock; ports = ports; ends = ends }

-- the status by why the run ended
abbrev pub poll_status : RunEnd → ℕ
poll_status Stopped = 0
poll_status PortFault = 10
poll_status Enough = 11
poll_status Worn = 11
poll_status Memory = 8

-- What one pass has served: all links are told over the history; and why the run ended. It drew a
-- turn for each entry, and at most two more for each reading. After a read or write that failed,
-- and a read that told the end, there was no other of the same link, and no `next` after one that
-- failed
pub record HasPolled (np : NamedPolicy) (birth : ℕ) (h : List Entry) (p q : Polling) (end : RunEnd)
    : Type 0 where
  pub front : IsPolledFront np birth h p.clock q.clock p.ports q.ports q.ends
  pub draws : ℕ
  pub few_draws : draws ≤ length (part 0 h) + 2 * length (readings_of (all_acted front.turns))
  pub runs : RunsTo p.ports q.ports draws q.ends end
  pub faults : FaultsAreLast p.ports q.ports
  pub ends_told : EndsAreLast p.ports q.ports

-- the links were served from this birth, and the log of the history is written with the run's
-- status
pub record PollHasServed (np : NamedPolicy) (birth status : ℕ) (a b : ServerScene Polling)
    : Type 0 where
  pub history : List Entry
  pub end : RunEnd
  pub headline : Headline np birth history 1 (HasPolled np birth history a.server b.server end)
  pub written : IsWritten (poll_status end) (log_text np birth history) status
      a.written b.written a.faults b.faults

-- and there was no memory for a further link
abbrev pub LacksLinkMemory : ℕ → ServerScene Polling → ServerScene Polling → Type 0
LacksLinkMemory status a b =
    (np : NamedPolicy) × ((birth : ℕ)
    × ((k : PollHasServed np birth status a b) × (k.end ≡ Memory)))

-- the last answer of `next` was that the ports stop
abbrev pub HasStopped : Polling → Type 0
HasStopped q = q.ports.told ≡ Some (Ok Stop)

-- it was a failure
abbrev pub HasFailedToTell : Polling → Type 0
HasFailedToTell q = (f : Failed) × (q.ports.told ≡ Some (Err f))

-- as many links were opened as may be, or a link found the pass worn
abbrev pub IsUsedUp : Polling → Type 0
IsUsedUp q = (q.ports.opened ≡ MAX_LINKS)
    ⊎ ((i : ℕ) × ((e : Polled) × (slice_get q.ends i ≡ Some e) × (is_worn_end e.outcome ≡ true)))

module _ (status : ℕ) (a b : ServerScene Polling) where
  -- the statuses of a polling run, each with its cause
  pub data PollCause : Type 0 where
    stopped : status ≡ 0 → HasStopped b.server → b.server.ports.opened < MAX_LINKS
        → AreUnwornEnds b.server.ends → PollCause
    memory : status ≡ 8 → LacksLinkMemory status a b ⊎ Starves status a b → PollCause
    failed : status ≡ 10 → HasFailedToTell b.server
        → Rose a.server.ports.faults b.server.ports.faults → PollCause
    used_up : status ≡ 11 → IsUsedUp b.server → PollCause

  -- and each cause with its status; but for an output that failed, and a further link that there
  -- was no memory for
  pub record PollDues : Type 0 where
    pub stopped_is : HasStopped b.server → IsDueButFor (LacksLinkMemory status a b) status a b 0
    pub failed_is : HasFailedToTell b.server
        → IsDueButFor (LacksLinkMemory status a b) status a b 10
    pub used_up_is : IsUsedUp b.server → IsDueButFor (LacksLinkMemory status a b) status a b 11

-- the ports have stopped, in a run that goes well
abbrev pub poll_way : Way Polling
poll_way =
    record {
      HasServed = PollHasServed;
      OwnCause = PollCause;
      OwnDues = PollDues;
      IsUnharmed = λ p q. HasStopped q;
      IsGood = λ status. (status ≡ 0) ⊎ (status ≡ 8);
    }

-- what `daemon_poll` promises
abbrev pub RunsPoll : List (List ℕ) → ℕ → ServerScene Polling → ServerScene Polling → Type 0
RunsPoll words = Runs poll_way (named_behind (codes "poll") words)
