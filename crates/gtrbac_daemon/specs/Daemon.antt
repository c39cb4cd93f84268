-- What a run of the plain server leaves, and how it ends.
use Rattle.std.specs.Prelude.{◌≡◌, ◌⊎◌, ℕ, List}
use Rattle.gt_base.specs.declared.requests.Entry.{Entry}
use Rattle.gt_io.specs.Links.{Traffic}
use Rattle.policy_words.specs.Naming.{NamedPolicy}
use Rattle.request_text.specs.Replies.{log_text}
use Rattle.gtrbac_daemon.specs.Words.{policy_named}
use Rattle.gtrbac_daemon.specs.Crew.{Crewman, status_of, ends_of, SomeOf, EachOf, HasFailed, LacksMemory, IsSpent, IsUnharmed, IsDone, IsSound}
use Rattle.gtrbac_daemon.specs.Headline.{CrewHeadline}
use Rattle.gtrbac_daemon.specs.Runs.{ServerScene, IsWritten, Starves, IsToldAs, IsDueButFor, Way, Runs}

-- the crew has worked from this birth, and the log of its history is written with its status
pub record CrewHasServed {L : Type 0} (traffic : L → Traffic) (np : NamedPolicy) (birth status : ℕ)
    (a b : ServerScene (List (Crewman L))) : Type 0 where
  pub history : List Entry
  pub headline : CrewHeadline traffic np birth a.server b.server history
  pub written : IsWritten (status_of (ends_of b.server)) (log_text np birth history) status
      a.written b.written a.faults b.faults

module _ {L : Type 0} (status : ℕ) (a b : ServerScene (List (Crewman L))) where
  -- the statuses of a crew, each with its cause
  pub data CrewCause : Type 0 where
    done : status ≡ 0 → EachOf IsDone a.server b.server → CrewCause
    memory : status ≡ 8 → SomeOf LacksMemory a.server b.server ⊎ Starves status a b → CrewCause
    failed : status ≡ 10 → SomeOf HasFailed a.server b.server → CrewCause
    spent : status ≡ 11 → SomeOf IsSpent a.server b.server → EachOf IsSound a.server b.server
        → CrewCause

  -- and each cause with its status; but for an output that failed, and a worker without memory
  pub record CrewDues : Type 0 where
    pub done_is : EachOf IsDone a.server b.server → IsToldAs status a b 0
    pub memory_is : SomeOf LacksMemory a.server b.server → status ≡ 8
    pub failed_is : SomeOf HasFailed a.server b.server
        → IsDueButFor (SomeOf LacksMemory a.server b.server) status a b 10
    pub spent_is : SomeOf IsSpent a.server b.server → EachOf IsSound a.server b.server
        → IsDueButFor (SomeOf LacksMemory a.server b.server) status a b 11

-- no door failed, nor is a worker spent, in a run that goes well
abbrev pub crew_way : {L : Type 0} → (L → Traffic) → Way (List (Crewman L))
crew_way traffic =
    record {
      HasServed = CrewHasServed traffic;
      OwnCause = CrewCause;
      OwnDues = CrewDues;
      IsUnharmed = EachOf IsUnharmed;
      IsGood = λ status. (status ≡ 0) ⊎ (status ≡ 8);
    }

-- what `daemon` promises
abbrev pub RunsServer : {L : Type 0} → (L → Traffic) → List (List ℕ) → ℕ
    → ServerScene (List (Crewman L)) → ServerScene (List (Crewman L)) → Type 0
RunsServer traffic words = Runs (crew_way traffic) (policy_named words)
