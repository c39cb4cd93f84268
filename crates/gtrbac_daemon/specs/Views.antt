-- What a run of the server with viewers leaves, and how it ends.
use Rattle.std.specs.Prelude.{◌≡◌, ◌⊎◌, ℕ, ◌==◌, ◌++◌, Bool, List, [], ◌∷◌, map, flat_map, length, None, Some, is_some, nat_lt, codes, decimal, if◌then◌else◌, Option}
use Rattle.std.specs.List.{list_any}
use Rattle.gt_base.specs.declared.requests.Entry.{Entry}
use Rattle.gt_io.specs.Links.{Traffic}
use Rattle.policy_words.specs.Naming.{NamedPolicy}
use Rattle.request_text.specs.Replies.{log_text}
use Rattle.line_server.specs.declared.ended.WorkEnd.{WorkEnd}
use Rattle.line_server.specs.declared.ended.WorkEnd.TheVariants.{Fresh, Done, DoorFault, Enough, Memory}
use Rattle.snapshot_readers.specs.declared.ends.ViewerEnd.{ViewerEnd}
use Rattle.snapshot_readers.specs.declared.ends.ViewerEnd.TheVariants as viewer
use Rattle.snapshot_readers.specs.Crew.{all_lens}
use Rattle.snapshot_readers.specs.Seats.{Watcher, AreToldOf, HaveViewed}
use Rattle.gtrbac_daemon.specs.Words.{named_behind}
use Rattle.gtrbac_daemon.specs.Crew.{Crewman, is_memory, is_door_fault, is_spent, ends_of, SomeOf, EachOf, HasFailed, LacksMemory, IsSpent, IsSound, IsDone, IsUnharmed}
use Rattle.gtrbac_daemon.specs.Headline.{CrewHeadline}
use Rattle.gtrbac_daemon.specs.Runs.{ServerScene, IsWritten, Starves, IsDueButFor, Way, Runs}

-- the first number that is above this length
abbrev pub first_above : ℕ → List ℕ → Option ℕ
first_above len [] = None
first_above len (n ∷ ns) = if nat_lt len n then Some n else first_above len ns

-- the status by whether memory was wanting, whether a door failed, whether somebody is spent, and
-- whether a number is above the length: the first of these decides
abbrev pub views_status_by : Bool → Bool → Bool → Bool → ℕ
views_status_by wanting failed spent above =
    if wanting then 8 else if failed then 10 else if spent then 11 else if above then 14 else 0

-- the line that names a number above the length
abbrev pub late_line : Option ℕ → ℕ → List ℕ
late_line None len = []
late_line (Some n) len =
    codes "views: " ++ decimal n ++ codes " > " ++ decimal len ++ codes "\n"

-- the log of the history; where 14 is due, with that line after it
abbrev pub views_text : NamedPolicy → ℕ → List Entry → ℕ → Option ℕ → List ℕ
views_text np birth h due late =
    if due == 14 then log_text np birth h ++ late_line late (length h) else log_text np birth h

-- who serves: workers and viewers
pub record Company (L : Type 0) : Type 0 where
  pub crew : List (Crewman L)
  pub viewers : List (Watcher L)

abbrev pub company : {L : Type 0} → List (Crewman L) → List (Watcher L) → Company L
company crew viewers = record { crew = crew; viewers = viewers }

-- how a viewer ended, as of a worker
abbrev pub as_work : ViewerEnd → WorkEnd
as_work viewer.Fresh = Fresh
as_work viewer.Done = Done
as_work viewer.DoorFault = DoorFault
as_work viewer.Enough = Enough
as_work viewer.Memory = Memory

module _ {L : Type 0} where
  -- a viewer as the statuses see it, which ask of its door and how it ended alone
  abbrev pub as_worker : Watcher L → Crewman L
  as_worker w =
      record { clock = None; door = w.door; served = []; outcome = as_work w.outcome }

  -- all who serve
  abbrev pub everybody : Company L → List (Crewman L)
  everybody c = c.crew ++ map as_worker c.viewers

  -- the numbers of entries that the replies are of, by viewer, link and line
  abbrev pub numbers_of : List (Watcher L) → List ℕ
  numbers_of viewers = flat_map (λ w. all_lens w.served) viewers

  -- the first of them that is above the length of the history
  abbrev pub first_late : List Entry → List (Watcher L) → Option ℕ
  first_late h viewers = first_above (length h) (numbers_of viewers)

  -- the status of a company that has served up to this history
  abbrev pub views_status : List Entry → Company L → ℕ
  views_status h c =
      views_status_by (list_any is_memory (ends_of (everybody c)))
      (list_any is_door_fault (ends_of (everybody c))) (list_any is_spent (ends_of (everybody c)))
      (is_some (first_late h c.viewers))

  -- of some of them, before and after
  abbrev pub OfSome : (Crewman L → Crewman L → Type 0) → Company L → Company L → Type 0
  OfSome P c d = SomeOf P (everybody c) (everybody d)

  -- of all of them
  abbrev pub OfAll : (Crewman L → Crewman L → Type 0) → Company L → Company L → Type 0
  OfAll P c d = EachOf P (everybody c) (everybody d)

module _ {L : Type 0} (traffic : L → Traffic) (h : List Entry) where
  -- What was told of the viewers, and which status is due. Each viewer's replies are of beginnings
  -- of one history that goes on from the crew's, and the status is that of all; or there was no
  -- memory to name the number that is above the length; or none to see to the replies
  pub data Compared (np : NamedPolicy) (birth due : ℕ) (c d : Company L) : Type 0 where
    seen : due ≡ views_status h d → AreToldOf traffic np birth h c.viewers d.viewers
        → Compared np birth due c d
    unnamed : due ≡ 8 → views_status h d ≡ 14
        → AreToldOf traffic np birth h c.viewers d.viewers → Compared np birth due c d
    unseen : due ≡ 8 → HaveViewed traffic np birth c.viewers d.viewers → Compared np birth due c d

  -- crew and viewers have served from this birth, and the log of the crew's history is written with
  -- its status
  pub record ViewHasServed (np : NamedPolicy) (birth status : ℕ) (a b : ServerScene (Company L))
      : Type 0 where
    pub headline : CrewHeadline traffic np birth a.server.crew b.server.crew h
    pub due : ℕ
    pub compared : Compared np birth due a.server b.server
    pub written : IsWritten due (views_text np birth h due (first_late h b.server.viewers)) status
        a.written b.written a.faults b.faults

  -- There was no memory: for a worker or a viewer, to name a number that is above the length, or to
  -- see to the replies of the viewers
  pub data LacksViewMemory (c d : Company L) : Type 0 where
    for_somebody : OfSome LacksMemory c d → LacksViewMemory c d
    to_name : (n : ℕ) → OfAll IsDone c d → first_late h d.viewers ≡ Some n → LacksViewMemory c d
    to_compare : (np : NamedPolicy) (birth : ℕ) → HaveViewed traffic np birth c.viewers d.viewers
        → LacksViewMemory c d

  module _ (status : ℕ) (a b : ServerScene (Company L)) where
    -- the statuses of a crew and its viewers, each with its cause
    pub data ViewCause : Type 0 where
      done : status ≡ 0 → OfAll IsDone a.server b.server → first_late h b.server.viewers ≡ None
          → ViewCause
      memory : status ≡ 8 → LacksViewMemory a.server b.server ⊎ Starves status a b → ViewCause
      failed : status ≡ 10 → OfSome HasFailed a.server b.server → ViewCause
      spent : status ≡ 11 → OfSome IsSpent a.server b.server → OfAll IsSound a.server b.server
          → ViewCause
      late : (n : ℕ) → status ≡ 14 → OfAll IsDone a.server b.server
          → first_late h b.server.viewers ≡ Some n → ViewCause

    -- and each cause with its status; but for an output that failed, and want of memory
    pub record ViewDues : Type 0 where
      pub failed_is : OfSome HasFailed a.server b.server
          → IsDueButFor (LacksViewMemory a.server b.server) status a b 10
      pub spent_is : OfSome IsSpent a.server b.server → OfAll IsSound a.server b.server
          → IsDueButFor (LacksViewMemory a.server b.server) status a b 11
      pub late_is : (n : ℕ) → OfAll IsDone a.server b.server
          → first_late h b.server.viewers ≡ Some n
          → IsDueButFor (LacksViewMemory a.server b.server) status a b 14
      pub done_is : OfAll IsDone a.server b.server → first_late h b.server.viewers ≡ None
          → IsDueButFor (LacksViewMemory a.server b.server) status a b 0

  -- no door failed, nor is a worker or a viewer spent, in a run that goes well
  abbrev pub view_way : Way (Company L)
  view_way =
      record {
        HasServed = ViewHasServed;
        OwnCause = ViewCause;
        OwnDues = ViewDues;
        IsUnharmed = OfAll IsUnharmed;
        IsGood = λ status. (status ≡ 0) ⊎ (status ≡ 8) ⊎ (status ≡ 14);
      }

-- what `daemon_views` promises, over the history of the crew
pub record RunsViews {L : Type 0} (traffic : L → Traffic) (words : List (List ℕ)) (status : ℕ)
    (a b : ServerScene (Company L)) : Type 0 where
  pub history : List Entry
  pub runs : Runs (view_way traffic history) (named_behind (codes "views") words) status a b
