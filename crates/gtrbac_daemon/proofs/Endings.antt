-- What a status says of those who serve, and which status each cause has.
use Rattle.std.proofs.Common.{◌≡◌, ◌⊎◌, ℕ, ◌+◌, ◌≤◌, Bool, true, false, List, [], ◌∷◌, length, inl, inr, refl, sym, ap, ◌∙◌, arith, map, Option, Some, None}
use Rattle.std.specs.Prelude.{is_some}
use Rattle.std.specs.List.{list_any}
use Rattle.gt_io.specs.Memory.{one_more}
use Rattle.gt_io.specs.Causes.{Rose}
use Rattle.gt_io.specs.Links.{Traffic, Tally}
use Rattle.gt_base.specs.declared.requests.Entry.{Entry}
use Rattle.turn_lock.specs.Turns.{Each}
use Rattle.policy_words.specs.Naming.{NamedPolicy}
use Rattle.line_server.specs.declared.ended.Served.{Served}
use Rattle.line_server.specs.declared.ended.WorkEnd.{WorkEnd}
use Rattle.line_server.specs.declared.ended.WorkEnd.TheVariants.{Fresh, Done, DoorFault, Enough, Worn, Memory}
use Rattle.line_server.specs.Working.{WorksTo}
use Rattle.snapshot_readers.specs.declared.ends.Viewed.{Viewed}
use Rattle.snapshot_readers.specs.declared.ends.ViewerEnd.{ViewerEnd}
use Rattle.snapshot_readers.specs.declared.ends.ViewerEnd.TheVariants as viewer
use Rattle.snapshot_readers.specs.Crew.{ViewsTo}
use Rattle.snapshot_readers.specs.Seats.{Watcher, AreToldOf, HaveViewed}
use Rattle.gtrbac_daemon.specs.Crew.{Crewman, is_memory, is_door_fault, is_spent, ends_of, SomeOf, EachOf, DoorRose, HasFailed, LacksMemory, IsSpent, IsUnharmed, IsDone, IsSound}
use Rattle.gtrbac_daemon.specs.Crew as crew
use Rattle.gtrbac_daemon.specs.Headline.{HaveWorked}
use Rattle.gtrbac_daemon.specs.Views.{views_status_by, as_work, as_worker}
use Rattle.gtrbac_daemon.proofs.Somebody.{some_by, each_by, any_by, none_by, both_of, some_idle, each_idle}

-- a crew's status is that without a number above the length
pub plain : (m d p : Bool) → crew.status_by m d p ≡ views_status_by m d p false
plain true d p = refl
plain false true p = refl
plain false false true = refl
plain false false false = refl

-- the statuses that may be due where a door failed, where somebody is spent, and where neither is
pub fails_by : (m d p l : Bool) → d ≡ true → (views_status_by m d p l ≡ 10) ⊎ (m ≡ true)
fails_by true d p l e = inr refl
fails_by false d p l e = inl (λ i. views_status_by false (e i) p l)

pub spends_by : (m d p l : Bool) → d ≡ false → p ≡ true → (views_status_by m d p l ≡ 11) ⊎ (m ≡ true)
spends_by true d p l e f = inr refl
spends_by false d p l e f = inl (λ i. views_status_by false (e i) (f i) l)

pub well_by : (m d p l : Bool) → d ≡ false → p ≡ false → (views_status_by m d p l ≡ 8) ⊎ (views_status_by m d p l ≡ views_status_by false false false l)
well_by true d p l e f = inl refl
well_by false d p l e f = inr (λ i. views_status_by false (e i) (f i) l)

-- 14 is that of a number above the length alone
pub fourteen_says : (m d p l : Bool) → views_status_by m d p l ≡ 14 → (m ≡ false) × (d ≡ false) × (p ≡ false) × (l ≡ true)
fourteen_says true d p l e = absurd (cc e)
fourteen_says false true p l e = absurd (cc e)
fourteen_says false false true l e = absurd (cc e)
fourteen_says false false false true e = (refl, refl, refl, refl)
fourteen_says false false false false e = absurd (cc e)

pub some_of : {A : Type 0} (o : Option A) → is_some o ≡ true → (x : A) × (o ≡ Some x)
some_of None e = absurd (cc e)
some_of (Some x) e = (x, refl)

-- one who serves has ended, and where that was told as a door's fault, the door failed
abbrev Ended : WorkEnd → Type 0 → Type 0
Ended Fresh rose = ⊥
Ended DoorFault rose = rose
Ended _ rose = Unit {0}

abbrev pub HasEnded : {L : Type 0} → Crewman L → Crewman L → Type 0
HasEnded j k = Ended k.outcome (DoorRose j.door k.door)

-- a count that was raised by one has risen
has_risen : (t t' : Tally) → t' ≡ record t { faults = one_more t.faults } → Rose t.faults t'.faults
has_risen t t' is = let e = ap (λ (u : Tally). u.faults) is in omega (arith, e)

module _ {L : Type 0} (links : Option (List L)) (t t' : Tally) where
  worker_ended : (draws : ℕ) (served : List (Served L)) (end : WorkEnd) → WorksTo links t t' draws served end → Ended end (Rose t.faults t'.faults)
  worker_ended draws served Fresh k = k
  worker_ended draws served Done k = tt
  worker_ended draws served DoorFault k = has_risen t t' k.2
  worker_ended draws served Enough k = tt
  worker_ended draws served (Worn n) k = tt
  worker_ended draws served Memory k = tt

  viewer_ended : (served : List (Viewed L)) (end : ViewerEnd) → ViewsTo links t t' served end → Ended (as_work end) (Rose t.faults t'.faults)
  viewer_ended served viewer.Fresh k = k
  viewer_ended served viewer.Done k = tt
  viewer_ended served viewer.DoorFault k = has_risen t t' k.1
  viewer_ended served viewer.Enough k = tt
  viewer_ended served viewer.Memory k = tt

memory_one : (end : WorkEnd) → is_memory end ≡ true → end ≡ Memory
memory_one Fresh m = absurd (cc m)
memory_one Done m = absurd (cc m)
memory_one DoorFault m = absurd (cc m)
memory_one Enough m = absurd (cc m)
memory_one (Worn n) m = absurd (cc m)
memory_one Memory m = refl

module _ (rose : Type 0) where
  done_one : (end : WorkEnd) → Ended end rose → is_memory end ≡ false → is_door_fault end ≡ false → is_spent end ≡ false → end ≡ Done
  done_one Fresh k m d p = absurd k
  done_one Done k m d p = refl
  done_one DoorFault k m d p = absurd (cc d)
  done_one Enough k m d p = absurd (cc p)
  done_one (Worn n) k m d p = absurd (cc p)
  done_one Memory k m d p = absurd (cc m)

  failed_one : (end : WorkEnd) → Ended end rose → is_door_fault end ≡ true → (end ≡ DoorFault) × rose
  failed_one Fresh k d = absurd k
  failed_one Done k d = absurd (cc d)
  failed_one DoorFault k d = (refl, k)
  failed_one Enough k d = absurd (cc d)
  failed_one (Worn n) k d = absurd (cc d)
  failed_one Memory k d = absurd (cc d)

  sound_one : (end : WorkEnd) → Ended end rose → (rose → ⊥) → is_door_fault end ≡ false
  sound_one Fresh k sound = refl
  sound_one Done k sound = refl
  sound_one DoorFault k sound = absurd (sound k)
  sound_one Enough k sound = refl
  sound_one (Worn n) k sound = refl
  sound_one Memory k sound = refl

module _ {L : Type 0} (traffic : L → Traffic) (np : NamedPolicy) (birth : ℕ) (h : List Entry) where
  pub crew_ended : (w : ℕ) (js ks : List (Crewman L)) → HaveWorked traffic np birth h w js ks → EachOf HasEnded js ks
  crew_ended w [] [] all = tt
  crew_ended w [] (k ∷ ks) all = absurd all
  crew_ended w (j ∷ js) [] all = absurd all
  crew_ended w (j ∷ js) (k ∷ ks) all =
      (worker_ended k.door.links j.door.tally k.door.tally all.0.draws k.served k.outcome all.0.cause, crew_ended (w + 1) js ks all.1)

  pub viewers_ended : (vs ws : List (Watcher L)) → HaveViewed traffic np birth vs ws → EachOf HasEnded (map as_worker vs) (map as_worker ws)
  viewers_ended [] [] all = tt
  viewers_ended [] (w ∷ ws) all = absurd all
  viewers_ended (v ∷ vs) [] all = absurd all
  viewers_ended (v ∷ vs) (w ∷ ws) all = (viewer_ended w.door.links v.door.tally w.door.tally w.served w.outcome all.0.1.cause, viewers_ended vs ws all.1)

  pub told_viewed : (vs ws : List (Watcher L)) → AreToldOf traffic np birth h vs ws → HaveViewed traffic np birth vs ws
  told_viewed [] [] t = tt
  told_viewed [] (w ∷ ws) t = absurd t
  told_viewed (v ∷ vs) [] t = absurd t
  told_viewed (v ∷ vs) (w ∷ ws) t = ((t.0.seen, t.0.viewed), told_viewed vs ws t.1)

abbrev outcome : {L : Type 0} → Crewman L → WorkEnd
outcome k = k.outcome

abbrev pub IsFresh : {L : Type 0} → Crewman L → Type 0
IsFresh k = k.outcome ≡ Fresh

module _ {L : Type 0} (js ks : List (Crewman L)) where
  abbrev wants : Bool
  wants = list_any is_memory (ends_of ks)

  abbrev fails : Bool
  fails = list_any is_door_fault (ends_of ks)

  abbrev spends : Bool
  spends = list_any is_spent (ends_of ks)

  -- from the causes to what the ends say
  pub memory_told : SomeOf LacksMemory js ks → wants ≡ true
  memory_told = any_by outcome is_memory LacksMemory (λ j k e. ap is_memory e) js ks

  pub failed_told : SomeOf HasFailed js ks → fails ≡ true
  failed_told = any_by outcome is_door_fault HasFailed (λ j k e. ap is_door_fault e.0) js ks

  pub spent_told : SomeOf IsSpent js ks → spends ≡ true
  spent_told = any_by outcome is_spent IsSpent (λ j k e. e) js ks

  pub sound_told : EachOf IsSound js ks → fails ≡ false
  sound_told = none_by outcome is_door_fault IsSound (λ j k e. e) js ks

  -- where all are done, the status is told by a number above the length
  pub done_told : EachOf IsDone js ks → (l : Bool) → views_status_by wants fails spends l ≡ views_status_by false false false l
  done_told all l =
      let m = none_by outcome is_memory IsDone (λ j k e. ap is_memory e) js ks all in
      let d = none_by outcome is_door_fault IsDone (λ j k e. ap is_door_fault e) js ks all in
      let p = none_by outcome is_spent IsDone (λ j k e. ap is_spent e) js ks all in
      λ i. views_status_by (m i) (d i) (p i) l

  -- those who have not begun are neither done nor failed nor spent, nor did one lack memory
  module _ (fresh : Each IsFresh ks) where
    pub idle_done : 1 ≤ length ks → EachOf IsDone js ks → ⊥
    idle_done some = each_idle IsFresh IsDone (λ j k new e. let no : ◌≡◌ {A = WorkEnd} Fresh Done = sym new ∙ e in cc no) js ks some fresh

    pub idle_memory : SomeOf LacksMemory js ks → ⊥
    idle_memory = some_idle IsFresh LacksMemory (λ j k new e. let no : ◌≡◌ {A = WorkEnd} Fresh Memory = sym new ∙ e in cc no) js ks fresh

    pub idle_failed : SomeOf HasFailed js ks → ⊥
    idle_failed = some_idle IsFresh HasFailed (λ j k new e. let no : ◌≡◌ {A = WorkEnd} Fresh DoorFault = sym new ∙ e.0 in cc no) js ks fresh

    pub idle_spent : SomeOf IsSpent js ks → ⊥
    idle_spent = some_idle IsFresh IsSpent (λ j k new e. let no : false ≡ true = ap is_spent (sym new) ∙ e in cc no) js ks fresh

  module _ (all : EachOf HasEnded js ks) where
    pub memory_some : wants ≡ true → SomeOf LacksMemory js ks
    memory_some = some_by outcome is_memory HasEnded LacksMemory (λ j k a e. memory_one k.outcome e) js ks all

    pub done_all : wants ≡ false → fails ≡ false → spends ≡ false → EachOf IsDone js ks
    done_all m d p =
        let one = each_by outcome is_memory HasEnded (λ j k. HasEnded j k × (is_memory k.outcome ≡ false)) (λ j k a e. (a, e)) js ks all m in
        let two = each_by outcome is_door_fault (λ j k. HasEnded j k × (is_memory k.outcome ≡ false)) (λ j k. (HasEnded j k × (is_memory k.outcome ≡ false)) × (is_door_fault k.outcome ≡ false)) (λ j k a e. (a, e)) js ks one d in
        each_by outcome is_spent (λ j k. (HasEnded j k × (is_memory k.outcome ≡ false)) × (is_door_fault k.outcome ≡ false)) IsDone (λ j k a e. done_one (DoorRose j.door k.door) k.outcome a.0.0 a.0.1 a.1 e) js ks two p

    pub unharmed : EachOf IsUnharmed js ks → (fails ≡ false) × (spends ≡ false)
    unharmed fine = (
      none_by outcome is_door_fault (λ j k. HasEnded j k × IsUnharmed j k) (λ j k a. sound_one (DoorRose j.door k.door) k.outcome a.0 a.1.0) js ks (both_of HasEnded IsUnharmed js ks all fine),
      none_by outcome is_spent IsUnharmed (λ j k a. a.1) js ks fine,
    )

    -- the cause of a status, each of five
    pub cause_by : (late : Option ℕ) (s : ℕ) (C : Type 0) → (s ≡ 0 → EachOf IsDone js ks → late ≡ None → C) → (s ≡ 8 → SomeOf LacksMemory js ks → C) → (s ≡ 10 → SomeOf HasFailed js ks → C)
        → (s ≡ 11 → SomeOf IsSpent js ks → EachOf IsSound js ks → C) → ((n : ℕ) → s ≡ 14 → EachOf IsDone js ks → late ≡ Some n → C) → s ≡ views_status_by wants fails spends (is_some late) → C
    cause_by late s C done memory failed spent above =
        go wants fails spends late refl refl refl refl
      where
        go : (m d p : Bool) (o : Option ℕ) → wants ≡ m → fails ≡ d → spends ≡ p → late ≡ o → s ≡ views_status_by m d p (is_some o) → C
        go true d p o em ed ep eo is = memory is (memory_some em)
        go false true p o em ed ep eo is = failed is (some_by outcome is_door_fault HasEnded HasFailed (λ j k a e. failed_one (DoorRose j.door k.door) k.outcome a e) js ks all ed)
        go false false true o em ed ep eo is = spent is (some_by outcome is_spent HasEnded IsSpent (λ j k a e. e) js ks all ep) (each_by outcome is_door_fault HasEnded IsSound (λ j k a e. e) js ks all ed)
        go false false false (Some n) em ed ep eo is = above n is (done_all em ed ep) eo
        go false false false None em ed ep eo is = done is (done_all em ed ep) eo
