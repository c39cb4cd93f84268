-- Workers before and after a service, and the status of a crew.
use Rattle.std.specs.Prelude.{◌≡◌, ◌⊎◌, ℕ, Bool, true, false, List, [], ◌∷◌, map, Option}
use Rattle.std.specs.List.{list_any}
use Rattle.gt_io.specs.Links.{Doorway}
use Rattle.gt_io.specs.Causes.{Rose}
use Rattle.line_server.specs.declared.ended.Served.{Served}
use Rattle.line_server.specs.declared.ended.WorkEnd.{WorkEnd}
use Rattle.line_server.specs.declared.ended.WorkEnd.TheVariants.{Fresh, Done, DoorFault, Enough, Worn, Memory}
use Rattle.line_server.specs.declared.workers.Worker.{Worker}

-- a worker as it is seen: the readings of its clock that are to come, where they are told, its door,
-- its served links, and how it ended
pub record Crewman (L : Type 0) : Type 0 where
  pub clock : Option (ℕ → ℕ)
  pub door : Doorway L
  pub served : List (Served L)
  pub outcome : WorkEnd

module _ {D C G L : Type 0} (readings : C → Option (ℕ → ℕ)) (doorway : D → Doorway L) where
  abbrev pub crewman : Worker D C G L → Crewman L
  crewman w =
      record {
        clock = readings w.clock;
        door = doorway w.door;
        served = w.served.items;
        outcome = w.outcome;
      }

  abbrev pub crewmen : List (Worker D C G L) → List (Crewman L)
  crewmen ws = map crewman ws

-- it has not begun, and has served nothing
abbrev pub IsNew : {D C G L : Type 0} → Worker D C G L → Type 0
IsNew w = (w.outcome ≡ Fresh) × (w.served.items ≡ [])

abbrev pub is_memory : WorkEnd → Bool
is_memory Memory = true
is_memory _ = false

abbrev pub is_door_fault : WorkEnd → Bool
is_door_fault DoorFault = true
is_door_fault _ = false

-- it has served as many links as a worker may, or its pass is worn
abbrev pub is_spent : WorkEnd → Bool
is_spent Enough = true
is_spent (Worn n) = true
is_spent _ = false

-- the status by whether a worker lacked memory, whether a door failed, and whether a worker is
-- spent
abbrev pub status_by : Bool → Bool → Bool → ℕ
status_by true failed spent = 8
status_by false true spent = 10
status_by false false true = 11
status_by false false false = 0

abbrev pub status_of : List WorkEnd → ℕ
status_of ends =
    status_by (list_any is_memory ends) (list_any is_door_fault ends) (list_any is_spent ends)

module _ {A : Type 0} (P : A → A → Type 0) where
  -- of some of those who serve, before and after
  abbrev pub SomeOf : List A → List A → Type 0
  SomeOf (j ∷ js) (k ∷ ks) = P j k ⊎ SomeOf js ks
  SomeOf _ _ = ⊥

  -- of each of them
  abbrev pub EachOf : List A → List A → Type 0
  EachOf [] [] = Unit {0}
  EachOf (j ∷ js) (k ∷ ks) = P j k × EachOf js ks
  EachOf _ _ = ⊥

-- a door has failed since
abbrev pub DoorRose : {L : Type 0} → Doorway L → Doorway L → Type 0
DoorRose d e = Rose d.tally.faults e.tally.faults

module _ {L : Type 0} where
  abbrev pub ends_of : List (Crewman L) → List WorkEnd
  ends_of crew = map (λ (k : Crewman L). k.outcome) crew

  abbrev pub HasFailed : Crewman L → Crewman L → Type 0
  HasFailed j k = (k.outcome ≡ DoorFault) × DoorRose j.door k.door

  -- there was no memory for it
  abbrev pub LacksMemory : Crewman L → Crewman L → Type 0
  LacksMemory j k = k.outcome ≡ Memory

  abbrev pub IsSpent : Crewman L → Crewman L → Type 0
  IsSpent j k = is_spent k.outcome ≡ true

  -- neither its door failed nor is it spent
  abbrev pub IsUnharmed : Crewman L → Crewman L → Type 0
  IsUnharmed j k = (DoorRose j.door k.door → ⊥) × (is_spent k.outcome ≡ false)

  -- its door was read to its end
  abbrev pub IsDone : Crewman L → Crewman L → Type 0
  IsDone j k = k.outcome ≡ Done

  abbrev pub IsSound : Crewman L → Crewman L → Type 0
  IsSound j k = is_door_fault k.outcome ≡ false
