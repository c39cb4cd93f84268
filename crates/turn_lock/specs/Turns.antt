-- The rule of the table, and what each step tells. Its words are the number of entries, of tickets
-- drawn, and the ticket that is served; its one slot has the value.
use Rattle.std.specs.Prelude.{◌≡◌, ◌⊎◌, ℕ, ◌+◌, ◌^◌, ◌<◌, ◌≤◌, ◌==◌, List, [], ◌∷◌, ◌++◌, length, drop, Some, None}
use Rattle.std.specs.List.{filter}
use mathlib.Core.Option.{some}
use mathlib.Core.List.{IsPrefix}
use lib.ListN.{get_elem?}
use Rattle.atomic_table.specs.Table.{State, Me, Step}
use Rattle.gt_base.specs.declared.requests.Entry.{Entry}
use Rattle.turn_lock.specs.declared.view.Account.{Account}
use Rattle.turn_lock.specs.declared.view.Stage.{Stage}
use Rattle.turn_lock.specs.declared.view.Stage.TheVariants.{Idle, Waits, Keeps, Holds}
use Rattle.turn_lock.specs.declared.view.SeatView.{SeatView}
use Rattle.turn_lock.specs.declared.view.Spot.{Spot}
use Rattle.turn_lock.specs.declared.view.Spot.TheVariants.{Home, Told}
use Rattle.turn_lock.specs.declared.view.Origin.{Origin}

-- the entries of one worker
abbrev pub part : ℕ → List Entry → List Entry
part n es = filter (λ (e : Entry). e.who.worker == n) es

-- f of each, added up
abbrev pub total : {A : Type 0} → (A → ℕ) → List A → ℕ
total f [] = 0
total f (x ∷ xs) = f x + total f xs

-- P of each
abbrev pub Each : {A : Type 0} → (A → Type 0) → List A → Type 0
Each P [] = Unit {0}
Each P (x ∷ xs) = P x × Each P xs

abbrev pub is_waiting : Stage → ℕ
is_waiting Idle = 0
is_waiting (Waits t) = 1
is_waiting (Keeps t) = 1
is_waiting (Holds t known) = 1

abbrev pub is_holding : Stage → ℕ
is_holding Idle = 0
is_holding (Waits t) = 0
is_holding (Keeps t) = 0
is_holding (Holds t known) = 1

-- What a pass has drawn and seen, and its own entries. log is the history, added are its entries
-- after the first front, given is the number of passes so far, and owner tells the seat that keeps
-- the account of a number
pub record FitsAccount (log added : List Entry) (given : ℕ) (owner : ℕ → ℕ) (seat : ℕ) (a : Account)
    : Type 0 where
  pub below : a.number < given
  pub owned : owner a.number ≡ seat
  pub few : a.draws ≤ 2 ^ 40
  pub seen : IsPrefix a.seen log
  pub own : a.own ≡ part a.number added

-- The ticket of a seat is its own: drawer tells the seat that drew it. Who waits was not served
-- yet, who keeps is served now, and who holds is served now and knows the history
abbrev pub FitsStage : List Entry → ℕ → ℕ → (ℕ → ℕ) → ℕ → Stage → Type 0
FitsStage log tickets serving drawer seat Idle = Unit {0}
FitsStage log tickets serving drawer seat (Waits t) =
    (serving ≤ t) × (t < tickets) × (drawer t ≡ seat)
FitsStage log tickets serving drawer seat (Keeps t) =
    (t ≡ serving) × (t < tickets) × (drawer t ≡ seat)
FitsStage log tickets serving drawer seat (Holds t known) =
    (t ≡ serving) × (t < tickets) × (drawer t ≡ seat) × (known ≡ log)

-- What one seat knows. The seat that keeps the next number is the maker
pub record FitsView {M : Type 0} (root : M) (log added : List Entry)
    (given maker tickets serving : ℕ) (owner drawer : ℕ → ℕ) (seat : ℕ) (v : SeatView M)
    : Type 0 where
  pub root_is : (r : M) → v.root ≡ Some r → r ≡ root
  pub next : 0 < v.next → (v.next ≡ given) × (seat ≡ maker)
  -- it is not spent where it keeps the next number or has a ticket
  pub live : 0 < v.next + is_waiting v.stage → 0 < length v.accounts
  pub stage : FitsStage log tickets serving drawer seat v.stage
  pub accounts : Each (FitsAccount log added given owner seat) v.accounts

module _ {M : Type 0} where
  abbrev pub draws_of : SeatView M → ℕ
  draws_of v = total (λ (a : Account). a.draws) v.accounts

  abbrev pub accounts_of : SeatView M → ℕ
  accounts_of v = length v.accounts

  abbrev pub next_of : SeatView M → ℕ
  next_of v = v.next

  abbrev pub waits : SeatView M → ℕ
  waits v = is_waiting v.stage

  abbrev pub holds_slot : SeatView M → ℕ
  holds_slot v = is_holding v.stage

-- the slot is home, with a value that keeps this history
abbrev pub AtHome : {M : Type 0} → (M → List Entry) → (M → M → Type 0) → M → List Entry
    → List (mathlib.Core.Option.Option (Spot M)) → Type 0
AtHome {M} list same root log homes =
    (x : M) × (get_elem? homes 0 ≡ some (some (Home x))) × (list x ≡ log) × same root x

-- The rule, which holds between any two steps
pub record KeptRule {M : Type 0} (list : M → List Entry) (same : M → M → Type 0) (o : Origin M)
    (s : State (Spot M) (SeatView M)) : Type 0 where
  -- the entries after the first front, and what the words and the views come to
  pub added : List Entry
  pub tickets : ℕ
  pub serving : ℕ
  pub given : ℕ
  pub maker : ℕ
  -- the seat that keeps the account of a number, and the one that drew a ticket
  pub owner : ℕ → ℕ
  pub drawer : ℕ → ℕ
  pub words : s.words ≡ length (list o.value.value ++ added) ∷ tickets ∷ serving ∷ []
  pub begun : 1 ≤ given
  pub few : (given ≤ o.passes) × (o.passes ≤ 8)
  -- a number that was not given has no entry
  pub others : (n : ℕ) → given ≤ n → part n added ≡ []
  -- the draws are the tickets, and the seats with a ticket are those that are not passed on yet
  pub drawn : total draws_of s.views ≡ tickets
  pub counted : total accounts_of s.views ≡ given
  -- one view keeps the next number
  pub kept_next : total next_of s.views ≡ given
  pub waiting : serving + total waits s.views ≡ tickets
  -- each view fits, and at most one seat holds the slot, which is home otherwise
  pub each : (seat : ℕ) (v : SeatView M) → get_elem? s.views seat ≡ some v
      → FitsView o.value.value (list o.value.value ++ added) added given maker tickets serving owner
      drawer seat v
  pub slot : ((total holds_slot s.views ≡ 0)
      × AtHome list same o.value.value (list o.value.value ++ added) s.homes)
      ⊎ (total holds_slot s.views ≡ 1)

-- a view, and the slots in hand
abbrev Standing : Type 0 → Type 0
Standing M = Me (Spot M) (SeatView M)

abbrev pub drawn_one : List Account → List Account
drawn_one [] = []
drawn_one (a ∷ others) = record a { draws = a.draws + 1 } ∷ others

-- the first account has seen xs, and gains these entries
abbrev pub gained : List Entry → List Entry → List Account → List Account
gained xs more [] = []
gained xs more (a ∷ others) = record a { seen = xs; own = a.own ++ more } ∷ others

abbrev pub saw : List Entry → List Account → List Account
saw xs [] = []
saw xs (a ∷ others) = record a { seen = xs } ∷ others

abbrev pub seen_first : List Account → List Entry
seen_first [] = []
seen_first (a ∷ others) = a.seen

abbrev pub known_in : Stage → List Entry
known_in Idle = []
known_in (Waits t) = []
known_in (Keeps t) = []
known_in (Holds t known) = known

abbrev pub ticket_in : Stage → ℕ
ticket_in Idle = 0
ticket_in (Waits t) = t
ticket_in (Keeps t) = t
ticket_in (Holds t known) = t

abbrev pub account : ℕ → List Entry → Account
account n xs = record { number = n; draws = 0; seen = xs; own = [] }

module _ {M : Type 0} where
  -- what a snapshot in hand keeps
  abbrev pub told : (M → List Entry) → List (ℕ × Spot M) → List Entry
  told list [] = []
  told list (x ∷ xs) = elim x.1 [ Told y ↦ list y.value | _ ↦ [] ]

  abbrev pub with_ticket : ℕ → SeatView M → SeatView M
  with_ticket t v = record v { stage = Waits t; accounts = drawn_one v.accounts }

  abbrev pub with_turn : List Entry → SeatView M → SeatView M
  with_turn xs v = record v { stage = Holds (ticket_in v.stage) xs }

  abbrev pub grown : List Entry → SeatView M → SeatView M
  grown xs v =
      record v {
        stage = Holds (ticket_in v.stage) xs;
        accounts = gained xs (drop (length (known_in v.stage)) xs) v.accounts;
      }

  abbrev pub idling : SeatView M → SeatView M
  idling v = record v { stage = Idle; accounts = saw (known_in v.stage) v.accounts }

  abbrev pub staying : SeatView M → SeatView M
  staying v =
      record v { stage = Keeps (ticket_in v.stage); accounts = saw (known_in v.stage) v.accounts }

  -- draw: the number found is the ticket
  abbrev pub drawn : Step (Spot M) → Standing M → ℕ → Standing M → Type 0
  drawn st m n m' = m' ≡ (with_ticket n m.0, m.1)

  -- the seat has the slot in hand with a value of the lock's root, whose list begins with what it
  -- had seen
  abbrev pub Takes : (M → List Entry) → (M → M → Type 0) → Standing M → Standing M → Type 0
  Takes list same m m' =
      (x : M) × (m' ≡ (with_turn (list x) m.0, (0, Home x) ∷ m.1))
      × ((r : M) → m.0.root ≡ Some r → same r x)
      × Each (λ (a : Account). IsPrefix a.seen (list x)) m.0.accounts

  -- look: where the ticket is served, the seat takes the slot
  abbrev pub looked : (M → List Entry) → (M → M → Type 0) → Step (Spot M) → Standing M → ℕ
      → Standing M → Type 0
  looked list same st m n m' =
      (n ≡ ticket_in m.0.stage → Takes list same m m') × (¬ (n ≡ ticket_in m.0.stage) → m' ≡ m)

  -- count: nothing moves
  abbrev pub counted : Step (Spot M) → Standing M → ℕ → Standing M → Type 0
  counted st m n m' = m' ≡ m

  -- append: the seat has seen the list that the snapshot in hand tells
  abbrev pub added : (M → List Entry) → Step (Spot M) → Standing M → ℕ → Standing M → Type 0
  added list st m n m' = m' ≡ (grown (told list m.1) m.0, m.1)

  -- the accounts have all entries of their numbers after the first front
  abbrev pub Tells : (M → List Entry) → Standing M → Type 0
  Tells list m = (r : M) → m.0.root ≡ Some r → IsPrefix (list r) (known_in m.0.stage)
      × Each
      (λ (a : Account). a.own ≡ part a.number (drop (length (list r)) (known_in m.0.stage)))
      m.0.accounts

  -- pass on: the slot goes home
  abbrev pub passed : (M → List Entry) → Step (Spot M) → Standing M → ℕ → Standing M → Type 0
  passed list st m n m' = (m' ≡ (idling m.0, [])) × Tells list m

  -- stay: the slot goes home, and the ticket stays served
  abbrev pub stayed : (M → List Entry) → Step (Spot M) → Standing M → ℕ → Standing M → Type 0
  stayed list st m n m' = (m' ≡ (staying m.0, [])) × Tells list m

  -- resume: the seat takes the slot again
  abbrev pub resumed : (M → List Entry) → (M → M → Type 0) → Step (Spot M) → Standing M → ℕ
      → Standing M → Type 0
  resumed list same st m n m' = Takes list same m m'

  -- let go: the ticket that stayed served is so no more
  abbrev pub released : Step (Spot M) → Standing M → ℕ → Standing M → Type 0
  released st m n m' = m' ≡ (record m.0 { stage = Idle }, m.1)

  -- split: the next number goes to a new seat
  abbrev pub split_left : SeatView M → SeatView M
  split_left v = record v { next = v.next + 1 }

  abbrev pub split_right : SeatView M → SeatView M
  split_right v =
      record {
        root = v.root;
        next = 0;
        stage = Idle;
        accounts = account v.next (seen_first v.accounts) ∷ [];
      }

  -- join: the accounts of both, and none is left at the other seat
  abbrev pub joined : SeatView M → SeatView M → SeatView M
  joined v w = record v { next = v.next + w.next; accounts = w.accounts ++ v.accounts }

  abbrev pub spent_view : SeatView M
  spent_view = record { root = None; next = 0; stage = Idle; accounts = [] }

  -- what the first seat knows
  abbrev pub first_view : (M → List Entry) → Origin M → SeatView M
  first_view list o =
      record {
        root = Some o.value.value;
        next = 1;
        stage = Idle;
        accounts = account 0 (list o.value.value) ∷ [];
      }

  -- the view of a pass with one account
  abbrev pub plain : M → Account → ℕ → Stage → SeatView M
  plain r a next st = record { root = Some r; next = next; stage = st; accounts = a ∷ [] }

  abbrev pub account_in : SeatView M → Account
  account_in v = elim v.accounts [ [] ↦ account 0 [] | a ∷ _ ↦ a ]

-- an account, but for the tickets that were drawn under it
abbrev pub undrawn : Account → Account
undrawn a = record a { draws = 0 }

-- some account has this number
abbrev pub Has : ℕ → List Account → Type 0
Has n [] = ⊥
Has n (a ∷ more) = (a.number ≡ n) ⊎ Has n more

-- what the value tells at the end of the passes with these accounts
pub record EndsPasses {M : Type 0} (list : M → List Entry) (same : M → M → Type 0) (root : M)
    (passes : ℕ)
    (accounts : List Account) (x : M) : Type 0 where
  pub root_is : same root x
  pub first : IsPrefix (list root) (list x)
  pub each : Each
      (λ (a : Account). IsPrefix a.seen (list x)
      × (a.own ≡ part a.number (drop (length (list root)) (list x))))
      accounts
  pub others : (n : ℕ) → passes ≤ n → part n (drop (length (list root)) (list x)) ≡ []
