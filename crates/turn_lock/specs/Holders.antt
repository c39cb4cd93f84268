-- What clauses see of a lock and of a pass.
use Rattle.std.specs.Prelude.{◌≡◌, ◌⊎◌, ℕ, zero, suc, Bool, true, false, List, [], ◌∷◌, length, drop, Option, Some, None}
use mathlib.Core.List.{IsPrefix}
use Rattle.atomic_table.specs.Seated.{TableId}
use Rattle.gt_base.specs.declared.requests.Entry.{Entry}
use Rattle.turn_lock.specs.declared.view.Account.{Account}
use Rattle.turn_lock.specs.declared.view.Stage.{Stage}
use Rattle.turn_lock.specs.declared.view.Stage.TheVariants.{Idle, Waits, Keeps, Holds}
use Rattle.turn_lock.specs.declared.view.Spot.{Spot}
use Rattle.turn_lock.specs.declared.view.Spot.TheVariants.{Away}
use Rattle.turn_lock.specs.Turns.{part, Each}

-- which lock a pass is of, and the value that it began with
pub record Site (M : Type 0) : Type 0 where
  pub table : TableId
  pub root : Option M

pub record Lock (M : Type 0) : Type 0 where
  pub table : TableId
  pub root : M
  pub passes : ℕ

abbrev pub site_of : {M : Type 0} → Lock M → Site M
site_of l = record { table = l.table; root = Some l.root }

-- draws counts its turns; one that it had kept took no ticket. turn is the list that the pass knows
-- while it holds the turn. stays tells whether it is to keep its turn when it gives the value back,
-- and keeps whether it has kept it since
pub record Holder (M : Type 0) : Type 0 where
  pub site : Site M
  pub number : ℕ
  pub draws : ℕ
  pub seen : List Entry
  pub own : List Entry
  pub turn : Option (List Entry)
  pub stays : Bool
  pub keeps : Bool

-- the pass at rest: it keeps no turn, and is to keep none
abbrev pub rested : {M : Type 0} → Holder M → Holder M
rested p = record p { stays = false; keeps = false }

abbrev pub turn_of : Stage → Option (List Entry)
turn_of Idle = None
turn_of (Waits t) = None
turn_of (Keeps t) = None
turn_of (Holds t known) = Some known

abbrev pub HandFits : {M : Type 0} → Stage → List (ℕ × Spot M) → Type 0
HandFits Idle hand = hand ≡ []
HandFits (Waits t) hand = ⊥
HandFits (Keeps t) hand = hand ≡ []
HandFits (Holds t known) hand = hand ≡ (0, Away) ∷ []

abbrev pub is_kept : Stage → Bool
is_kept Idle = false
is_kept (Waits t) = false
is_kept (Keeps t) = true
is_kept (Holds t known) = false

-- some pass has this number
abbrev pub HasNumber : {M : Type 0} → ℕ → List (Holder M) → Type 0
HasNumber n [] = ⊥
HasNumber n (p ∷ ps) = (p.number ≡ n) ⊎ HasNumber n ps

-- all are passes of this lock, and none holds the turn
abbrev pub AreIdle : {M : Type 0} → Site M → List (Holder M) → Type 0
AreIdle site ps = Each (λ p. (p.site ≡ site) × (p.turn ≡ None)) ps

-- The list of a closed lock's value has what the pass has seen as a prefix. Its own entries are
-- those of its number after the first front
abbrev pub IsToldBy : {M : Type 0} → List Entry → List Entry → Holder M → Type 0
IsToldBy first log p = IsPrefix p.seen log × (p.own ≡ part p.number (drop (length first) log))

module _ {M : Type 0} where
  -- a pass that has drawn nothing
  abbrev pub newcomer : Lock M → List Entry → ℕ → Holder M
  newcomer l first n =
      record {
        site = site_of l;
        number = n;
        draws = 0;
        seen = first;
        own = [];
        turn = None;
        stays = false;
        keeps = false;
      }

  -- the passes of the numbers from k on, n of them
  abbrev pub newcomers : Lock M → List Entry → ℕ → ℕ → List (Holder M)
  newcomers l first k zero = []
  newcomers l first k (suc n) = newcomer l first k ∷ newcomers l first (suc k) n

  -- what the rule keeps of a pass, but for its tickets
  abbrev pub account_of : Holder M → Account
  account_of p = record { number = p.number; draws = 0; seen = p.seen; own = p.own }
