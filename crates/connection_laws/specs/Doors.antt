-- What a door gave, and what failed at a link.
use Rattle.std.specs.Prelude.{◌≡◌, ℕ, ◌+◌, ⊤, List, ◌++◌, length, Some, None}
use Rattle.std.specs.declared.option.Option.{Option}
use Rattle.gt_io.specs.Links.{Traffic}

-- the door gave these links first, where it tells
abbrev pub Gives : {L : Type 0} → Option (List L) → Option (List L) → List L → Type 0
Gives {L} None new xs = ⊤
Gives {L} (Some ls) new xs = (rest : List L) × (ls ≡ xs ++ rest) × (new ≡ Some rest)

-- served and remaining links add up to those that the door had
abbrev pub AddUp : {L S : Type 0} → Option (List L) → Option (List L) → List S → Type 0
AddUp (Some had) (Some left) served = length served + length left ≡ length had
AddUp (Some had) None served = ⊤
AddUp None left served = ⊤

-- how many reads and how many writes of a link failed, and how many reads told the end
pub record HaveFailed (a b : Traffic) (reads writes ends : ℕ → ℕ) : Type 0 where
  pub reads_are : b.read_faults ≡ reads a.read_faults
  pub writes_are : b.write_faults ≡ writes a.write_faults
  pub ends_are : b.ends ≡ ends a.ends

abbrev pub none_more : ℕ → ℕ
none_more n = n
