-- What links, doors and clocks tell of what is to come, what they took and what they gave.
use Rattle.std.specs.Prelude.{◌≡◌, ℕ, ◌+◌, Bool, false, ⊤, List, [], ◌∷◌, Some, None, Ok, Err, IfSome}
use Rattle.std.specs.declared.option.Option.{Option}
use Rattle.std.specs.declared.result.Result.{Result}
use Rattle.gt_io.specs.Memory.{one_more}
use Rattle.gt_io.specs.declared.source.Failed.{Failed}

-- the bytes that a link has left, and those that were taken from it and given to it, where it
-- tells; how often a read and a write failed, and how often a read told the end; and whether it
-- was let go
pub record Traffic : Type 0 where
  pub left : Option (List ℕ)
  pub taken : Option (List ℕ)
  pub given : Option (List ℕ)
  pub read_faults : ℕ
  pub write_faults : ℕ
  pub ends : ℕ
  pub finished : Bool

-- how often a door failed, and how often it gave none
pub record Tally : Type 0 where
  pub faults : ℕ
  pub ends : ℕ

-- the links that a door has to come, where it tells; its counts; and whether it was closed
pub record Doorway (L : Type 0) : Type 0 where
  pub links : Option (List L)
  pub tally : Tally
  pub closed : Bool

-- what asking a door adds to its counts, each up to the end of its type
abbrev pub tallied : {L : Type 0} → Result (Option L) Failed → Tally → Tally
tallied (Ok (Some link)) t = t
tallied (Ok None) t = record t { ends = one_more t.ends }
tallied (Err fault) t = record t { faults = one_more t.faults }

-- nothing was read, and nothing was written
pub record ReadsNothing (a b : Traffic) : Type 0 where
  pub left_kept : b.left ≡ a.left
  pub taken_kept : b.taken ≡ a.taken
  pub read_faults_are : b.read_faults ≡ a.read_faults
  pub ends_are : b.ends ≡ a.ends

pub record WritesNothing (a b : Traffic) : Type 0 where
  pub given_kept : b.given ≡ a.given
  pub write_faults_are : b.write_faults ≡ a.write_faults

-- nothing yet, where it is told
abbrev pub IsNothing : Option (List ℕ) → Type 0
IsNothing told = IfSome told (λ xs. xs ≡ [])

-- nothing was taken from a link, nothing was given to it, and it was not let go
abbrev pub IsFresh : Traffic → Type 0
IsFresh t = IsNothing t.taken × IsNothing t.given × (t.finished ≡ false)

-- the first of those to come is given, where they are told
abbrev pub GivesFirst : {A : Type 0} → Option (List A) → Option (List A) → A → Type 0
GivesFirst {A} old new x = IfSome old (λ xs. (rest : List A) × (xs ≡ x ∷ rest) × (new ≡ Some rest))

-- none is to come, where they are told, and none was taken
abbrev pub GivesNone : {A : Type 0} → Option (List A) → Option (List A) → Type 0
GivesNone old new = IfSome old (λ xs. xs ≡ []) × (new ≡ old)

-- the readings f begin with these, and go on as g
abbrev pub BeginsWith : (ℕ → ℕ) → List ℕ → (ℕ → ℕ) → Type 0
BeginsWith f [] g = (k : ℕ) → g k ≡ f k
BeginsWith f (r ∷ rs) g = (f 0 ≡ r) × BeginsWith (λ k. f (k + 1)) rs g

-- these were read, where readings are told
abbrev pub Reads : Option (ℕ → ℕ) → Option (ℕ → ℕ) → List ℕ → Type 0
Reads None new rs = ⊤
Reads (Some f) None rs = ⊥
Reads (Some f) (Some g) rs = BeginsWith f rs g
