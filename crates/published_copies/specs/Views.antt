-- What the writer and the readers know of the published entries.
use Rattle.std.specs.Prelude.{◌≡◌, ℕ, List, [], Some, None}
use mathlib.Core.Option.{some}
use mathlib.Core.List.{IsPrefix}
use lib.ListN.{get_elem?}
use Rattle.gt_base.specs.declared.requests.Entry.{Entry}
use Rattle.published_copies.specs.declared.views.ReaderView.{ReaderView}

module _ {R : Type 0} where
  -- before anything was told or seen
  abbrev pub blank : ReaderView R
  blank = record { root = None; seen = [] }

  -- the root and the published entries
  abbrev pub sight : R → List Entry → ReaderView R
  sight root list = record { root = Some root; seen = list }

  -- a root that was told is the root, and what was seen begins the published entries
  pub record Fits (root : R) (list : List Entry) (v : ReaderView R) : Type 0 where
    pub root_is : (r : R) → v.root ≡ Some r → r ≡ root
    pub seen : IsPrefix v.seen list

  -- so of each view
  abbrev pub AllFit : R → List Entry → List (ReaderView R) → Type 0
  AllFit root list views =
      (seat : ℕ) (v : ReaderView R) → get_elem? views seat ≡ some v → Fits root list v

  -- and the published state is sound
  abbrev pub Shows : Type 0 → R → List Entry → List (ReaderView R) → Type 0
  Shows Sound root list views = Sound × AllFit root list views

  -- where the view v fits before, the view w is of the root and the entries after, which are sound
  abbrev pub Sighted : Type 0 → R → List Entry → R → List Entry → ReaderView R → ReaderView R
      → Type 0
  Sighted Sound root list root' list' v w =
      Fits root list v × (w ≡ sight root' list') × Sound

-- what a look has: what the reader then knows, and the replica
pub record Looked (T R : Type 0) : Type 0 where
  pub view : ReaderView R
  pub replica : T
