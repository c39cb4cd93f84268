-- What one request makes of a viewer that answers it.
use Rattle.std.specs.Prelude.{◌≡◌, ℕ, List, ◌++◌, length}
use mathlib.Core.List.{IsPrefix}
use Rattle.gt_base.specs.declared.requests.Actor.{Actor}
use Rattle.gt_base.specs.declared.requests.Request.{Request}
use Rattle.gt_base.specs.declared.requests.Entry.{Entry}
use Rattle.policy_words.specs.Naming.{NamedPolicy}
use Rattle.connection_laws.specs.Lines.{Answer}
use Rattle.snapshot_readers.specs.declared.guide.Guide.{Guide}
use Rattle.snapshot_readers.specs.Viewed.{lens_in, AscendBetween, AsksView}
use Rattle.snapshot_readers.specs.Viewing.{SameGlassRoot}

-- a viewer as it answers: the history that its glass has seen, and the numbers of entries that its
-- replies are of
pub record GuideView : Type 0 where
  pub seen : List Entry
  pub lens : List ℕ

abbrev pub guide_view : List Entry → List ℕ → GuideView
guide_view seen lens = record { seen = seen; lens = lens }

module _ (np : NamedPolicy) (birth : ℕ) where
  -- the request got what a viewer's request gets over the history that the glass has then seen,
  -- which has grown, and the number was recorded
  pub record GuideAsks (a b : GuideView) (actor : Actor) (request : Request) (answer : Answer)
      (readings : List ℕ) (entries : List Entry) : Type 0 where
    pub sees : (n : ℕ) → AsksView np birth b.seen actor request answer n readings entries
    pub grows : IsPrefix a.seen b.seen
    pub lens : b.lens ≡ a.lens ++ lens_in answer
    pub ascends : AscendBetween (length a.seen) (lens_in answer) (length b.seen)

module _ {G : Type 0} where
  abbrev pub seen_guide : Guide G → GuideView
  seen_guide k = guide_view k.glass.now.seen k.lens.now.items

  -- what it was lent is the same
  abbrev pub KeepsGlass : Guide G → Guide G → Type 0
  KeepsGlass j k =
      (k.policy ≡ j.policy) × (k.glass.ghost_name ≡ j.glass.ghost_name)
      × (k.lens.ghost_name ≡ j.lens.ghost_name)

  -- so it is behind a request, which got what it gets at the glass
  pub record GuideGets (j k : Guide G) (actor : Actor) (request : Request) (answer : Answer)
      (readings : List ℕ) (entries : List Entry) : Type 0 where
    pub keeps : KeepsGlass j k
    pub same : SameGlassRoot j.glass.now k.glass.now
    pub asks : GuideAsks j.policy.now j.glass.now.birth (seen_guide j) (seen_guide k) actor
        request answer readings entries
