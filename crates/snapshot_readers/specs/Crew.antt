-- What a viewer keeps from link to link.
use Rattle.std.specs.Prelude.{◌≡◌, ℕ, ◌<◌, List, [], ◌∷◌, ◌++◌, length, IfSome}
use Rattle.std.specs.declared.option.Option.{Option}
use mathlib.Core.List.{IsPrefix}
use Rattle.gt_base.specs.declared.requests.Entry.{Entry}
use Rattle.gt_base.specs.declared.limits.TheConstants.{MAX_LINKS}
use Rattle.gt_io.specs.Memory.{one_more}
use Rattle.gt_io.specs.Links.{Traffic, Tally, Doorway}
use Rattle.policy_words.specs.Naming.{NamedPolicy}
use Rattle.connection_laws.specs.Lines.{Acted, denied_in}
use Rattle.connection_laws.specs.Doors.{Gives, AddUp}
use Rattle.snapshot_readers.specs.declared.ends.Viewed.{Viewed}
use Rattle.snapshot_readers.specs.declared.ends.ViewerEnd.{ViewerEnd}
use Rattle.snapshot_readers.specs.declared.ends.ViewerEnd.TheVariants.{Fresh, Done, DoorFault, Enough, Memory}
use Rattle.snapshot_readers.specs.Viewed.{lens_of, AscendBetween, IsViewedLink}

-- what there is to tell of a served link: the link as the door gave it, its bytes and acted lines
pub record ViewTale (L : Type 0) : Type 0 where
  pub begun : L
  pub taken : List ℕ
  pub given : List ℕ
  pub acted : List Acted

abbrev pub views_begun : {L : Type 0} → List (ViewTale L) → List L
views_begun [] = []
views_begun (x ∷ xs) = x.begun ∷ views_begun xs

-- the numbers of the links, one link after the other
abbrev pub all_lens : {L : Type 0} → List (Viewed L) → List ℕ
all_lens [] = []
all_lens (s ∷ ss) = s.lens.items ++ all_lens ss

-- Each end has its cause. A door that gave none or has failed is asked no more, and that ends the
-- work
abbrev pub ViewsTo : {L : Type 0} → Option (List L) → Tally → Tally → List (Viewed L) → ViewerEnd
    → Type 0
ViewsTo {L} links t t' served Done =
    (length served < MAX_LINKS) × IfSome links (λ ls. ls ≡ [])
    × (t' ≡ record t { ends = one_more t.ends })
ViewsTo {L} links t t' served DoorFault =
    (length served < MAX_LINKS) × (t' ≡ record t { faults = one_more t.faults })
ViewsTo {L} links t t' served Enough = (length served ≡ MAX_LINKS) × (t' ≡ t)
ViewsTo {L} links t t' served Memory = (length served < MAX_LINKS) × (t' ≡ t)
ViewsTo {L} links t t' served Fresh = ⊥

-- a moment of a viewer: the history that its glass has seen, and its door
pub record ViewerSpot (L : Type 0) : Type 0 where
  pub seen : List Entry
  pub door : Doorway L

module _ {L : Type 0} (traffic : L → Traffic) (np : NamedPolicy) (birth : ℕ) where
  -- A link was served as this is told, over a history, and its numbers and its count of denied
  -- lines are those of its acted lines
  pub record IsViewed (h : List Entry) (s : Viewed L) (x : ViewTale L) : Type 0 where
    pub link : IsViewedLink np birth h (traffic x.begun) (traffic s.link) x.taken x.given x.acted
        s.outcome
    pub lens : s.lens.items ≡ lens_of x.acted
    pub denied : s.denied ≡ denied_in x.acted

  abbrev pub AreViewed : List Entry → List (Viewed L) → List (ViewTale L) → Type 0
  AreViewed h [] [] = Unit {0}
  AreViewed h (s ∷ ss) (x ∷ xs) = IsViewed h s x × AreViewed h ss xs
  AreViewed h _ _ = ⊥

  -- the links so far
  pub record ViewedSoFar (o p : ViewerSpot L) (served : List (Viewed L)) (tales : List (ViewTale L))
      : Type 0 where
    pub links : AreViewed p.seen served tales
    pub grows : IsPrefix o.seen p.seen
    pub ascends : AscendBetween (length o.seen) (all_lens served) (length p.seen)
    pub door : Gives o.door.links p.door.links (views_begun tales)

  -- all the work of a viewer
  pub record ViewsThrough (o p : ViewerSpot L) (served : List (Viewed L)) (end : ViewerEnd)
      : Type 0 where
    pub tales : List (ViewTale L)
    pub worked : ViewedSoFar o p served tales
    pub counted : AddUp o.door.links p.door.links served
    pub cause : ViewsTo p.door.links o.door.tally p.door.tally served end
