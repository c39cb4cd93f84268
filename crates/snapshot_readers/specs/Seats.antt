-- Viewers at their seats, and what they are told.
use Rattle.std.specs.Prelude.{◌≡◌, ◌<◌, ◌≤◌, ℕ, true, false, ⊤, List, [], ◌∷◌, map, length, take, Ok, slice_index_or}
use mathlib.Core.List.{IsPrefix}
use Rattle.gt_base.specs.declared.requests.Actor.{Actor}
use Rattle.gt_base.specs.declared.requests.Actor.TheVariants.{Nobody}
use Rattle.gt_base.specs.declared.requests.Entry.{Entry}
use Rattle.gt_base.specs.declared.requests.Request.{Request}
use Rattle.gt_io.specs.Links.{Traffic, Doorway}
use Rattle.policy_words.specs.Naming.{NamedPolicy}
use Rattle.request_text.specs.declared.lines.Line.TheVariants.{Ask}
use Rattle.request_text.specs.Phrases.{read_line}
use Rattle.connection_laws.specs.Desks.{IsReplyAt}
use Rattle.snapshot_readers.specs.Glazed.{Glazed}
use Rattle.snapshot_readers.specs.Glances.{IsHistory}
use Rattle.snapshot_readers.specs.declared.ends.Viewed.{Viewed}
use Rattle.snapshot_readers.specs.declared.ends.ViewerEnd.{ViewerEnd}
use Rattle.snapshot_readers.specs.declared.ends.ViewerEnd.TheVariants.{Fresh}
use Rattle.snapshot_readers.specs.declared.viewers.Viewer.{Viewer}
use Rattle.snapshot_readers.specs.Crew.{ViewTale, ViewsThrough, AreViewed, ViewsTo, views_begun, all_lens}
use Rattle.connection_laws.specs.Doors.{Gives}
use Rattle.connection_laws.specs.Lines.{Answer, shown, Acted, actor_after}
use Rattle.snapshot_readers.specs.Viewed.{AscendBetween}
use Rattle.snapshot_readers.specs.Viewing.{CanShow, SameGlassRoot}
use Rattle.snapshot_readers.specs.declared.seats.ViewerSeat.{ViewerSeat}

-- a viewer as it is seen: its door, its served links, and how it ended
pub record Watcher (L : Type 0) : Type 0 where
  pub door : Doorway L
  pub served : List (Viewed L)
  pub outcome : ViewerEnd

module _ {D G L : Type 0} (doorway : D → Doorway L) where
  abbrev pub watcher : Viewer D G L → Watcher L
  watcher v = record { door = doorway v.door; served = v.served.items; outcome = v.outcome }

  abbrev pub watchers : List (Viewer D G L) → List (Watcher L)
  watchers vs = map watcher vs

  -- what a viewer at its seat did, with the history that its glass has seen before and after; its
  -- door was closed
  pub record HasLooked (traffic : L → Traffic) (np : NamedPolicy) (x y : ViewerSeat D G L)
      : Type 0 where
    pub same : SameGlassRoot x.glass y.glass
    pub works : ViewsThrough traffic np x.glass.birth
        (record { seen = x.glass.seen; door = doorway x.viewer.door })
        (record { seen = y.glass.seen; door = doorway y.viewer.door }) y.viewer.served.items
        y.viewer.outcome
    pub closed : (doorway y.viewer.door).closed ≡ true

-- there are as many as before, and this holds of each, from before to after
abbrev pub SeatBySeat : {A : Type 0} → (A → A → Type 0) → List A → List A → Type 0
SeatBySeat {A} Holds xs ys =
    (length ys ≡ length xs)
    × ((i : ℕ) (d : A) → i < length xs → Holds (slice_index_or xs i d) (slice_index_or ys i d))

-- it has not begun, and has served nothing
abbrev pub IsNewViewer : {D G L : Type 0} → Viewer D G L → Type 0
IsNewViewer v = (v.outcome ≡ Fresh) × (v.served.items ≡ [])

-- the viewer has not begun, and its glass can show
pub record IsReadySeat {D G L : Type 0} (np : NamedPolicy) (s : ViewerSeat D G L) : Type 0 where
  pub shows : CanShow np s.glass
  pub number : s.number ≤ 7
  pub fresh : IsNewViewer s.viewer

module _ {D G L : Type 0} where
  abbrev pub glasses_of : List (ViewerSeat D G L) → List Glazed
  glasses_of seats = map (λ (s : ViewerSeat D G L). s.glass) seats

  abbrev pub viewers_of : List (ViewerSeat D G L) → List (Viewer D G L)
  viewers_of seats = map (λ (s : ViewerSeat D G L). s.viewer) seats

-- a glass looked whether this history begins what was published last
pub record HasSettled {D G L : Type 0} (h : List Entry) (x y : ViewerSeat D G L) : Type 0 where
  pub viewer : y.viewer ≡ x.viewer
  pub same : SameGlassRoot x.glass y.glass
  pub grows : IsPrefix x.glass.seen y.glass.seen
  pub told : y.told ≡ true → IsPrefix h y.glass.seen
      × IsHistory y.glass.named.policy y.glass.birth y.glass.seen

module _ (np : NamedPolicy) (birth : ℕ) (h : List Entry) where
  -- a reply of a number that is not above the length of the history is the reply at that many
  -- entries
  abbrev pub IsOf : Actor → Request → Answer → Type 0
  IsOf actor request (shown n reply) =
      n ≤ length h → IsReplyAt np.policy birth (take n h) actor request reply
  IsOf actor request _ = ⊤

  -- so for what each line asks
  abbrev pub AreOf : List Acted → Type 0
  AreOf [] = ⊤
  AreOf (a ∷ before) =
      AreOf before
      × ((request : Request) → read_line np Nobody false a.line ≡ Ok (Ask request)
      → IsOf (actor_after np before) request a.answer)

  abbrev pub AllAreOf : {L : Type 0} → List (ViewTale L) → Type 0
  AllAreOf [] = ⊤
  AllAreOf (x ∷ xs) = AreOf x.acted × AllAreOf xs

module _ {L : Type 0} (traffic : L → Traffic) (np : NamedPolicy) (birth : ℕ) where
  -- What a viewer did, over one list: each of its links was shown replies of beginnings of the
  -- list, whose numbers never fall from link to link
  pub record HasViewed (a b : Watcher L) (seen : List Entry) : Type 0 where
    pub tales : List (ViewTale L)
    pub links : AreViewed traffic np birth seen b.served tales
    pub ascends : AscendBetween 0 (all_lens b.served) (length seen)
    pub door : Gives a.door.links b.door.links (views_begun tales)
    pub cause : ViewsTo b.door.links a.door.tally b.door.tally b.served b.outcome
    pub closed : b.door.closed ≡ true

  -- The list has the history as its beginning and is legal itself; so the replies of numbers that
  -- are not above the length of the history are those of its beginnings
  pub record IsToldOf (h : List Entry) (a b : Watcher L) : Type 0 where
    pub seen : List Entry
    pub viewed : HasViewed a b seen
    pub front : IsPrefix h seen
    pub history : IsHistory np.policy birth seen
    pub of : AllAreOf np birth h viewed.tales

  abbrev pub AreToldOf : List Entry → List (Watcher L) → List (Watcher L) → Type 0
  AreToldOf h [] [] = ⊤
  AreToldOf h (a ∷ as') (b ∷ bs) = IsToldOf h a b × AreToldOf h as' bs
  AreToldOf h _ _ = ⊥

  -- without the history
  abbrev pub HaveViewed : List (Watcher L) → List (Watcher L) → Type 0
  HaveViewed [] [] = ⊤
  HaveViewed (a ∷ as') (b ∷ bs) = ((seen : List Entry) × HasViewed a b seen) × HaveViewed as' bs
  HaveViewed _ _ = ⊥
