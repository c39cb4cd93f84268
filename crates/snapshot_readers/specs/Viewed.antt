-- What a viewer's link is told: its acted lines, each with the history that its reply is of.
use Rattle.std.specs.Prelude.{◌≡◌, ℕ, ◌≤◌, true, false, List, [], ◌∷◌, ◌++◌, length, take, MatchBool}
use Rattle.gt_base.specs.declared.requests.Actor.{Actor}
use Rattle.gt_base.specs.declared.requests.Request.{Request}
use Rattle.gt_base.specs.declared.requests.Entry.{Entry}
use Rattle.gt_io.specs.Links.{Traffic}
use Rattle.policy_words.specs.Naming.{NamedPolicy}
use Rattle.history_laws.specs.Looks.{is_look}
use Rattle.connection_laws.specs.declared.ends.LinkEnd.{LinkEnd}
use Rattle.connection_laws.specs.declared.ends.LinkEnd.TheVariants as Link
use Rattle.connection_laws.specs.Lines.{Answer, shown, no_memory, view_only, Acted, LinkBy}
use Rattle.connection_laws.specs.Attending.{IsServedBy}
use Rattle.connection_laws.specs.Desks.{IsReplyAt}
use Rattle.snapshot_readers.specs.declared.ends.ViewEnd.{ViewEnd}
use Rattle.snapshot_readers.specs.declared.ends.ViewEnd.TheVariants.{Ended, ReadFault, WriteFault, Spent}

-- a viewer's link ends as a worker's does, but that it has no pass to be worn
abbrev pub link_end : ViewEnd → LinkEnd
link_end Ended = Link.Ended
link_end ReadFault = Link.ReadFault
link_end WriteFault = Link.WriteFault
link_end Spent = Link.Spent

-- the numbers of entries that the replies are of
abbrev pub lens_in : Answer → List ℕ
lens_in (shown n reply) = n ∷ []
lens_in _ = []

abbrev pub lens_of : List Acted → List ℕ
lens_of [] = []
lens_of (a ∷ before) = lens_of before ++ lens_in a.answer

-- the numbers never fall, from the first bound to the last
abbrev pub AscendBetween : ℕ → List ℕ → ℕ → Type 0
AscendBetween low [] high = low ≤ high
AscendBetween low (n ∷ ns) high = (low ≤ n) × AscendBetween n ns high

module _ (np : NamedPolicy) (birth : ℕ) (h : List Entry) where
  -- a request that only looks is answered as at a beginning of the history, or there was no memory
  abbrev pub Looks : Actor → Request → Answer → Type 0
  Looks actor request (shown n reply) =
      (n ≤ length h) × IsReplyAt np.policy birth (take n h) actor request reply
  Looks actor request no_memory = Unit {0}
  Looks actor request _ = ⊥

  -- what a request gets: a look, or that there is but a view here. It takes no reading of a clock
  -- and adds no entry
  abbrev pub AsksView : Actor → Request → Answer → ℕ → List ℕ → List Entry → Type 0
  AsksView actor request answer n readings entries =
      MatchBool (is_look request) (Looks actor request answer) (answer ≡ view_only)
      × (readings ≡ []) × (entries ≡ [])

-- one link over a history
abbrev pub View : NamedPolicy → ℕ → List Entry → List ℕ → List ℕ → List Acted → ViewEnd → Type 0
View np birth h taken given acted end =
    LinkBy (AsksView np birth h) np 0 taken [] [] given acted (link_end end)

-- a request that only looks is shown a reply, or there was no memory; any other is refused
abbrev pub IsViewAnswered : Request → Answer → Type 0
IsViewAnswered request (shown n reply) = is_look request ≡ true
IsViewAnswered request no_memory = is_look request ≡ true
IsViewAnswered request view_only = is_look request ≡ false
IsViewAnswered request _ = ⊥

-- a viewer's link from its begin to its end, over a history
abbrev pub IsViewedLink : NamedPolicy → ℕ → List Entry → Traffic → Traffic → List ℕ → List ℕ
    → List Acted → ViewEnd → Type 0
IsViewedLink np birth h a b taken given acted end =
    IsServedBy (AsksView np birth h) IsViewAnswered (λ n. ⊥) np 0 a b taken [] [] given acted
    (link_end end)
