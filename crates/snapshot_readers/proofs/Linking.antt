-- A link behind those that were served.
use Rattle.std.proofs.Common.{◌≡◌, ℕ, ◌≤◌, List, [], ◌∷◌, ◌++◌, length, refl, sym, ap, subst, ◌∙◌, arith, append-nil, append_assoc, true}
use mathlib.Core.List.{IsPrefix}
use Rattle.gt_base.specs.declared.requests.Entry.{Entry}
use Rattle.gt_io.specs.Links.{Traffic, Doorway, IsFresh, GivesFirst}
use Rattle.policy_words.specs.Naming.{NamedPolicy}
use Rattle.connection_laws.proofs.Prefixes.{prefix_self, prefix_trans}
use Rattle.snapshot_readers.specs.declared.ends.Viewed.{Viewed}
use Rattle.snapshot_readers.specs.declared.ends.ViewerEnd.{ViewerEnd}
use Rattle.connection_laws.proofs.Linking.{link_so}
use Rattle.snapshot_readers.specs.Viewed.{link_end, AscendBetween, AsksView}
use Rattle.snapshot_readers.specs.Viewing.{Views}
use Rattle.snapshot_readers.specs.Crew.{ViewTale, views_begun, all_lens, ViewerSpot, ViewsTo, IsViewed, AreViewed, ViewedSoFar, ViewsThrough}
use Rattle.connection_laws.specs.Doors.{Gives, AddUp}
use Rattle.connection_laws.proofs.Giving.{gives_none, gives_more, add_up}
use Rattle.snapshot_readers.proofs.Ascending.{ascend_on}
use Rattle.snapshot_readers.proofs.GuideSteps.{sees_longer}

module _ {L : Type 0} where
  begun_push : (xs : List (ViewTale L)) (x : ViewTale L) → views_begun (xs ++ x ∷ []) ≡ views_begun xs ++ x.begun ∷ []
  begun_push [] x = refl
  begun_push (y ∷ ys) x = ap (λ (ls : List L). y.begun ∷ ls) (begun_push ys x)

  lens_push : (ss : List (Viewed L)) (s : Viewed L) → all_lens (ss ++ s ∷ []) ≡ all_lens ss ++ s.lens.items
  lens_push [] s = append-nil s.lens.items
  lens_push (t ∷ ts) s = ap (λ (ns : List ℕ). t.lens.items ++ ns) (lens_push ts s) ∙ sym (append_assoc t.lens.items (all_lens ts) s.lens.items)

  module _ (traffic : L → Traffic) (np : NamedPolicy) (birth : ℕ) where
    pub viewed_longer : (h h' : List Entry) (ss : List (Viewed L)) (xs : List (ViewTale L)) → IsPrefix h h' → AreViewed traffic np birth h ss xs → AreViewed traffic np birth h' ss xs
    viewed_longer h h' [] [] more all = tt
    viewed_longer h h' [] (x ∷ xs) more all = absurd all
    viewed_longer h h' (s ∷ ss) [] more all = absurd all
    viewed_longer h h' (s ∷ ss) (x ∷ xs) more all =
        let i = all.0 in (
          record {
            link =
                record {
                  fresh = i.link.fresh;
                  conn = link_so (AsksView np birth h) (AsksView np birth h') (sees_longer np birth h h' more) np 0 x.taken [] [] x.given x.acted (link_end s.outcome) i.link.conn;
                  carries = i.link.carries;
                  cause = i.link.cause;
                  finished = i.link.finished;
                  complete = i.link.complete;
                };
            lens = i.lens;
            denied = i.denied;
          },
          viewed_longer h h' ss xs more all.1,
        )

    viewed_push : (h : List Entry) (ss : List (Viewed L)) (xs : List (ViewTale L)) (s : Viewed L) (x : ViewTale L) → AreViewed traffic np birth h ss xs → IsViewed traffic np birth h s x → AreViewed traffic np birth h (ss ++ s ∷ []) (xs ++ x ∷ [])
    viewed_push h [] [] s x all one = (one, tt)
    viewed_push h [] (y ∷ ys) s x all one = absurd all
    viewed_push h (t ∷ ts) [] s x all one = absurd all
    viewed_push h (t ∷ ts) (y ∷ ys) s x all one = (all.0, viewed_push h ts ys s x all.1 one)

    -- one more link was served
    pub link_done : (o p p' : ViewerSpot L) (served : List (Viewed L)) (tales : List (ViewTale L)) (s : Viewed L) (begun : L) (calls calls' : ℕ) → ViewedSoFar traffic np birth o p served tales
        → Views np birth p.seen p'.seen s.lens.items s.denied calls calls' (traffic begun) (traffic s.link) s.outcome → GivesFirst p.door.links p'.door.links begun → IsFresh (traffic begun)
        → (tales' : List (ViewTale L)) × ViewedSoFar traffic np birth o p' (served ++ s ∷ []) tales'
    link_done o p p' served tales s begun calls calls' w v door fresh =
        let x : ViewTale L = record { begun = begun; taken = v.taken; given = v.given; acted = v.acted } in
        let one : IsViewed traffic np birth p'.seen s x =
        record {
          link = record { fresh = fresh; conn = v.view; carries = v.carries; cause = v.cause; finished = v.finished; complete = v.complete };
          lens = v.lens_are;
          denied = v.denied_are;
        } in (
          tales ++ x ∷ [],
          record {
            links = viewed_push p'.seen served tales s x (viewed_longer p.seen p'.seen served tales v.grows w.links) one;
            grows = prefix_trans o.seen p.seen p'.seen w.grows v.grows;
            ascends = subst (λ (ns : List ℕ). AscendBetween (length o.seen) ns (length p'.seen)) (sym (lens_push served s)) (ascend_on (length o.seen) (all_lens served) s.lens.items (length p.seen) (length p'.seen) w.ascends v.ascends);
            door = subst (λ (ls : List L). Gives o.door.links p'.door.links ls) (sym (begun_push tales x)) (gives_more o.door.links p.door.links p'.door.links (views_begun tales) begun w.door door);
          },
        )

    pub no_links : (o : ViewerSpot L) (served : List (Viewed L)) → served ≡ [] → ViewedSoFar traffic np birth o o served []
    no_links o served is =
        let low : length o.seen ≤ length o.seen = omega arith in
        subst (λ (ss : List (Viewed L)). ViewedSoFar traffic np birth o o ss []) (sym is) (record { links = tt; grows = prefix_self o.seen; ascends = low; door = gives_none o.door.links })

    lengths_agree : (h : List Entry) (ss : List (Viewed L)) (xs : List (ViewTale L)) → AreViewed traffic np birth h ss xs → length (views_begun xs) ≡ length ss
    lengths_agree h [] [] all = refl
    lengths_agree h [] (x ∷ xs) all = absurd all
    lengths_agree h (s ∷ ss) [] all = absurd all
    lengths_agree h (s ∷ ss) (x ∷ xs) all = let rest = lengths_agree h ss xs all.1 in omega (arith, rest)

    pub counted_by : (o p : ViewerSpot L) (served : List (Viewed L)) (tales : List (ViewTale L)) → ViewedSoFar traffic np birth o p served tales → AddUp o.door.links p.door.links served
    counted_by o p served tales w = add_up o.door.links p.door.links served (views_begun tales) (lengths_agree p.seen served tales w.links) w.door

    -- the work at its end, where the door has no other links to come than before
    pub works_ended : (o p : ViewerSpot L) (d : Doorway L) (items served : List (Viewed L)) (tales : List (ViewTale L)) (end : ViewerEnd) → served ≡ items → ViewedSoFar traffic np birth o p items tales → d.links ≡ p.door.links
        → ViewsTo d.links o.door.tally d.tally served end → ViewsThrough traffic np birth o (record p { door = d }) served end
    works_ended o p d items served tales end kept w links cause =
        let p' : ViewerSpot L = record p { door = d } in
        let w' : ViewedSoFar traffic np birth o p' served tales =
        subst (λ (ss : List (Viewed L)). ViewedSoFar traffic np birth o p' ss tales) (sym kept)
        (record { links = w.links; grows = w.grows; ascends = w.ascends; door = subst (λ ls. Gives o.door.links ls (views_begun tales)) (sym links) w.door }) in
        record { tales = tales; worked = w'; counted = counted_by o p' served tales w'; cause = cause }

    -- the links stand while the door rests
    pub at_rest : (o p : ViewerSpot L) (d : Doorway L) (served : List (Viewed L)) (tales : List (ViewTale L)) → p.door ≡ d → ViewedSoFar traffic np birth o (record p { door = d }) served tales → ViewedSoFar traffic np birth o p served tales
    at_rest o p d served tales is w = subst (λ (e : Doorway L). ViewedSoFar traffic np birth o (record p { door = e }) served tales) (sym is) w

    -- and the work as it is closed
    pub works_closed : (o p : ViewerSpot L) (d : Doorway L) (served : List (Viewed L)) (end : ViewerEnd) → d ≡ record p.door { closed = true } → ViewsThrough traffic np birth o p served end → ViewsThrough traffic np birth o (record p { door = d }) served end
    works_closed o p d served end is w =
        subst (λ (e : Doorway L). ViewsThrough traffic np birth o (record p { door = e }) served end) (sym is)
        (record { tales = w.tales; worked = record { links = w.worked.links; grows = w.worked.grows; ascends = w.worked.ascends; door = w.worked.door }; counted = w.counted; cause = w.cause })
