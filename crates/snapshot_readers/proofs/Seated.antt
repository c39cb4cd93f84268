-- From the seats of viewers, in their reversed order, to what the viewers have served.
use Rattle.std.proofs.Common.{◌≡◌, ℕ, zero, suc, ◌+◌, ◌<◌, Bool, true, false, List, [], ◌∷◌, ◌++◌, reverse, length, get_or, refl, sym, ap, subst, ◌∙◌, arith, Result}
use Rattle.std.specs.Prelude.{All, MatchBool, replicate}
use Rattle.std.specs.List.{list_all}
use mathlib.Core.List.{IsPrefix, reverse-cons, map-append}
use Rattle.gt_base.specs.declared.requests.Actor.{Actor}
use Rattle.gt_base.specs.declared.requests.Request.{Request}
use Rattle.gt_base.specs.declared.requests.Entry.{Entry}
use Rattle.gt_io.specs.Links.{Traffic, Doorway}
use Rattle.gtrbac_model.proofs.Elements.{both_true}
use Rattle.turn_lock.specs.Turns.{Each}
use Rattle.turn_lock.proofs.PassLists.{each_reverse, each_unreverse}
use Rattle.policy_words.specs.Naming.{NamedPolicy}
use Rattle.request_text.specs.declared.lines.Line.{Line}
use Rattle.request_text.specs.declared.lines.LineFault.{LineFault}
use Rattle.history_laws.specs.Looks.{is_look}
use Rattle.connection_laws.specs.Desks.{IsReplyAt}
use Rattle.snapshot_readers.specs.Glazed.{Glazed, fresh_glass}
use Rattle.snapshot_readers.specs.declared.viewers.Viewer.{Viewer}
use Rattle.snapshot_readers.specs.declared.ends.Viewed.{Viewed}
use Rattle.snapshot_readers.specs.Crew.{ViewTale, ViewsThrough, AreViewed, all_lens}
use Rattle.connection_laws.specs.Lines.{Answer, view_only, Acted, actor_after, entries_of, GetsBy, AreActedBy}
use Rattle.snapshot_readers.specs.Viewed.{Looks, AsksView, AscendBetween}
use Rattle.snapshot_readers.proofs.Ascending.{ascend_to}
use Rattle.snapshot_readers.proofs.Longer.{take_longer, longer}
use Rattle.snapshot_readers.proofs.Looking.{look_by}
use Rattle.snapshot_readers.proofs.Linking.{viewed_longer}
use Rattle.snapshot_readers.specs.declared.seats.ViewerSeat.{ViewerSeat}
use Rattle.snapshot_readers.specs.Seats.{Watcher, watcher, watchers, HasLooked, IsNewViewer, glasses_of, viewers_of, HasSettled, IsOf, AreOf, AllAreOf, HasViewed, IsToldOf, AreToldOf, HaveViewed}
use Rattle.snapshot_readers.specs.Glances.{IsHistory}

all_each : {A : Type 0} (P : A → Type 0) (xs : List A) → All P xs → Each P xs
all_each P [] h = tt
all_each P (x ∷ xs) h = (h 0 x (omega arith), all_each P xs (λ k d low. h (suc k) d (omega (arith, low))))

each_copy : {A : Type 0} (P : A → Type 0) (n : ℕ) (x : A) → P x → Each P (replicate n x)
each_copy P zero x p = tt
each_copy P (suc n) x p = (p, each_copy P n x p)

pub length_copies : {A : Type 0} (n : ℕ) (x : A) → length (replicate n x) ≡ n
length_copies zero x = refl
length_copies (suc n) x = ap suc (length_copies n x)

-- what is shown of a longer list is, up to the length of its beginning, of that
module _ (np : NamedPolicy) (birth : ℕ) (h seen : List Entry) (more : IsPrefix h seen) where
  of_looks : (actor : Actor) (request : Request) (answer : Answer) → Looks np birth seen actor request answer → IsOf np birth h actor request answer
  of_looks actor request answer l =
      look_by np birth seen actor request (λ (a : Answer). IsOf np birth h actor request a)
      (λ n reply s low. subst (λ (g : List Entry). IsReplyAt np.policy birth g actor request reply) (take_longer n h seen more low) s.1) tt answer l

  by_look : (b : Bool) (actor : Actor) (request : Request) (answer : Answer) → MatchBool b (Looks np birth seen actor request answer) (answer ≡ view_only) → IsOf np birth h actor request answer
  by_look true actor request answer l = of_looks actor request answer l
  by_look false actor request answer l = subst (λ (x : Answer). IsOf np birth h actor request x) (sym l) tt

  acted_of : (acted : List Acted) → AreActedBy (AsksView np birth seen) np 0 acted → AreOf np birth h acted
  acted_of [] all = tt
  acted_of (a ∷ before) all = (
    acted_of before all.0,
    λ request is.
        by_look (is_look request) (actor_after np before) request a.answer
        (subst (λ (said : Result Line LineFault). GetsBy (AsksView np birth seen) said (actor_after np before) (0 + length (entries_of before)) a) is all.1).0,
  )

  tales_of : {L : Type 0} (traffic : L → Traffic) (ss : List (Viewed L)) (xs : List (ViewTale L)) → AreViewed traffic np birth seen ss xs → AllAreOf np birth h xs
  tales_of traffic [] [] all = tt
  tales_of traffic [] (x ∷ xs) all = absurd all
  tales_of traffic (s ∷ ss) [] all = absurd all
  tales_of traffic (s ∷ ss) (x ∷ xs) all = (acted_of x.acted all.0.link.conn.fit, tales_of traffic ss xs all.1)

-- what was done over a list was done over each longer one
viewed_on : {L : Type 0} (traffic : L → Traffic) (np : NamedPolicy) (birth : ℕ) (a b : Watcher L) (seen seen' : List Entry) → IsPrefix seen seen' → HasViewed traffic np birth a b seen → HasViewed traffic np birth a b seen'
viewed_on traffic np birth a b seen seen' more v =
    record {
      tales = v.tales;
      links = viewed_longer traffic np birth seen seen' b.served v.tales more v.links;
      ascends = ascend_to 0 (all_lens b.served) (length seen) (length seen') (longer seen seen' more) v.ascends;
      door = v.door;
      cause = v.cause;
      closed = v.closed;
    }

module _ {D G L : Type 0} where
  viewers_reversed : (ss : List (ViewerSeat D G L)) → viewers_of (reverse ss) ≡ reverse (viewers_of ss)
  viewers_reversed [] = refl
  viewers_reversed (s ∷ ss) =
      ap (λ (l : List (ViewerSeat D G L)). viewers_of l) (reverse-cons s ss) ∙ (map-append (λ (q : ViewerSeat D G L). q.viewer) (reverse ss) (s ∷ []) ∙ (ap (λ (l : List (Viewer D G L)). l ++ s.viewer ∷ []) (viewers_reversed ss) ∙ sym (reverse-cons s.viewer (viewers_of ss))))

  ready_at : (P : Glazed → Type 0) (Q : Viewer D G L → Type 0) (xs : List (ViewerSeat D G L)) → Each P (glasses_of xs) → Each Q (viewers_of xs) → (k : ℕ) (d : ViewerSeat D G L) → k < length xs
      → P (get_or xs k d).glass × Q (get_or xs k d).viewer
  ready_at P Q [] p q k d low = absurd (omega arith)
  ready_at P Q (x ∷ xs) p q zero d low = (p.0, q.0)
  ready_at P Q (x ∷ xs) p q (suc k) d low = ready_at P Q xs p.1 q.1 k d (omega (arith, low))

  -- each seat has a glass that has seen nothing, and a viewer that has not begun
  pub ready : (np : NamedPolicy) (birth n : ℕ) (gs : List Glazed) (viewers : List (Viewer D G L)) (xs : List (ViewerSeat D G L)) → gs ≡ replicate n (fresh_glass np birth)
      → reverse (glasses_of xs) ≡ gs → reverse (viewers_of xs) ≡ viewers
      → All (λ (v : Viewer D G L). IsNewViewer v) viewers → (k : ℕ) (d : ViewerSeat D G L) → k < length xs → ((get_or xs k d).glass ≡ fresh_glass np birth) × IsNewViewer (get_or xs k d).viewer
  ready np birth n gs viewers xs all glasses is new =
      let P : Glazed → Type 0 = λ (g : Glazed). g ≡ fresh_glass np birth in
      let Q : Viewer D G L → Type 0 = λ (v : Viewer D G L). IsNewViewer v in
      ready_at P Q xs (each_unreverse P (glasses_of xs) (subst (Each P) (sym (glasses ∙ all)) (each_copy P n (fresh_glass np birth) refl))) (each_unreverse Q (viewers_of xs) (subst (Each Q) (sym is) (all_each Q viewers new)))

  module _ (doorway : D → Doorway L) (traffic : L → Traffic) (np : NamedPolicy) (birth : ℕ) (h : List Entry) where
    -- all that a seat goes through
    pub record IsDone (x u : ViewerSeat D G L) : Type 0 where
      pub fresh : x.glass ≡ fresh_glass np birth
      pub mid : ViewerSeat D G L
      pub looked : HasLooked doorway traffic np x mid
      pub settled : HasSettled h mid u

    abbrev W : Viewer D G L → Watcher L
    W = watcher doorway

    viewed_in : (x z : ViewerSeat D G L) → x.glass ≡ fresh_glass np birth → HasLooked doorway traffic np x z → HasViewed traffic np birth (W x.viewer) (W z.viewer) z.glass.seen
    viewed_in x z fresh k =
        let born : x.glass.birth ≡ birth = ap (λ (g : Glazed). g.birth) fresh in
        let seen : x.glass.seen ≡ [] = ap (λ (g : Glazed). g.seen) fresh in
        let w : ViewsThrough traffic np birth (record { seen = x.glass.seen; door = doorway x.viewer.door }) (record { seen = z.glass.seen; door = doorway z.viewer.door }) z.viewer.served.items z.viewer.outcome =
        subst (λ (b : ℕ). ViewsThrough traffic np b (record { seen = x.glass.seen; door = doorway x.viewer.door }) (record { seen = z.glass.seen; door = doorway z.viewer.door }) z.viewer.served.items z.viewer.outcome) born k.works in
        record {
          tales = w.tales;
          links = w.worked.links;
          ascends = subst (λ (es : List Entry). AscendBetween (length es) (all_lens z.viewer.served.items) (length z.glass.seen)) seen w.worked.ascends;
          door = w.worked.door;
          cause = w.cause;
          closed = k.closed;
        }

    -- over the history that the glass has then seen
    viewed_mid : (x u : ViewerSeat D G L) → (d : IsDone x u) → HasViewed traffic np birth (W x.viewer) (W u.viewer) d.mid.glass.seen
    viewed_mid x u d = subst (λ (v : Viewer D G L). HasViewed traffic np birth (W x.viewer) (W v) d.mid.glass.seen) (sym d.settled.viewer) (viewed_in x d.mid d.fresh d.looked)

    has_viewed : (x u : ViewerSeat D G L) → IsDone x u → (seen : List Entry) × HasViewed traffic np birth (W x.viewer) (W u.viewer) seen
    has_viewed x u d = (d.mid.glass.seen, viewed_mid x u d)

    -- and where the glass was told, over a list that begins with the history
    is_told : (x u : ViewerSeat D G L) → IsDone x u → u.told ≡ true → IsToldOf traffic np birth h (W x.viewer) (W u.viewer)
    is_told x u d told =
        let t = d.settled.told told in
        let v = viewed_on traffic np birth (W x.viewer) (W u.viewer) d.mid.glass.seen u.glass.seen d.settled.grows (viewed_mid x u d) in
        let named : u.glass.named ≡ np = d.settled.same.0 ∙ d.looked.same.0 ∙ ap (λ (g : Glazed). g.named) d.fresh in
        let born : u.glass.birth ≡ birth = d.settled.same.1 ∙ d.looked.same.1 ∙ ap (λ (g : Glazed). g.birth) d.fresh in
        record {
          seen = u.glass.seen;
          viewed = v;
          front = t.0;
          history =
              subst (λ (p : NamedPolicy). IsHistory p.policy birth u.glass.seen) named
              (subst (λ (b : ℕ). IsHistory u.glass.named.policy b u.glass.seen) born t.1);
          of = tales_of np birth h u.glass.seen t.0 traffic u.viewer.served.items v.tales v.links;
        }

    abbrev AllDone : List (ViewerSeat D G L) → List (ViewerSeat D G L) → Type 0
    AllDone [] [] = Unit {0}
    AllDone [] (y ∷ ys) = ⊥
    AllDone (x ∷ xs) [] = ⊥
    AllDone (x ∷ xs) (y ∷ ys) = IsDone x y × AllDone xs ys

    all_done : (xs ys : List (ViewerSeat D G L)) → length ys ≡ length xs → ((i : ℕ) (d : ViewerSeat D G L) → i < length xs → IsDone (get_or xs i d) (get_or ys i d)) → AllDone xs ys
    all_done [] [] e f = tt
    all_done [] (y ∷ ys) e f = absurd (omega arith)
    all_done (x ∷ xs) [] e f = absurd (omega arith)
    all_done (x ∷ xs) (y ∷ ys) e f = (f 0 x (omega arith), all_done xs ys (omega arith) (λ i d low. f (suc i) d (omega arith)))

    done_append : (xs ys us vs : List (ViewerSeat D G L)) → AllDone xs ys → AllDone us vs → AllDone (xs ++ us) (ys ++ vs)
    done_append [] [] us vs a b = b
    done_append [] (y ∷ ys) us vs a b = absurd a
    done_append (x ∷ xs) [] us vs a b = absurd a
    done_append (x ∷ xs) (y ∷ ys) us vs a b = (a.0, done_append xs ys us vs a.1 b)

    done_reversed : (xs ys : List (ViewerSeat D G L)) → AllDone xs ys → AllDone (reverse xs) (reverse ys)
    done_reversed [] [] a = tt
    done_reversed [] (y ∷ ys) a = absurd a
    done_reversed (x ∷ xs) [] a = absurd a
    done_reversed (x ∷ xs) (y ∷ ys) a =
        subst (λ (l : List (ViewerSeat D G L)). AllDone l (reverse (y ∷ ys))) (sym (reverse-cons x xs))
        (subst (λ (l : List (ViewerSeat D G L)). AllDone (reverse xs ++ x ∷ []) l) (sym (reverse-cons y ys)) (done_append (reverse xs) (reverse ys) (x ∷ []) (y ∷ []) (done_reversed xs ys a.1) (a.0, tt)))

    abbrev WS : List (Viewer D G L) → List (Watcher L)
    WS = watchers doorway

    all_viewed : (xs ys : List (ViewerSeat D G L)) → AllDone xs ys → HaveViewed traffic np birth (WS (viewers_of xs)) (WS (viewers_of ys))
    all_viewed [] [] a = tt
    all_viewed [] (y ∷ ys) a = absurd a
    all_viewed (x ∷ xs) [] a = absurd a
    all_viewed (x ∷ xs) (y ∷ ys) a = (has_viewed x y a.0, all_viewed xs ys a.1)

    all_told : (xs ys : List (ViewerSeat D G L)) → AllDone xs ys → Each (λ (s : ViewerSeat D G L). s.told ≡ true) ys → AreToldOf traffic np birth h (WS (viewers_of xs)) (WS (viewers_of ys))
    all_told [] [] a t = tt
    all_told [] (y ∷ ys) a t = absurd a
    all_told (x ∷ xs) [] a t = absurd a
    all_told (x ∷ xs) (y ∷ ys) a t = (is_told x y a.0 t.0, all_told xs ys a.1 t.1)

    each_told : (ys : List (ViewerSeat D G L)) → list_all (λ (s : ViewerSeat D G L). s.told) ys ≡ true → Each (λ (s : ViewerSeat D G L). s.told ≡ true) ys
    each_told [] e = tt
    each_told (y ∷ ys) e = let both = both_true y.told (list_all (λ (s : ViewerSeat D G L). s.told) ys) e in (both.0, each_told ys both.1)

    -- what the viewers have served, in their order, where each seat went through all
    pub seats_done : (viewers viewers' : List (Viewer D G L)) (xs us : List (ViewerSeat D G L)) → reverse (viewers_of xs) ≡ viewers → viewers' ≡ reverse (viewers_of us) → length us ≡ length xs
        → ((i : ℕ) (d : ViewerSeat D G L) → i < length xs → IsDone (get_or xs i d) (get_or us i d))
        → HaveViewed traffic np birth (WS viewers) (WS viewers')
        × (list_all (λ (s : ViewerSeat D G L). s.told) us ≡ true → AreToldOf traffic np birth h (WS viewers) (WS viewers'))
    seats_done viewers viewers' xs us is is' long f =
        let all = done_reversed xs us (all_done xs us long f) in
        let before : viewers_of (reverse xs) ≡ viewers = viewers_reversed xs ∙ is in
        let after : viewers_of (reverse us) ≡ viewers' = viewers_reversed us ∙ sym is' in (
          subst (λ (vs : List (Viewer D G L)). HaveViewed traffic np birth (WS viewers) (WS vs)) after
              (subst (λ (vs : List (Viewer D G L)). HaveViewed traffic np birth (WS vs) (WS (viewers_of (reverse us)))) before (all_viewed (reverse xs) (reverse us) all)),
          λ told.
              subst (λ (vs : List (Viewer D G L)). AreToldOf traffic np birth h (WS viewers) (WS vs)) after
              (subst (λ (vs : List (Viewer D G L)). AreToldOf traffic np birth h (WS vs) (WS (viewers_of (reverse us)))) before
              (all_told (reverse xs) (reverse us) all (each_reverse (λ (s : ViewerSeat D G L). s.told ≡ true) us (each_told us told)))),
        )
