-- Safe triggers have levels: the level of an event is the number of begins of edges that reach it by a walk with a conflict.
use Rattle.std.proofs.Common.{◌≡◌, ℕ, zero, suc, ◌+◌, ◌<◌, ◌≤◌, inl, inr, Bool, true, false, cond, ◌&&◌, nat_lt, nat_le, List, [], ◌∷◌, map, Option, Some, None, MatchOption, refl, sym, ap, subst, arith}
use Rattle.std.specs.List.{list_any}
use Rattle.std.specs.Option.{is_some}
use Rattle.std.proofs.lemmas.Bool.{false≢true, lt-ltb, le-leb}
use Rattle.gt_base.specs.declared.events.Event.{Event}
use Rattle.gtrbac_model.specs.Same.{same_event}
use Rattle.gtrbac_model.specs.Graph.{Path, least_walk, LeadsAlong, IsLeastWalk, item_at}
use Rattle.gtrbac_model.specs.Safety.{Dependency, dependencies, arcs_of, rises}
use Rattle.gtrbac_model.proofs.Elements.{Elem, and_true, both_true, any_elim, any_intro, all_intro}
use Rattle.gtrbac_model.proofs.Uniqueness.{is_same_event, same_event_of}
use Rattle.walk_laws.specs.Laws.{HasNoWalk, SafeIsLevelled}
use Rattle.walk_laws.proofs.Cutting.{joined}
use Rattle.walk_laws.proofs.Computing.{least_walk_is}
use Rattle.walk_laws.proofs.Closing.{arc_of, arc_here}

abbrev count : {A : Type 0} → (A → Bool) → List A → ℕ
count p [] = 0
count p (x ∷ xs) = cond (p x) 1 0 + count p xs

-- what passes one test passes the other: no more pass the first
counts_more : {A : Type 0} (p q : A → Bool) → ((x : A) → p x ≡ true → q x ≡ true) → (xs : List A) → count p xs ≤ count q xs
counts_more p q f [] = omega arith
counts_more p q f (x ∷ xs) = go (p x) (q x) (f x) _ _ (counts_more p q f xs)
  where
    go : (a b : Bool) → (a ≡ true → b ≡ true) → (m n : ℕ) → m ≤ n → cond a 1 0 + m ≤ cond b 1 0 + n
    go true true f m n h = omega arith
    go true false f m n h = absurd (false≢true (f refl))
    go false true f m n h = omega arith
    go false false f m n h = omega arith

-- and where one element passes the second test alone, fewer pass the first
counts_fewer : {A : Type 0} (p q : A → Bool) → ((x : A) → p x ≡ true → q x ≡ true) → (xs : List A) (x : A) → Elem xs x → p x ≡ false → q x ≡ true → count p xs < count q xs
counts_fewer p q f [] x m h k = elim m [ ]
counts_fewer p q f (y ∷ ys) x (inl e) h k =
    go (p y) (q y) (subst (λ z. p z ≡ false) e h) (subst (λ z. q z ≡ true) e k) _ _ (counts_more p q f ys)
  where
    go : (a b : Bool) → a ≡ false → b ≡ true → (m n : ℕ) → m ≤ n → cond a 1 0 + m < cond b 1 0 + n
    go true b h k m n le = absurd (false≢true (sym h))
    go false true h k m n le = omega arith
    go false false h k m n le = absurd (false≢true k)
counts_fewer p q f (y ∷ ys) x (inr m) h k = go (p y) (q y) (f y) _ _ (counts_fewer p q f ys x m h k)
  where
    go : (a b : Bool) → (a ≡ true → b ≡ true) → (m n : ℕ) → m < n → cond a 1 0 + m < cond b 1 0 + n
    go true true f m n h = omega arith
    go true false f m n h = absurd (false≢true (f refl))
    go false true f m n h = omega arith
    go false false f m n h = omega arith

elem_number : {A : Type 0} (xs : List A) (x : A) → Elem xs x → (n : ℕ) × (item_at xs n ≡ Some x)
elem_number [] x m = elim m [ ]
elem_number (y ∷ ys) x (inl e) = (0, ap Some (sym e))
elem_number (y ∷ ys) x (inr m) = let (n, is) = elem_number ys x m in (suc n, is)

source_listed : (ds : List Dependency) (d : Dependency) → Elem ds d → Elem (map (λ e. e.source) ds) d.source
source_listed [] d m = elim m [ ]
source_listed (x ∷ ds) d (inl e) = inl (ap (λ z. z.source) e)
source_listed (x ∷ ds) d (inr m) = inr (source_listed ds d m)

module _ (ds : List Dependency) where
  abbrev Leads : Event → List ℕ → Event → Type 0
  Leads = LeadsAlong (arcs_of ds)

  -- whether a walk leads from the first to the second
  reaches : Event → Event → Bool
  reaches a b = is_some (least_walk same_event (arcs_of ds) (same_event b) (a ∷ []))

  a_walk : (a b : Event) (o : Option (Path Event)) → MatchOption o (HasNoWalk (arcs_of ds) (same_event b) (a ∷ [])) (IsLeastWalk (arcs_of ds) (same_event b) (a ∷ [])) → is_some o ≡ true → (ns : List ℕ) × Leads a ns b
  a_walk a b None h k = absurd (false≢true k)
  a_walk a b (Some p) h k =
      (p.arcs, subst (λ z. Leads a p.arcs z) (sym (is_same_event b h.is_walk.end h.is_walk.reaches)) (subst (λ z. Leads z p.arcs h.is_walk.end) (start h.place p.start h.is_walk.from_start) h.is_walk.leads))
    where
      start : (place : ℕ) (s : Event) → item_at (a ∷ []) place ≡ Some s → s ≡ a
      start zero s h = cc
      start (suc i) s h = cc

  no_walk : (a b : Event) (o : Option (Path Event)) → MatchOption o (HasNoWalk (arcs_of ds) (same_event b) (a ∷ [])) (IsLeastWalk (arcs_of ds) (same_event b) (a ∷ [])) → (ns : List ℕ) → Leads a ns b → is_some o ≡ true
  no_walk a b None h ns w = absurd (h 0 (record { start = a; arcs = ns }) (record { end = b; from_start = refl; leads = w; reaches = same_event_of b b refl }))
  no_walk a b (Some p) h ns w = refl

  walk_of : (a b : Event) → reaches a b ≡ true → (ns : List ℕ) × Leads a ns b
  unfolding reaches
  walk_of a b h = a_walk a b _ (least_walk_is same_event (is_same_event, same_event_of) (arcs_of ds) (same_event b) (a ∷ [])) h

  reach_of : (a b : Event) (ns : List ℕ) → Leads a ns b → reaches a b ≡ true
  unfolding reaches
  reach_of a b ns w = no_walk a b _ (least_walk_is same_event (is_same_event, same_event_of) (arcs_of ds) (same_event b) (a ∷ [])) ns w

  -- a walk with this conflict leads from the first to the second
  through : Event → Event → Dependency → Bool
  through u v d = d.conflict && (reaches u d.source && reaches d.target v)

  climbs : Event → Event → Bool
  climbs u v = list_any (through u v) ds

  -- how many begins of edges reach the event by a walk with a conflict
  level : Event → ℕ
  level v = count (λ u. climbs u v) (map (λ d. d.source) ds)

  step : (n : ℕ) (d : Dependency) → item_at ds n ≡ Some d → Leads d.source (n ∷ []) d.target
  step n d is = (arc_of d, arc_here ds n d is, refl, refl, refl)

  -- what climbs to the begin of an edge climbs to its end
  climbs_on : (d : Dependency) → Elem ds d → (u : Event) → climbs u d.source ≡ true → climbs u d.target ≡ true
  unfolding climbs through
  climbs_on d m u h =
      let (e, me, t) = any_elim (through u d.source) ds h in
      let (c, r) = both_true e.conflict _ t in
      let (to, from) = both_true (reaches u e.source) _ r in
      let (ns, w) = walk_of e.target d.source from in
      let (n, is) = elem_number ds d m in
      any_intro (through u d.target) ds e me
      (and_true e.conflict _ c (and_true (reaches u e.source) _ to (reach_of e.target d.target _ (joined (arcs_of ds) e.target ns (n ∷ []) d.source d.target w (step n d is)))))

  -- the begin of a conflict climbs to its end
  climbs_over : (d : Dependency) → Elem ds d → d.conflict ≡ true → climbs d.source d.target ≡ true
  unfolding climbs through
  climbs_over d m c =
      any_intro (through d.source d.target) ds d m
      (and_true d.conflict _ c (and_true (reaches d.source d.source) _ (reach_of d.source d.source [] refl) (reach_of d.target d.target [] refl)))

  -- what climbs to itself closes a walk with a conflict
  climbs_back : (v : Event) → climbs v v ≡ true → (n : ℕ) × (d : Dependency) × (item_at ds n ≡ Some d) × (d.conflict ≡ true) × ((ns : List ℕ) × Leads d.target ns d.source)
  unfolding climbs through
  climbs_back v h =
      let (e, me, t) = any_elim (through v v) ds h in
      let (c, r) = both_true e.conflict _ t in
      let (to, from) = both_true (reaches v e.source) _ r in
      let (ns, w) = walk_of e.target v from in
      let (ms, x) = walk_of v e.source to in
      let (n, is) = elem_number ds e me in
      (n, e, is, c, (_, joined (arcs_of ds) e.target ns ms v e.source w x))

  level_rises : ((v : Event) → climbs v v ≡ true → ⊥) → (d : Dependency) → Elem ds d → rises level d ≡ true
  unfolding level
  level_rises safe d m = go d.conflict refl
    where
      not_true : (b : Bool) → (b ≡ true → ⊥) → b ≡ false
      not_true true f = absurd (f refl)
      not_true false f = refl

      go : (b : Bool) → d.conflict ≡ b → cond b (nat_lt (level d.source) (level d.target)) (nat_le (level d.source) (level d.target)) ≡ true
      go true q =
          lt-ltb _ _ (counts_fewer (λ u. climbs u d.source) (λ u. climbs u d.target) (climbs_on d m) (map (λ e. e.source) ds) d.source (source_listed ds d m)
          (not_true _ (safe d.source)) (climbs_over d m q))
      go false q = le-leb _ _ (counts_more (λ u. climbs u d.source) (λ u. climbs u d.target) (climbs_on d m) (map (λ e. e.source) ds))

pub safe_is_levelled : SafeIsLevelled
safe_is_levelled rules safe =
    (level (dependencies rules), all_intro (rises (level (dependencies rules))) (dependencies rules) (λ d m. level_rises (dependencies rules) back d m))
  where
    back : (v : Event) → climbs (dependencies rules) v v ≡ true → ⊥
    back v h =
        let (n, d, is, c, w) = climbs_back (dependencies rules) v h in
        safe n d is c w.0 w.1
