-- Over the starts, and over the lengths: the walk that is computed is the least.
use Rattle.std.proofs.Common.{◌≡◌, ℕ, zero, suc, ◌+◌, ◌<◌, ◌≤◌, ◌⊎◌, inl, inr, Bool, List, [], ◌∷◌, length, Option, Some, None, refl, sym, ◌∙◌, ap, subst, arith, IsTrue}
use Rattle.std.specs.Ordering.{nat_cmp, is_le}
use Rattle.std.specs.Cmp.Lexicographic.{slice_cmp}
use Rattle.std.proofs.lemmas.Bool.{cases_lt}
use Rattle.gtrbac_model.specs.Graph.{shortest, first_ending, Arc, Path, walks_from, least_of_length, least_walk, LeadsAlong, IsWalk, NotAfter, IsLeastWalk, item_at}
use Rattle.walk_laws.specs.Laws.{TellsApart}
use Rattle.walk_laws.proofs.Orders.{one_item}
use Rattle.walk_laws.proofs.Listing.{HasNone, Best, Answers, answers}

module _ {N : Type 0} (same : N → N → Bool) (apart : TellsApart same) (arcs : List (Arc N)) (goal : N → Bool) where
  -- of the starts, none has a walk of n arcs, or the first that has one has its least
  record Starts (n : ℕ) (starts : List N) (p : Path N) : Type 0 where
    place : ℕ
    is : item_at starts place ≡ Some p.start
    best : Best same apart arcs goal n p.start p.arcs
    before : (j : ℕ) (s : N) → j < place → item_at starts j ≡ Some s → HasNone same apart arcs goal n s

  abbrev AnyStart : ℕ → List N → Option (Path N) → Type 0
  AnyStart n starts None = (j : ℕ) (s : N) → item_at starts j ≡ Some s → HasNone same apart arcs goal n s
  AnyStart n starts (Some p) = Starts n starts p

  next_start : (n : ℕ) (a : N) (starts : List N) (o : Option (Path N)) → HasNone same apart arcs goal n a → AnyStart n starts o → AnyStart n (a ∷ starts) o
  next_start n a starts None none h = λ j s is. step j s is
    where
      step : (j : ℕ) (s : N) → item_at (a ∷ starts) j ≡ Some s → HasNone same apart arcs goal n s
      step zero s is = let q : a ≡ s = cc in subst (λ z. HasNone same apart arcs goal n z) q none
      step (suc j) s is = h j s is
  next_start n a starts (Some p) none h = record { place = suc h.place; is = h.is; best = h.best; before = λ j s lt is. step j s lt is }
    where
      less : (i m : ℕ) → suc i < suc m → i < m
      less i m h = omega arith

      step : (j : ℕ) (s : N) → j < suc h.place → item_at (a ∷ starts) j ≡ Some s → HasNone same apart arcs goal n s
      step zero s lt is = let q : a ≡ s = cc in subst (λ z. HasNone same apart arcs goal n z) q none
      step (suc j) s lt is = h.before j s (less j h.place lt) is

  one_start : (n : ℕ) (a : N) (starts : List N) (o : Option (List ℕ)) → Answers same apart arcs goal n a o → AnyStart n starts (least_of_length same arcs goal n starts)
      → AnyStart n (a ∷ starts) (elim o [ Some w ↦ Some (record { start = a; arcs = w }) | None ↦ least_of_length same arcs goal n starts ])
  one_start n a starts None none h = next_start n a starts (least_of_length same arcs goal n starts) none h
  one_start n a starts (Some w) best h = record { place = 0; is = refl; best = best; before = λ j s lt. absurd (never j lt) }
    where
      never : (j : ℕ) → j < 0 → ⊥
      never j h = omega arith

  any_start : (n : ℕ) (starts : List N) → AnyStart n starts (least_of_length same arcs goal n starts)
  any_start n [] = λ j s is. cc
  any_start n (a ∷ starts) = one_start n a starts (first_ending goal (walks_from same arcs n a)) (answers same apart arcs goal n a) (any_start n starts)

  -- no walk of so many arcs from any start
  abbrev pub NoneOf : List N → ℕ → Type 0
  NoneOf starts n = (j : ℕ) (s : N) → item_at starts j ≡ Some s → HasNone same apart arcs goal n s

  record Found (starts : List N) (n : ℕ) (p : Path N) : Type 0 where
    first : Starts (length p.arcs) starts p
    above : n ≤ length p.arcs
    shorter : (i : ℕ) → n ≤ i → i < length p.arcs → NoneOf starts i

  abbrev AnyLength : List N → ℕ → ℕ → Option (Path N) → Type 0
  AnyLength starts n k None = (i : ℕ) → n ≤ i → i < n + k → NoneOf starts i
  AnyLength starts n k (Some p) = Found starts n p

  longer : (starts : List N) (n k : ℕ) (o : Option (Path N)) → NoneOf starts n → AnyLength starts (n + 1) k o → AnyLength starts n (suc k) o
  longer starts n k None none h = λ i low high. elim (cases_lt n i) [
    | inl lt ↦ h i (up i lt) (same_end i high)
    | inr le ↦ subst (λ m. NoneOf starts m) (both i low le) none
  ]
    where
      up : (i : ℕ) → n < i → n + 1 ≤ i
      up i h = omega arith

      same_end : (i : ℕ) → i < n + suc k → i < (n + 1) + k
      same_end i h = omega arith

      both : (i : ℕ) → n ≤ i → i ≤ n → n ≡ i
      both i p q = omega arith
  longer starts n k (Some p) none h =
      record {
        first = h.first;
        above = less _ h.above;
        shorter = λ i low high. elim (cases_lt n i) [
          | inl lt ↦ h.shorter i (up i lt) high
          | inr le ↦ subst (λ m. NoneOf starts m) (both i low le) none
        ];
      }
    where
      less : (m : ℕ) → n + 1 ≤ m → n ≤ m
      less m h = omega arith

      up : (i : ℕ) → n < i → n + 1 ≤ i
      up i h = omega arith

      both : (i : ℕ) → n ≤ i → i ≤ n → n ≡ i
      both i p q = omega arith

  one_length : (starts : List N) (n k : ℕ) (o : Option (Path N)) → AnyStart n starts o → AnyLength starts (n + 1) k (shortest same arcs goal starts (n + 1) k)
      → AnyLength starts n (suc k) (elim o [ Some p ↦ Some p | None ↦ shortest same arcs goal starts (n + 1) k ])
  one_length starts n k None none h = longer starts n k (shortest same arcs goal starts (n + 1) k) none h
  one_length starts n k (Some p) first h =
      record {
        first = subst (λ m. Starts m starts p) (sym first.best.size) first;
        above = equal_le _ first.best.size;
        shorter = λ i low high. absurd (never i _ low high first.best.size);
      }
    where
      equal_le : (m : ℕ) → m ≡ n → n ≤ m
      equal_le m e = omega arith

      never : (i m : ℕ) → n ≤ i → i < m → m ≡ n → ⊥
      never i m p q e = omega arith

  any_length : (starts : List N) (n k : ℕ) → AnyLength starts n k (shortest same arcs goal starts n k)
  any_length starts n zero = λ i low high. absurd (never i low high)
    where
      never : (i : ℕ) → n ≤ i → i < n + 0 → ⊥
      never i p q = omega arith
  any_length starts n (suc k) = one_length starts n k (least_of_length same arcs goal n starts) (any_start n starts) (any_length starts (n + 1) k)

  -- what is computed: the least walk, or none of as many arcs as there are
  abbrev pub Computed : List N → Option (Path N) → Type 0
  Computed starts None = (i : ℕ) → i ≤ length arcs → NoneOf starts i
  Computed starts (Some p) = IsLeastWalk arcs goal starts p

  found_least : (starts : List N) (p : Path N) → Found starts 0 p → IsLeastWalk arcs goal starts p
  found_least starts p f =
      record {
        place = f.first.place;
        is_walk = record { end = f.first.best.end; from_start = f.first.is; leads = f.first.best.leads; reaches = f.first.best.reaches };
        least = λ j q w. compare j q w;
      }
    where
      anything : (i : ℕ) → 0 ≤ i
      anything i = omega arith

      both : (a b : ℕ) → a ≤ b → b ≤ a → a ≡ b
      both a b p q = omega arith

      compare : (j : ℕ) (q : Path N) → IsWalk arcs goal starts j q → NotAfter f.first.place p j q
      compare j q w =
          elim (cases_lt (length p.arcs) (length q.arcs)) [
            | inl less ↦ inl less
            | inr le ↦ elim (cases_lt (length q.arcs) (length p.arcs)) [
              | inl less ↦ absurd (f.shorter (length q.arcs) (anything _) less j q.start w.from_start q.arcs w.end w.leads refl w.reaches)
              | inr ge ↦
                  let size : length p.arcs ≡ length q.arcs = both _ _ ge le in
                  inr (size, places size)
            ]
          ]
        where
          places : length p.arcs ≡ length q.arcs → (f.first.place < j) ⊎ ((f.first.place ≡ j) × IsTrue (is_le (slice_cmp nat_cmp p.arcs q.arcs)))
          places size =
              elim (cases_lt f.first.place j) [
                | inl less ↦ inl less
                | inr le ↦ elim (cases_lt j f.first.place) [
                  | inl less ↦ absurd (f.first.before j q.start less w.from_start q.arcs w.end w.leads (sym size) w.reaches)
                  | inr ge ↦
                      let e : f.first.place ≡ j = both _ _ ge le in
                      let s : q.start ≡ p.start = one_item starts j q.start p.start w.from_start (ap (item_at starts) (sym e) ∙ f.first.is) in
                      inr (e, f.first.best.least q.arcs w.end (subst (λ a. LeadsAlong arcs a q.arcs w.end) s w.leads) (sym size) w.reaches)
                ]
              ]

  computed_of : (starts : List N) (o : Option (Path N)) → AnyLength starts 0 (length arcs + 1) o → Computed starts o
  computed_of starts None h = λ i le. h i (anything i) (below i le)
    where
      anything : (i : ℕ) → 0 ≤ i
      anything i = omega arith

      below : (i : ℕ) → i ≤ length arcs → i < 0 + (length arcs + 1)
      below i h = omega arith
  computed_of starts (Some p) h = found_least starts p h

  pub computed : (starts : List N) → Computed starts (least_walk same arcs goal starts)
  computed starts = computed_of starts (least_walk same arcs goal starts) (any_length starts 0 (length arcs + 1))
