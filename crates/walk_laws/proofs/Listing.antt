-- The walks that are listed: the first that ends at a goal is the least of its length.
use Rattle.std.proofs.Common.{◌≡◌, ℕ, zero, suc, ◌+◌, ◌<◌, ◌≤◌, inl, inr, Bool, true, false, cond, ◌&&◌, List, [], ◌∷◌, ◌++◌, length, map, filter, flat_map, Option, Some, None, refl, sym, ◌∙◌, ap, subst, arith, add-zero, zero-add, if◌then◌else◌}
use Rattle.std.specs.List.{enumerate_from}
use Rattle.std.specs.Option.{option_map}
use Rattle.std.specs.Ordering.{nat_cmp, is_le, ordering_then}
use Rattle.std.specs.Cmp.{nat_cmp_is}
use Rattle.std.specs.Cmp.Lexicographic.{slice_cmp}
use Rattle.std.specs.declared.cmp.Ordering.TheVariants.{Less, Equal}
use Rattle.std.proofs.lemmas.Bool.{cases_lt, and_parts, and_from, false≢true}
use Rattle.gtrbac_model.specs.Graph.{Arc, first_ending, walks_from, LeadsAlong, item_at}
use Rattle.walk_laws.specs.Laws.{TellsApart}
use Rattle.walk_laws.proofs.Orders.{one_item}

abbrev or_else : {A : Type 0} → Option A → Option A → Option A
or_else (Some x) o = Some x
or_else None o = o

first_append : {N : Type 0} (goal : N → Bool) (xs ys : List (List ℕ × N)) → first_ending goal (xs ++ ys) ≡ or_else (first_ending goal xs) (first_ending goal ys)
first_append goal [] ys = refl
first_append goal (w ∷ xs) ys = go (goal w.1) (first_append goal xs ys)
  where
    go : (b : Bool) → first_ending goal (xs ++ ys) ≡ or_else (first_ending goal xs) (first_ending goal ys)
        → (if b then Some w.0 else first_ending goal (xs ++ ys)) ≡ or_else (if b then Some w.0 else first_ending goal xs) (first_ending goal ys)
    go true h = refl
    go false h = h

first_prefixed : {N : Type 0} (goal : N → Bool) (k : ℕ) (ws : List (List ℕ × N)) → first_ending goal (map (λ w. (k ∷ w.0, w.1)) ws) ≡ option_map (λ ns. k ∷ ns) (first_ending goal ws)
first_prefixed goal k [] = refl
first_prefixed goal k (w ∷ ws) = go (goal w.1) (first_prefixed goal k ws)
  where
    go : (b : Bool) → first_ending goal (map (λ w. (k ∷ w.0, w.1)) ws) ≡ option_map (λ ns. k ∷ ns) (first_ending goal ws)
        → (if b then Some (k ∷ w.0) else first_ending goal (map (λ w. (k ∷ w.0, w.1)) ws)) ≡ option_map (λ ns. k ∷ ns) (if b then Some w.0 else first_ending goal ws)
    go true h = refl
    go false h = h

module _ {N : Type 0} (same : N → N → Bool) (apart : TellsApart same) (arcs : List (Arc N)) (goal : N → Bool) where
  -- no walk of n arcs leads from the node to a goal
  abbrev pub HasNone : ℕ → N → Type 0
  HasNone n a = (ns : List ℕ) (b : N) → LeadsAlong arcs a ns b → length ns ≡ n → goal b ≡ true → ⊥

  -- the least of the walks of n arcs from the node to a goal
  pub record Best (n : ℕ) (a : N) (w : List ℕ) : Type 0 where
    pub end : N
    pub leads : LeadsAlong arcs a w end
    pub size : length w ≡ n
    pub reaches : goal end ≡ true
    pub least : (ns : List ℕ) (b : N) → LeadsAlong arcs a ns b → length ns ≡ n → goal b ≡ true → is_le (slice_cmp nat_cmp w ns) ≡ true

  abbrev pub Answers : ℕ → N → Option (List ℕ) → Type 0
  Answers n a None = HasNone n a
  Answers n a (Some w) = Best n a w

  -- the arc leads on from the node
  pub record Leaves (a : N) (e : Arc N) : Type 0 where
    pub open_ : e.is_open ≡ true
    pub from : e.from ≡ a

  -- of the arcs from number k on: no walk begins with one of them, or the first with which one begins
  pub record First (n : ℕ) (a : N) (k : ℕ) (xs : List (Arc N)) (w : List ℕ) : Type 0 where
    pub number : ℕ
    pub rest : List ℕ
    pub arc : Arc N
    pub is : item_at xs number ≡ Some arc
    pub walk : w ≡ (k + number) ∷ rest
    pub leaves : Leaves a arc
    pub best : Best n arc.to rest
    pub before : (i : ℕ) (e : Arc N) → i < number → item_at xs i ≡ Some e → Leaves a e → HasNone n e.to

  abbrev pub Begins : ℕ → N → ℕ → List (Arc N) → Option (List ℕ) → Type 0
  Begins n a k xs None = (i : ℕ) (e : Arc N) → item_at xs i ≡ Some e → Leaves a e → HasNone n e.to
  Begins n a k xs (Some w) = First n a k xs w

  abbrev on : ℕ → ℕ × Arc N → List (List ℕ × N)
  on n e = map (λ w. (e.0 ∷ w.0, w.1)) (walks_from same arcs n e.1.to)

  abbrev leaving : N → ℕ × Arc N → Bool
  leaving a e = e.1.is_open && same e.1.from a

  -- the first arc begins no walk
  later : (n : ℕ) (a : N) (k : ℕ) (x : Arc N) (xs : List (Arc N)) (o : Option (List ℕ)) → (Leaves a x → HasNone n x.to) → Begins n a (k + 1) xs o → Begins n a k (x ∷ xs) o
  later n a k x xs None none h = λ i e is l. step i e is l
    where
      step : (i : ℕ) (e : Arc N) → item_at (x ∷ xs) i ≡ Some e → Leaves a e → HasNone n e.to
      step zero e is l = let q : x ≡ e = cc in subst (λ z. HasNone n z.to) q (none (subst (λ z. Leaves a z) (sym q) l))
      step (suc i) e is l = h i e is l
  later n a k x xs (Some w) none f =
      record {
        number = suc f.number;
        rest = f.rest;
        arc = f.arc;
        is = f.is;
        walk = f.walk ∙ ap (λ m. m ∷ f.rest) (shift k f.number);
        leaves = f.leaves;
        best = f.best;
        before = λ i e h is l. step i e h is l;
      }
    where
      shift : (k m : ℕ) → (k + 1) + m ≡ k + suc m
      shift k m = omega arith

      less : (i m : ℕ) → suc i < suc m → i < m
      less i m h = omega arith

      step : (i : ℕ) (e : Arc N) → i < suc f.number → item_at (x ∷ xs) i ≡ Some e → Leaves a e → HasNone n e.to
      step zero e h is l = let q : x ≡ e = cc in subst (λ z. HasNone n z.to) q (none (subst (λ z. Leaves a z) (sym q) l))
      step (suc i) e h is l = f.before i e (less i f.number h) is l

  -- the first arc leads on: its walks come first
  earlier : (n : ℕ) (a : N) (k : ℕ) (x : Arc N) (xs : List (Arc N)) (o r : Option (List ℕ)) → Leaves a x → Answers n x.to o → Begins n a (k + 1) xs r → Begins n a k (x ∷ xs) (or_else (option_map (λ ns. k ∷ ns) o) r)
  earlier n a k x xs None r l h more = later n a k x xs r (λ _. h) more
  earlier n a k x xs (Some ms) r l h more =
      record {
        number = 0;
        rest = ms;
        arc = x;
        is = refl;
        walk = ap (λ m. m ∷ ms) (sym (add-zero k));
        leaves = l;
        best = h;
        before = λ i e lt. absurd (none i lt);
      }
    where
      none : (i : ℕ) → i < 0 → ⊥
      none i h = omega arith

  leaves_of : (a : N) (k : ℕ) (x : Arc N) → leaving a (k, x) ≡ true → Leaves a x
  leaves_of a k x q = let (o, s) = and_parts x.is_open (same x.from a) q in record { open_ = o; from = apart.0 x.from a s }

  leaving_of : (a : N) (k : ℕ) (x : Arc N) → Leaves a x → leaving a (k, x) ≡ true
  leaving_of a k x l = and_from x.is_open (same x.from a) l.open_ (apart.1 x.from a l.from)

  begin_step : (n : ℕ) (a : N) (k : ℕ) (x : Arc N) (xs : List (Arc N)) (tail : List (ℕ × Arc N)) → Answers n x.to (first_ending goal (walks_from same arcs n x.to)) → Begins n a (k + 1) xs (first_ending goal (flat_map (on n) tail))
      → (b : Bool) → leaving a (k, x) ≡ b → Begins n a k (x ∷ xs) (first_ending goal (flat_map (on n) (cond b ((k, x) ∷ tail) tail)))
  begin_step n a k x xs tail own more false q = later n a k x xs _ (λ l. absurd (false≢true (sym q ∙ leaving_of a k x l))) more
  begin_step n a k x xs tail own more true q =
      subst (λ o. Begins n a k (x ∷ xs) o)
      (sym (first_append goal (on n (k, x)) (flat_map (on n) tail) ∙ ap (λ o. or_else o (first_ending goal (flat_map (on n) tail))) (first_prefixed goal k (walks_from same arcs n x.to))))
      (earlier n a k x xs _ _ (leaves_of a k x q) own more)

  begins : (n : ℕ) → ((a : N) → Answers n a (first_ending goal (walks_from same arcs n a)))
      → (a : N) (k : ℕ) (xs : List (Arc N)) → Begins n a k xs (first_ending goal (flat_map (on n) (filter (leaving a) (enumerate_from k xs))))
  begins n shorter a k [] = λ i e is. cc
  begins n shorter a k (x ∷ xs) = begin_step n a k x xs (filter (leaving a) (enumerate_from (k + 1) xs)) (shorter x.to) (begins n shorter a (k + 1) xs) (leaving a (k, x)) refl

  none_more : (n : ℕ) (a : N) → Begins n a 0 arcs None → HasNone (suc n) a
  none_more n a h [] b leads size g = zero_not size
    where
      zero_not : 0 ≡ suc n → ⊥
      zero_not e = omega arith
  none_more n a h (m ∷ ns) b (e, is, open_, from, rest) size g = h m e is (record { open_ = open_; from = from }) ns b rest (less _ size) g
    where
      less : (k : ℕ) → suc k ≡ suc n → k ≡ n
      less k e = omega arith

  -- what the arcs say of one arc more
  one_more : (n : ℕ) (a : N) (o : Option (List ℕ)) → Begins n a 0 arcs o → Answers (suc n) a o
  one_more n a None h = none_more n a h
  one_more n a (Some w) f =
      record {
        end = f.best.end;
        leads = subst (λ ns. LeadsAlong arcs a ns f.best.end) (sym own) (f.arc, f.is, f.leaves.open_, f.leaves.from, f.best.leads);
        size = ap length own ∙ longer _ f.best.size;
        reaches = f.best.reaches;
        least = λ ns b leads size g. subst (λ v. is_le (slice_cmp nat_cmp v ns) ≡ true) (sym own) (compare ns b leads size g);
      }
    where
      own : w ≡ f.number ∷ f.rest
      own = f.walk ∙ ap (λ m. m ∷ f.rest) (zero-add f.number)

      longer : (k : ℕ) → k ≡ n → suc k ≡ suc n
      longer k e = omega arith

      compare : (ns : List ℕ) (b : N) → LeadsAlong arcs a ns b → length ns ≡ suc n → goal b ≡ true → is_le (slice_cmp nat_cmp (f.number ∷ f.rest) ns) ≡ true
      compare [] b leads size g = absurd (zero_not size)
        where
          zero_not : 0 ≡ suc n → ⊥
          zero_not e = omega arith
      compare (m ∷ ns) b (e, is, open_, from, rest) size g =
          elim (cases_lt f.number m) [
            | inl less ↦ ap (λ r. is_le (ordering_then r (slice_cmp nat_cmp f.rest ns))) (sym (nat_cmp_is f.number m Less less))
            | inr le ↦ elim (cases_lt m f.number) [
              | inl less ↦ absurd (f.before m e less is (record { open_ = open_; from = from }) ns b rest (fewer _ size) g)
              | inr ge ↦
                  let q : f.number ≡ m = both f.number m le ge in
                  let arc : f.arc ≡ e = one_item arcs m f.arc e (ap (item_at arcs) (sym q) ∙ f.is) is in
                  ap (λ r. is_le (ordering_then r (slice_cmp nat_cmp f.rest ns))) (sym (nat_cmp_is f.number m Equal q))
                  ∙ f.best.least ns b (subst (λ z. LeadsAlong arcs z.to ns b) (sym arc) rest) (fewer _ size) g
            ]
          ]
        where
          fewer : (k : ℕ) → suc k ≡ suc n → k ≡ n
          fewer k e = omega arith

          both : (a b : ℕ) → b ≤ a → a ≤ b → a ≡ b
          both a b p q = omega arith

  -- the first walk listed that ends at a goal is the least of its length
  pub answers : (n : ℕ) (a : N) → Answers n a (first_ending goal (walks_from same arcs n a))
  answers zero a = go (goal a) refl
    where
      start : (ns : List ℕ) (b : N) → LeadsAlong arcs a ns b → length ns ≡ 0 → a ≡ b
      start [] b leads size = leads
      start (m ∷ ns) b leads size = absurd (omega arith)

      empty : (ns : List ℕ) → length ns ≡ 0 → is_le (slice_cmp nat_cmp [] ns) ≡ true
      empty [] size = refl
      empty (m ∷ ns) size = refl

      go : (b : Bool) → goal a ≡ b → Answers 0 a (if b then Some [] else None)
      go true q = record { end = a; leads = refl; size = refl; reaches = q; least = λ ns b leads size g. empty ns size }
      go false q = λ ns b leads size g. false≢true (sym q ∙ ap goal (start ns b leads size) ∙ g)
  answers (suc n) a = one_more n a _ (begins n (answers n) a 0 arcs)
