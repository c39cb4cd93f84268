-- Of things with an arc and a number each, the first that closes a marked walk gives the least cycle.
use Rattle.std.proofs.Common.{◌≡◌, ℕ, zero, suc, ◌+◌, ◌-◌, ◌<◌, ◌≤◌, inl, inr, Bool, true, false, List, [], ◌∷◌, map, Option, Some, None, MatchOption, refl, sym, ◌∙◌, ap, subst, arith, add-zero}
use Rattle.std.proofs.lemmas.Bool.{cases_lt, false≢true}
use Rattle.gtrbac_model.specs.Graph.{Arc, Path, least_walk, LeadsAlong, IsWalk, NotAfter, IsLeastWalk, item_at}
use Rattle.gtrbac_model.specs.Cycles.{Closes, HasNoCycle, NotLonger, IsLeastCycle}
use Rattle.walk_laws.specs.Laws.{TellsApart, HasNoWalk}
use Rattle.walk_laws.proofs.Orders.{one_item}
use Rattle.walk_laws.proofs.Computing.{least_walk_is}

pub item_map : {A B : Type 0} (f : A → B) (xs : List A) (n : ℕ) (y : B) → item_at (map f xs) n ≡ Some y → (x : A) × (item_at xs n ≡ Some x) × (y ≡ f x)
item_map f [] n y h = cc
item_map f (x ∷ xs) zero y h = (x, refl, cc)
item_map f (x ∷ xs) (suc n) y h = item_map f xs n y h

pub item_of_map : {A B : Type 0} (f : A → B) (xs : List A) (n : ℕ) (x : A) → item_at xs n ≡ Some x → item_at (map f xs) n ≡ Some (f x)
item_of_map f [] n x h = cc
item_of_map f (y ∷ xs) zero x h = let q : y ≡ x = cc in ap (λ z. Some (f z)) q
item_of_map f (y ∷ xs) (suc n) x h = item_of_map f xs n x h

module _ {N A : Type 0} (arc_of : A → Arc N) (xs : List A) (marked : ℕ → Bool) where
  abbrev arcs : List (Arc N)
  arcs = map arc_of xs

  abbrev Closing : ℕ → List ℕ → Type 0
  Closing n back = Closes arcs marked n back

  -- the least cycle that begins with this arc, or none
  pub record Least (n : ℕ) (c : List ℕ) : Type 0 where
    back : List ℕ
    is : c ≡ n ∷ back
    closes : Closing n back
    shortest : (other : List ℕ) → Closing n other → NotLonger back other

  abbrev pub ClosesWith : ℕ → Option (List ℕ) → Type 0
  ClosesWith n None = (back : List ℕ) → Closing n back → ⊥
  ClosesWith n (Some c) = Least n c

  pub unmarked_closes : (n : ℕ) → marked n ≡ false → ClosesWith n None
  unmarked_closes n q = λ back c. false≢true (sym q ∙ c.is_marked)

  module _ (same : N → N → Bool) (apart : TellsApart same) (n : ℕ) (x : A) (is : item_at xs n ≡ Some x) (mark : marked n ≡ true) where
    abbrev a : Arc N
    a = arc_of x

    as_walk : (back : List ℕ) → Closing n back → IsWalk arcs (same a.from) (a.to ∷ []) 0 (record { start = a.to; arcs = back })
    as_walk back c =
        record {
          end = a.from;
          from_start = refl;
          leads = subst (λ z. LeadsAlong arcs z.to back z.from) (one_item arcs n c.arc a c.is (item_of_map arc_of xs n x is)) c.leads;
          reaches = apart.1 a.from a.from refl;
        }

    the_start : (place : ℕ) (s : N) → item_at (a.to ∷ []) place ≡ Some s → s ≡ a.to
    the_start zero s h = cc
    the_start (suc i) s h = cc

    not_longer : (place : ℕ) (p : Path N) (other : List ℕ) → NotAfter place p 0 (record { start = a.to; arcs = other }) → NotLonger p.arcs other
    not_longer place p other (inl h) = inl h
    not_longer place p other (inr (h, inl k)) = absurd (omega arith)
    not_longer place p other (inr (h, inr (_, k))) = inr (h, k)

    with_walk : (o : Option (Path N)) → MatchOption o (HasNoWalk arcs (same a.from) (a.to ∷ [])) (IsLeastWalk arcs (same a.from) (a.to ∷ []))
        → ClosesWith n (elim o [ Some p ↦ Some (n ∷ p.arcs) | None ↦ None ])
    with_walk None none = λ back c. none 0 (record { start = a.to; arcs = back }) (as_walk back c)
    with_walk (Some p) walk =
        record {
          back = p.arcs;
          is = refl;
          closes = record {
            arc = a;
            is = item_of_map arc_of xs n x is;
            is_marked = mark;
            leads = subst (λ b. LeadsAlong arcs a.to p.arcs b) (sym (apart.0 a.from walk.is_walk.end walk.is_walk.reaches))
                (subst (λ b. LeadsAlong arcs b p.arcs walk.is_walk.end) (the_start walk.place p.start walk.is_walk.from_start) walk.is_walk.leads);
          };
          shortest = λ other c. not_longer walk.place p other (walk.least 0 (record { start = a.to; arcs = other }) (as_walk other c));
        }

    -- a marked arc with the least walk back
    pub marked_closes : ClosesWith n (elim (least_walk same arcs (same a.from) (a.to ∷ [])) [ Some p ↦ Some (n ∷ p.arcs) | None ↦ None ])
    marked_closes = with_walk _ (least_walk_is same apart arcs (same a.from) (a.to ∷ []))

  -- from number n on: no arc closes a cycle, or the first that does
  record From (n : ℕ) (c : List ℕ) : Type 0 where
    number : ℕ
    above : n ≤ number
    least : Least number c
    earliest : (m : ℕ) (other : List ℕ) → n ≤ m → Closing m other → number ≤ m

  abbrev AnyFrom : ℕ → Option (List ℕ) → Type 0
  AnyFrom n None = (m : ℕ) (back : List ℕ) → n ≤ m → Closing m back → ⊥
  AnyFrom n (Some c) = From n c

  up : (n m : ℕ) → n < m → n + 1 ≤ m
  up n m h = omega arith

  both : (n m : ℕ) → n ≤ m → m ≤ n → m ≡ n
  both n m p q = omega arith

  next : (n : ℕ) (o r : Option (List ℕ)) → ClosesWith n o → AnyFrom (n + 1) r → AnyFrom n (elim o [ Some c ↦ Some c | None ↦ r ])
  next n None None none h = λ m back le c. elim (cases_lt n m) [
    | inl lt ↦ h m back (up n m lt) c
    | inr ge ↦ none back (subst (λ k. Closing k back) (both n m le ge) c)
  ]
  next n None (Some c) none h =
      record {
        number = h.number;
        above = less h.number h.above;
        least = h.least;
        earliest = λ m other le k. elim (cases_lt n m) [
          | inl lt ↦ h.earliest m other (up n m lt) k
          | inr ge ↦ absurd (none other (subst (λ z. Closing z other) (both n m le ge) k))
        ];
      }
    where
      less : (m : ℕ) → n + 1 ≤ m → n ≤ m
      less m h = omega arith
  next n (Some c) r least h = record { number = n; above = here n; least = least; earliest = λ m other le k. le }
    where
      here : (m : ℕ) → m ≤ m
      here m = omega arith

  -- what the first gives, by its own equations, where each gives the least cycle that it begins
  module _ (closing : ℕ → A → Option (List ℕ)) (first : ℕ → List A → Option (List ℕ)) (closes : (n : ℕ) (x : A) → item_at xs n ≡ Some x → ClosesWith n (closing n x))
      (ends : (n : ℕ) → first n [] ≡ None) (goes : (n : ℕ) (x : A) (rest : List A) → first n (x ∷ rest) ≡ elim (closing n x) [ Some c ↦ Some c | None ↦ first (n + 1) rest ]) where
    any_from : (n : ℕ) (rest : List A) → ((i : ℕ) → item_at rest i ≡ item_at xs (n + i)) → AnyFrom n (first n rest)
    any_from n [] same = subst (λ o. AnyFrom n o) (sym (ends n)) (λ m back le c.
        let (x, is, _) = item_map arc_of xs m c.arc c.is in
        absurd (nothing (same (m - n) ∙ ap (item_at xs) (whole_of m le) ∙ is)))
      where
        whole_of : (m : ℕ) → n ≤ m → n + (m - n) ≡ m
        whole_of m h = omega arith

        nothing : {x : A} → None ≡ Some x → ⊥
        nothing h = cc
    any_from n (x ∷ rest) same =
        subst (λ o. AnyFrom n o) (sym (goes n x rest))
        (next n (closing n x) (first (n + 1) rest) (closes n x (ap (item_at xs) (sym (add-zero n)) ∙ sym (same 0)))
        (any_from (n + 1) rest (λ i. same (suc i) ∙ ap (item_at xs) (shift i))))
      where
        shift : (i : ℕ) → n + suc i ≡ (n + 1) + i
        shift i = omega arith

    low : (n : ℕ) → 0 ≤ n
    low n = omega arith

    least_of : (o : Option (List ℕ)) → AnyFrom 0 o → MatchOption o (HasNoCycle arcs marked) (IsLeastCycle arcs marked)
    least_of None h = λ n back c. h n back (low n) c
    least_of (Some c) h =
        record { first = h.number; back = h.least.back; is = h.least.is; closes = h.least.closes; earliest = λ n other k. h.earliest n other (low n) k; shortest = h.least.shortest }

    pub first_is_least : MatchOption (first 0 xs) (HasNoCycle arcs marked) (IsLeastCycle arcs marked)
    first_is_least = least_of (first 0 xs) (any_from 0 xs (λ i. ap (item_at xs) (sym (none i))))
      where
        none : (i : ℕ) → 0 + i ≡ i
        none i = omega arith
