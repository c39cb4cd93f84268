-- A search by halves in a rising list, and what an item put in or taken out makes of the list's set.
use Rattle.std.proofs.Common.{◌≡◌, ℕ, zero, suc, ◌<◌, ◌≤◌, Bool, true, false, cond, ◌&&◌, ◌||◌, T, List, [], ◌∷◌, length, insert, filter, get_or, refl, sym, ◌∙◌, ap, subst, arith}
use Rattle.std.specs.List.{list_any, AllWithin, HoldsAt}
use Rattle.std.specs.List.Sorted.{IsNonDecreasingBy, IsSearchInRange, IsBinarySearchResult}
use Rattle.std.specs.Prelude.{Result, Ok, Err, IfOk, IfErr}
use Rattle.std.specs.Ordering.{is_lt, is_eq, ordering_reverse, ordering_index, eq_by_cmp}
use Rattle.std.specs.Cmp.{IsTotalOrder}
use Rattle.std.specs.declared.cmp.Ordering.{Ordering}
use Rattle.std.specs.declared.cmp.Ordering.TheVariants.{Less, Equal, Greater}
use Rattle.std.specs.FinMap.Entries.{put, is_sorted, below_all, where_key, by_order, is_sorted-put, is_sorted-where_key}
use Rattle.gt_base.specs.Sets.{same_entries_set, pairs, set_of_rising, checked, with_member, those, has, Rises, GoesIn, none}
use Rattle.gt_base.proofs.SetLaws.{entries-checked, has-members, members-set_of_rising}

pub less_of : (r : Ordering) → T (is_lt r) → r ≡ Less
less_of Less h = refl
less_of Equal h = absurd h
less_of Greater h = absurd h

pub left_of : (a b : Bool) → T (a && b) → T a
left_of true b h = tt
left_of false b h = absurd h

pub right_of : (a b : Bool) → T (a && b) → T b
right_of true b h = h
right_of false b h = absurd h

at_most_two : (r : Ordering) → ordering_index r ≤ 2
at_most_two Less = omega arith
at_most_two Equal = omega arith
at_most_two Greater = omega arith

module _ {K : Type 0} {R : K → K → Ordering} (o : IsTotalOrder R) where
  pub turned : (x y : K) (r : Ordering) → R x y ≡ r → R y x ≡ ordering_reverse r
  turned x y r e = o.antisymm y x ∙ ap ordering_reverse e

  -- what is below an item is below what ties with it
  below_tied : (x y k : K) → R x y ≡ Less → R y k ≡ Equal → R x k ≡ Less
  below_tied x y k lt e = turned k x Greater (sym (o.congr y k x e) ∙ turned x y Less lt)

  pub below_at : (x : K) (ks : List K) → T (below_all R x (pairs ks)) → (i : ℕ) (d : K) → i < length ks → R x (get_or ks i d) ≡ Less
  below_at x [] h i d lt = absurd (omega (arith, lt))
  below_at x (y ∷ ys) h zero d lt = less_of _ (left_of (is_lt (R x y)) _ h)
  below_at x (y ∷ ys) h (suc i) d lt = below_at x ys (right_of (is_lt (R x y)) _ h) i d (omega (arith, lt))

  index_rises : (x y k : K) → R x y ≡ Less → ordering_index (R x k) ≤ ordering_index (R y k)
  index_rises x y k lt = by (R y k) refl
    where
      by : (r : Ordering) → R y k ≡ r → ordering_index (R x k) ≤ ordering_index r
      by Less e = let is : ordering_index (R x k) ≡ 0 = ap ordering_index (o.trans x y k lt e) in omega arith
      by Equal e = let is : ordering_index (R x k) ≡ 0 = ap ordering_index (below_tied x y k lt e) in omega arith
      by Greater e = at_most_two (R x k)

  -- the answers of a search for k do not fall
  pub answers_rise : (k : K) (ks : List K) → Rises R ks → IsNonDecreasingBy (λ y. ordering_index (R y k)) ks
  answers_rise k [] h i j d le lt = absurd (omega (arith, lt))
  answers_rise k (x ∷ xs) h zero zero d le lt = omega arith
  answers_rise k (x ∷ xs) h zero (suc j) d le lt = index_rises x _ k (below_at x xs (left_of (below_all R x (pairs xs)) _ h) j d (omega (arith, lt)))
  answers_rise k (x ∷ xs) h (suc i) zero d le lt = absurd (omega (arith, le))
  answers_rise k (x ∷ xs) h (suc i) (suc j) d le lt = answers_rise k xs (right_of (below_all R x (pairs xs)) _ h) i j d (omega (arith, le)) (omega (arith, lt))

  -- the list with the item at its place, unless it is there
  abbrev pub placed : K → List K → List K
  placed e [] = e ∷ []
  placed e (x ∷ xs) = by_order (R e x) (e ∷ x ∷ xs) (x ∷ xs) (x ∷ placed e xs)

  pairs_placed : (e : K) (ks : List K) → pairs (placed e ks) ≡ put R e tt (pairs ks)
  pairs_placed e [] = refl
  pairs_placed e (x ∷ xs) =
      elim (R e x) as (λ r. pairs (by_order r (e ∷ x ∷ xs) (x ∷ xs) (x ∷ placed e xs)) ≡ by_order r ((e, tt) ∷ (x, tt) ∷ pairs xs) ((x, tt) ∷ pairs xs) ((x, tt) ∷ put R e tt (pairs xs))) [
        | Less ↦ refl
        | Equal ↦ refl
        | Greater ↦ ap (λ es. (x, tt) ∷ es) (pairs_placed e xs)
      ]

  placed_rises : (e : K) (ks : List K) → Rises R ks → Rises R (placed e ks)
  placed_rises e ks h = subst (λ es. T (is_sorted R es)) (sym (pairs_placed e ks)) (is_sorted-put R o e tt (pairs ks) h)

  pub entries-set_of_rising : (ks : List K) → Rises R ks → (set_of_rising {R = R} ks).entries ≡ pairs ks
  unfolding set_of_rising
  entries-set_of_rising ks h = entries-checked (pairs ks) _ refl none h

  set_of_placed : (e : K) (ks : List K) → Rises R ks → set_of_rising {R = R} (placed e ks) ≡ with_member (set_of_rising ks) e
  unfolding with_member
  set_of_placed e ks h =
      let here = entries-set_of_rising ks h in
      same_entries_set _ _
      (entries-set_of_rising (placed e ks) (placed_rises e ks h) ∙ pairs_placed e ks
      ∙ ap (put R e tt) (sym here)
      ∙ sym (entries-checked (put R e tt (set_of_rising {R = R} ks).entries) _ refl (set_of_rising ks) (subst (λ es. T (is_sorted R (put R e tt es))) (sym here) (is_sorted-put R o e tt (pairs ks) h))))

  -- between the lesser and the greater it goes in
  inserted_is_placed : (k : K) (ks : List K) (i : ℕ) → i ≤ length ks → AllWithin (λ y. R y k ≡ Less) ks 0 i → AllWithin (λ y. R y k ≡ Greater) ks i (length ks) → placed k ks ≡ insert ks i k
  inserted_is_placed k [] zero le front back = refl
  inserted_is_placed k [] (suc i) le front back = absurd (omega (arith, le))
  inserted_is_placed k (x ∷ xs) zero le front back =
      ap (λ r. by_order r (k ∷ x ∷ xs) (x ∷ xs) (x ∷ placed k xs)) (turned x k Greater (back 0 x (omega arith) (omega arith)))
  inserted_is_placed k (x ∷ xs) (suc i) le front back =
      ap (λ r. by_order r (k ∷ x ∷ xs) (x ∷ xs) (x ∷ placed k xs)) (turned x k Less (front 0 x (omega arith) (omega arith)))
      ∙ ap (λ ys. x ∷ ys) (inserted_is_placed k xs i (omega (arith, le)) (λ j d low high. front (suc j) d (omega arith) (omega (arith, high))) (λ j d low high. back (suc j) d (omega (arith, low)) (omega (arith, high))))

  pub none_tie : (k : K) (ks : List K) (i : ℕ) → i ≤ length ks → AllWithin (λ y. R y k ≡ Less) ks 0 i → AllWithin (λ y. R y k ≡ Greater) ks i (length ks) → list_any (eq_by_cmp R k) ks ≡ false
  none_tie k [] i le front back = refl
  none_tie k (x ∷ xs) zero le front back =
      ap (λ r. is_eq r || list_any (eq_by_cmp R k) xs) (turned x k Greater (back 0 x (omega arith) (omega arith)))
      ∙ none_tie k xs 0 (omega arith) (λ j d low high. absurd (omega (arith, high))) (λ j d low high. back (suc j) d (omega (arith, low)) (omega (arith, high)))
  none_tie k (x ∷ xs) (suc i) le front back =
      ap (λ r. is_eq r || list_any (eq_by_cmp R k) xs) (turned x k Less (front 0 x (omega arith) (omega arith)))
      ∙ none_tie k xs i (omega (arith, le)) (λ j d low high. front (suc j) d (omega arith) (omega (arith, high))) (λ j d low high. back (suc j) d (omega (arith, low)) (omega (arith, high)))

  there_is_placed : (k : K) (ks : List K) (i : ℕ) → Rises R ks → i < length ks → HoldsAt (λ y. R y k ≡ Equal) ks i → placed k ks ≡ ks
  there_is_placed k [] i h lt at = absurd (omega (arith, lt))
  there_is_placed k (x ∷ xs) zero h lt at = ap (λ r. by_order r (k ∷ x ∷ xs) (x ∷ xs) (x ∷ placed k xs)) (turned x k Equal (at x))
  there_is_placed k (x ∷ xs) (suc i) h lt at =
      ap (λ r. by_order r (k ∷ x ∷ xs) (x ∷ xs) (x ∷ placed k xs)) (turned x k Less (below_tied x (get_or xs i x) k (below_at x xs (left_of (below_all R x (pairs xs)) _ h) i x (omega (arith, lt))) (at x)))
      ∙ ap (λ ys. x ∷ ys) (there_is_placed k xs i (right_of (below_all R x (pairs xs)) _ h) (omega (arith, lt)) (λ d. at d))

  or_true : (a b : Bool) → b ≡ true → (a || b) ≡ true
  or_true true b e = refl
  or_true false b e = e

  there_ties : (k : K) (ks : List K) (i : ℕ) → i < length ks → HoldsAt (λ y. R y k ≡ Equal) ks i → list_any (eq_by_cmp R k) ks ≡ true
  there_ties k [] i lt at = absurd (omega (arith, lt))
  there_ties k (x ∷ xs) zero lt at = ap (λ r. is_eq r || list_any (eq_by_cmp R k) xs) (turned x k Equal (at x))
  there_ties k (x ∷ xs) (suc i) lt at = or_true (eq_by_cmp R k x) _ (there_ties k xs i (omega (arith, lt)) (λ d. at d))

  -- to look into a rising list's set is to look for a tie in the list
  pub has-set_of_rising : (ks : List K) (k : K) → Rises R ks → has (set_of_rising {R = R} ks) k ≡ list_any (eq_by_cmp R k) ks
  has-set_of_rising ks k h = has-members (set_of_rising ks) k ∙ ap (list_any (eq_by_cmp R k)) (members-set_of_rising R ks h)

  -- the search found a place where the item stands
  pub found : (k : K) (ks : List K) (i : ℕ) → Rises R ks → i < length ks → HoldsAt (λ y. R y k ≡ Equal) ks i
      → (has (set_of_rising {R = R} ks) k ≡ true) × (with_member (set_of_rising {R = R} ks) k ≡ set_of_rising ks)
  found k ks i h lt at =
      (has-set_of_rising ks k h ∙ there_ties k ks i lt at, sym (set_of_placed k ks h) ∙ ap (λ xs. set_of_rising {R = R} xs) (there_is_placed k ks i h lt at))

  -- the search found the place where it goes in
  pub goes_in : (k : K) (ks : List K) (i : ℕ) → Rises R ks → i ≤ length ks → AllWithin (λ y. R y k ≡ Less) ks 0 i → AllWithin (λ y. R y k ≡ Greater) ks i (length ks) → GoesIn R k ks i
  goes_in k ks i h le front back =
      let is = inserted_is_placed k ks i le front back in
      record {
        absent = has-set_of_rising ks k h ∙ none_tie k ks i le front back;
        rises = subst (Rises R) is (placed_rises k ks h);
        put_in = ap (λ xs. set_of_rising {R = R} xs) (sym is) ∙ set_of_placed k ks h;
      }

  pub search_found : (k : K) (ks : List K) (r : Result ℕ ℕ) → Rises R ks → IsSearchInRange r (length ks) → IsBinarySearchResult (λ y. R y k) ks r
      → IfOk r (λ _. (has (set_of_rising {R = R} ks) k ≡ true) × (with_member (set_of_rising {R = R} ks) k ≡ set_of_rising ks))
  search_found k ks (Ok i) h within at = found k ks i h within at
  search_found k ks (Err i) h within at = tt

  pub search_absent : (k : K) (ks : List K) (r : Result ℕ ℕ) → Rises R ks → IsSearchInRange r (length ks) → IsBinarySearchResult (λ y. R y k) ks r → IfErr r (GoesIn R k ks)
  search_absent k ks (Ok i) h within at = tt
  search_absent k ks (Err i) h within at = let parts = at (answers_rise k ks h) in goes_in k ks i h within parts.0 parts.1

  pairs_filter : (p : K → Bool) (ks : List K) → pairs (filter p ks) ≡ where_key R p (pairs ks)
  pairs_filter p [] = refl
  pairs_filter p (k ∷ ks) =
      elim (p k) as (λ b. pairs (cond b (k ∷ filter p ks) (filter p ks)) ≡ cond b ((k, tt) ∷ where_key R p (pairs ks)) (where_key R p (pairs ks))) [
        | true ↦ ap (λ es. (k, tt) ∷ es) (pairs_filter p ks)
        | false ↦ pairs_filter p ks
      ]

  pub filter_rises : (p : K → Bool) (ks : List K) → Rises R ks → Rises R (filter p ks)
  filter_rises p ks h = subst (λ es. T (is_sorted R es)) (sym (pairs_filter p ks)) (is_sorted-where_key R p (pairs ks) h)

  pub set_of_filtered : (p : K → Bool) (ks : List K) → Rises R ks → set_of_rising {R = R} (filter p ks) ≡ those (set_of_rising ks) p
  unfolding those
  set_of_filtered p ks h =
      same_entries_set _ _ (entries-set_of_rising (filter p ks) (filter_rises p ks h) ∙ pairs_filter p ks ∙ ap (where_key R p) (sym (entries-set_of_rising ks h)))

-- the set of no items
pub set_of_nothing : {K : Type 0} {R : K → K → Ordering} → set_of_rising {R = R} [] ≡ none
unfolding set_of_rising none checked
set_of_nothing = same_entries_set _ _ refl
