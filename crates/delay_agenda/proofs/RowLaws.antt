-- Pairs in a tree and in a row, and the set of both.
use Rattle.std.proofs.Common.{◌≡◌, ℕ, ◌+◌, ◌<◌, ◌≤◌, ◌⊎◌, inl, inr, ◌++◌, Bool, true, false, cond, ◌&&◌, ◌||◌, not, T, List, [], ◌∷◌, length, filter, refl, sym, ◌∙◌, ap, subst, arith}
use Rattle.std.proofs.lemmas.List.{length-map}
use Rattle.std.proofs.lemmas.List.Folds.{list_any-append}
use Rattle.std.specs.List.{AllByRecursion}
use Rattle.std.specs.List.Sorted.{IsStrictlySortedBy}
use Rattle.std.specs.Cmp.{Equal-is, eq_by_cmp_equiv}
use Rattle.std.specs.Ordering.{eq_by_cmp, is_eq, is_lt}
use Rattle.std.specs.declared.cmp.Ordering.TheVariants.{Less, Equal}
use Rattle.std.specs.FinMap.Entries.{below_all, is_sorted-put, length-put}
use Rattle.gt_base.specs.declared.events.Prioritised.{Prioritised}
use Rattle.gt_base.specs.Sets.{set_of, set_of_rising, pairs, has, members, those, with_member, none, Rises}
use Rattle.gt_base.proofs.Rising.{has-set_of_rising, filter_rises, set_of_filtered, left_of, right_of, less_of}
use Rattle.gt_base.proofs.SetLaws.{same_sets, entries-checked, members-set_of_rising, has-none, eq_itself, has-set_of, has-with_member, has-those}
use Rattle.delay_agenda.specs.declared.pairs.Pending.{Pending}
use Rattle.delay_agenda.specs.Due.{pending_cmp, pending_at, is_due_at, count_due, IsLeastDue, Pendings}
use Rattle.delay_agenda.specs.Rows.{due_in, lists_event, new_in, new_due_in, stands_in, pairs_of, BothRise}
use Rattle.delay_agenda.proofs.DueLaws.{stands_due}
use Rattle.delay_agenda.proofs.PendingLaws.{pending_cmp_total, pending_cmp-IsAntisymmetric}

pub or_or : (a b c : Bool) → ((a || b) || c) ≡ (a || (b || c))
or_or true b c = refl
or_or false b c = refl

pub or_true : (a b : Bool) → b ≡ true → (a || b) ≡ true
or_true true b e = refl
or_true false b e = e

and_true : (a : Bool) → (a && true) ≡ a
and_true true = refl
and_true false = refl

and_false : (a : Bool) → (a && false) ≡ false
and_false true = refl
and_false false = refl

true-not-false : true ≡ false → ⊥
true-not-false e = cc

pub or_and : (a b f : Bool) → ((a && f) || (b && f)) ≡ ((a || b) && f)
or_and true true f = elim f as (λ f. (f || f) ≡ f) [ true ↦ refl | false ↦ refl ]
or_and true false f = elim f as (λ f. (f || false) ≡ f) [ true ↦ refl | false ↦ refl ]
or_and false b f = refl

both : (a b : Bool) → T a → T b → T (a && b)
both true b g h = h
both false b g h = absurd g

-- a pair that ties with another is that
pub tied : (q k : Pending) → eq_by_cmp pending_cmp q k ≡ true → q ≡ k
tied q k e = pending_cmp-IsAntisymmetric q k ((Equal-is (pending_cmp q k)).0 e)

pub same : (s t : Pendings) → ((q : Pending) → has s q ≡ has t q) → s ≡ t
same = same_sets pending_cmp_total pending_cmp-IsAntisymmetric

-- in one of both
pub has-pairs : (tree row : List Pending) (q : Pending) → has (pairs_of tree row) q ≡ (stands_in row q || stands_in tree q)
unfolding pairs_of
has-pairs tree row q = has-set_of pending_cmp_total (row ++ tree) q ∙ list_any-append (eq_by_cmp pending_cmp q) row tree

pub none_rise : BothRise [] []
none_rise = record { tree_rises = tt; row_rises = tt }

pub none_of_none : pairs_of [] [] ≡ none
unfolding pairs_of
none_of_none = refl

-- ---- in order
below_by : (k : Pending) (ks : List Pending) → AllByRecursion (λ y. pending_cmp k y ≡ Less) ks → T (below_all pending_cmp k (pairs ks))
below_by k [] h = tt
below_by k (x ∷ xs) h = both (is_lt (pending_cmp k x)) _ (subst (λ r. T (is_lt r)) (sym h.0) tt) (below_by k xs h.1)

-- the keys of a tree
pub tree_rises : (ks : List Pending) → IsStrictlySortedBy pending_cmp ks → Rises pending_cmp ks
unfolding IsStrictlySortedBy
tree_rises [] h = tt
tree_rises (k ∷ ks) h = both (below_all pending_cmp k (pairs ks)) _ (below_by k ks h.0) (tree_rises ks h.1)

-- who stands before all of a list does not stand in it
first_absent : (k : Pending) (ks : List Pending) → T (below_all pending_cmp k (pairs ks)) → stands_in ks k ≡ false
first_absent k [] h = refl
first_absent k (x ∷ xs) h =
    ap (λ o. is_eq o || stands_in xs k) (less_of (pending_cmp k x) (left_of (is_lt (pending_cmp k x)) _ h))
    ∙ first_absent k xs (right_of (is_lt (pending_cmp k x)) _ h)

below_front : (x : Pending) (ks : List Pending) (k : Pending) → T (below_all pending_cmp x (pairs (ks ++ k ∷ []))) → T (below_all pending_cmp x (pairs ks))
below_front x [] k h = tt
below_front x (y ∷ ys) k h = both (is_lt (pending_cmp x y)) _ (left_of (is_lt (pending_cmp x y)) _ h) (below_front x ys k (right_of (is_lt (pending_cmp x y)) _ h))

front_rises : (ks : List Pending) (k : Pending) → Rises pending_cmp (ks ++ k ∷ []) → Rises pending_cmp ks
front_rises [] k h = tt
front_rises (x ∷ xs) k h = both (below_all pending_cmp x (pairs xs)) _ (below_front x xs k (left_of (below_all pending_cmp x (pairs (xs ++ k ∷ []))) _ h)) (front_rises xs k (right_of (below_all pending_cmp x (pairs (xs ++ k ∷ []))) _ h))

-- ---- those that pass a test
module _ (p : Pending → Bool) where
  alike : (q y : Pending) → pending_cmp q y ≡ Equal → p y ≡ p q
  alike q y e = ap p (sym (pending_cmp-IsAntisymmetric q y e))

  kept : (ks : List Pending) (q : Pending) → Rises pending_cmp ks → stands_in (filter p ks) q ≡ (stands_in ks q && p q)
  kept ks q h =
      sym (has-set_of_rising pending_cmp_total (filter p ks) q (filter_rises pending_cmp_total p ks h)) ∙ ap (λ s. has s q) (set_of_filtered pending_cmp_total p ks h)
      ∙ has-those pending_cmp_total (set_of_rising ks) p q (alike q) ∙ ap (λ b. b && p q) (has-set_of_rising pending_cmp_total ks q h)

  pub kept_rise : (tree row : List Pending) → BothRise tree row → BothRise (filter p tree) (filter p row)
  kept_rise tree row r = record {
    tree_rises = filter_rises pending_cmp_total p tree r.tree_rises;
    row_rises = filter_rises pending_cmp_total p row r.row_rises;
  }

  pub kept_set : (tree row : List Pending) → BothRise tree row → pairs_of (filter p tree) (filter p row) ≡ those (pairs_of tree row) p
  kept_set tree row r = same _ _ (λ q.
      has-pairs (filter p tree) (filter p row) q ∙ ap (λ b. b || stands_in (filter p tree) q) (kept row q r.row_rises)
      ∙ ap (λ b. (stands_in row q && p q) || b) (kept tree q r.tree_rises) ∙ or_and (stands_in row q) (stands_in tree q) (p q)
      ∙ ap (λ b. b && p q) (sym (has-pairs tree row q)) ∙ sym (has-those pending_cmp_total (pairs_of tree row) p q (alike q)))

-- ---- how many
pub length-with : (s : Pendings) (k : Pending) → has s k ≡ false → length (members (with_member s k)) ≡ length (members s) + 1
unfolding has members with_member
length-with s k e =
    length-map _ _ ∙ ap length (entries-checked _ _ refl s (is_sorted-put pending_cmp pending_cmp_total k tt s.entries s.ascending))
    ∙ length-put pending_cmp pending_cmp_total k tt s.entries s.ascending
    ∙ ap (λ b. cond b (length s.entries) (length s.entries + 1)) e
    ∙ ap (λ n. n + 1) (sym (length-map s.entries (λ x. x.0)))

-- who stands there already changes nothing
pub in_tree : (tree row : List Pending) (k : Pending) → stands_in tree k ≡ true → with_member (pairs_of tree row) k ≡ pairs_of tree row
in_tree tree row k there = same _ _ (λ q. has-with_member pending_cmp_total (pairs_of tree row) k q ∙ by q (eq_by_cmp pending_cmp q k) refl)
  where
    by : (q : Pending) (b : Bool) → eq_by_cmp pending_cmp q k ≡ b → (b || has (pairs_of tree row) q) ≡ has (pairs_of tree row) q
    by q true e = sym (ap (has (pairs_of tree row)) (tied q k e) ∙ has-pairs tree row k ∙ or_true (stands_in row k) _ there)
    by q false e = refl

pub count_pairs : (tree row : List Pending) → BothRise tree row → length (members (pairs_of tree row)) ≡ length tree + length (new_in tree row)
unfolding pairs_of
count_pairs tree [] r =
    ap (λ s. length (members s)) (same (set_of tree) (set_of_rising tree) (λ q. has-set_of pending_cmp_total tree q ∙ sym (has-set_of_rising pending_cmp_total tree q r.tree_rises)))
    ∙ ap length (members-set_of_rising pending_cmp tree r.tree_rises) ∙ omega arith
count_pairs tree (k ∷ row) r =
    let below : T (below_all pending_cmp k (pairs row)) = left_of (below_all pending_cmp k (pairs row)) _ r.row_rises in
    let rest : BothRise tree row = record { tree_rises = r.tree_rises; row_rises = right_of (below_all pending_cmp k (pairs row)) _ r.row_rises } in
    let fewer = count_pairs tree row rest in
    elim (stands_in tree k) as (λ b. stands_in tree k ≡ b → length (members (with_member (pairs_of tree row) k)) ≡ length tree + length (cond (not b) (k ∷ new_in tree row) (new_in tree row))) [
      | true ↦ λ there. ap (λ s. length (members s)) (in_tree tree row k there) ∙ fewer
      | false ↦ λ there.
          let more = length-with (pairs_of tree row) k (has-pairs tree row k ∙ ap (λ b. b || stands_in tree k) (first_absent k row below) ∙ there) in
          omega (arith, fewer, more)
    ] refl

-- of those that are due, the tree lacks the same
new_due : (tree row : List Pending) (t : ℕ) → Rises pending_cmp tree → new_in (due_in tree t) (due_in row t) ≡ new_due_in tree row t
new_due tree [] t h = refl
new_due tree (x ∷ xs) t h =
    elim (is_due_at t x) as (λ b. is_due_at t x ≡ b → new_in (due_in tree t) (cond b (x ∷ due_in xs t) (due_in xs t)) ≡ cond (b && not (stands_in tree x)) (x ∷ new_due_in tree xs t) (new_due_in tree xs t)) [
      | true ↦ λ due.
          ap (λ b. cond (not b) (x ∷ new_in (due_in tree t) (due_in xs t)) (new_in (due_in tree t) (due_in xs t))) (kept (is_due_at t) tree x h ∙ ap (λ b. stands_in tree x && b) due ∙ and_true (stands_in tree x))
          ∙ ap (λ ks. cond (not (stands_in tree x)) (x ∷ ks) ks) (new_due tree xs t h)
      | false ↦ λ _. new_due tree xs t h
    ] refl

pub count_due_pairs : (tree row : List Pending) (t : ℕ) → BothRise tree row → count_due (pairs_of tree row) t ≡ length (due_in tree t) + length (new_due_in tree row t)
count_due_pairs tree row t r =
    ap (λ s. length (members s)) (sym (kept_set (is_due_at t) tree row r)) ∙ count_pairs _ _ (kept_rise (is_due_at t) tree row r)
    ∙ ap (λ ks. length (due_in tree t) + length ks) (new_due tree row t r.tree_rises)

pub then_empty : (tree row : List Pending) → pairs_of tree row ≡ none → length tree + length row ≡ 0
then_empty [] [] e = refl
then_empty (x ∷ xs) row e =
    let there : has (pairs_of (x ∷ xs) row) x ≡ true = has-pairs (x ∷ xs) row x ∙ or_true (stands_in row x) _ (ap (λ b. b || stands_in xs x) (eq_itself pending_cmp_total x)) in
    let absent : has (pairs_of (x ∷ xs) row) x ≡ false = ap (λ s. has s x) e ∙ has-none pending_cmp x in
    absurd (true-not-false (sym there ∙ absent))
then_empty [] (x ∷ xs) e =
    let there : has (pairs_of [] (x ∷ xs)) x ≡ true = has-pairs [] (x ∷ xs) x ∙ ap (λ b. (b || stands_in xs x) || false) (eq_itself pending_cmp_total x) in
    let absent : has (pairs_of [] (x ∷ xs)) x ≡ false = ap (λ s. has s x) e ∙ has-none pending_cmp x in
    absurd (true-not-false (sym there ∙ absent))

-- ---- what is due
-- an event that is told of the row is due then, and the tree lacks its pair
new_told : (tree row : List Pending) (t : ℕ) (e : Prioritised) → Rises pending_cmp row → lists_event (new_due_in tree row t) e ≡ (stands_in row (pending_at t e) && not (stands_in tree (pending_at t e)))
new_told tree row t e h = ap (λ ks. lists_event ks e) (sym (due_new row)) ∙ sym (stands_due t e (new_in tree row)) ∙ kept (λ p. not (stands_in tree p)) row (pending_at t e) h
  where
    due_new : (ks : List Pending) → due_in (new_in tree ks) t ≡ new_due_in tree ks t
    due_new [] = refl
    due_new (x ∷ xs) =
        elim (stands_in tree x) as (λ b. due_in (cond (not b) (x ∷ new_in tree xs) (new_in tree xs)) t ≡ cond (is_due_at t x && not b) (x ∷ new_due_in tree xs t) (new_due_in tree xs t)) [
          | true ↦ due_new xs ∙ ap (λ b. cond b (x ∷ new_due_in tree xs t) (new_due_in tree xs t)) (sym (and_false (is_due_at t x)))
          | false ↦ ap (λ ks. cond (is_due_at t x) (x ∷ ks) ks) (due_new xs) ∙ ap (λ b. cond b (x ∷ new_due_in tree xs t) (new_due_in tree xs t)) (sym (and_true (is_due_at t x)))
        ]

-- an event that the tree and the row told is one that the set has
pub told_both : (tree row : List Pending) (t : ℕ) (e : Prioritised) (x y z : Bool) → Rises pending_cmp row
    → y ≡ (x || lists_event (due_in tree t) e) → z ≡ (y || lists_event (new_due_in tree row t) e) → z ≡ (x || has (pairs_of tree row) (pending_at t e))
told_both tree row t e x y z h first second =
    second ∙ ap (λ b. b || lists_event (new_due_in tree row t) e) (first ∙ ap (λ b. x || b) (sym (stands_due t e tree)))
    ∙ ap (λ b. (x || stands_in tree (pending_at t e)) || b) (new_told tree row t e h) ∙ around x (stands_in tree (pending_at t e)) (stands_in row (pending_at t e))
    ∙ ap (λ b. x || b) (sym (has-pairs tree row (pending_at t e)))
  where
    around : (x a b : Bool) → ((x || a) || (b && not a)) ≡ (x || (b || a))
    around true a b = refl
    around false true true = refl
    around false true false = refl
    around false false true = refl
    around false false false = refl

-- a pair of one that is due no later than any of both is due first
pub least_of : (tree row : List Pending) (p : Pending) → (stands_in row p || stands_in tree p) ≡ true
    → ((q : Pending) → stands_in row q ≡ true → p.due ≤ q.due) → ((q : Pending) → stands_in tree q ≡ true → p.due ≤ q.due) → IsLeastDue (pairs_of tree row) p.due
least_of tree row p there f g = record {
  event = p.event;
  is_due = has-pairs tree row p ∙ there;
  least = λ q h. either q (stands_in row q) (stands_in tree q) (f q) (g q) (sym (has-pairs tree row q) ∙ h);
}
  where
    either : (q : Pending) (a b : Bool) → ((a ≡ true) → p.due ≤ q.due) → ((b ≡ true) → p.due ≤ q.due) → (a || b) ≡ true → p.due ≤ q.due
    either q true b f g e = f refl
    either q false b f g e = g e

abbrev IsLeastIn : List Pending → Pending → Type 0
IsLeastIn ks p = (stands_in ks p ≡ true) × ((q : Pending) → stands_in ks q ≡ true → p.due ≤ q.due)

pub least_of_tree : (tree row : List Pending) (p : Pending) → IsLeastIn tree p → row ≡ [] → IsLeastDue (pairs_of tree row) p.due
least_of_tree tree row p a e = rw e (least_of tree [] p a.0 (λ q h. cc) a.1)

pub least_of_row : (tree row : List Pending) (p : Pending) → IsLeastIn row p → tree ≡ [] → IsLeastDue (pairs_of tree row) p.due
least_of_row tree row p a e = rw e (least_of [] row p (ap (λ b. b || false) a.0) a.1 (λ q h. cc))

pub least_of_both : (tree row : List Pending) (p q : Pending) (n : ℕ) → IsLeastIn tree p → IsLeastIn row q → ((p.due ≤ q.due) × (n ≡ p.due)) ⊎ ((q.due < p.due) × (n ≡ q.due)) → IsLeastDue (pairs_of tree row) n
least_of_both tree row p q n a b (inl h) = rw h.1 (least_of tree row p (or_true (stands_in row p) _ a.0) (λ x there. omega (arith, h.0, b.1 x there)) a.1)
least_of_both tree row p q n a b (inr h) = rw h.1 (least_of tree row q (ap (λ c. c || stands_in tree q) b.0) b.1 (λ x there. omega (arith, h.0, a.1 x there)))

pub no_items : (ks : List Pending) → (0 < length ks → false ≡ true) → ks ≡ []
no_items [] e = refl
no_items (x ∷ xs) e = let there = e (omega arith) in cc

pub both_empty : (tree row : List Pending) → tree ≡ [] → row ≡ [] → pairs_of tree row ≡ none
both_empty tree row t r = rw (t, r) none_of_none

-- ---- a pair is put in
-- into the row
module _ (tree row new : List Pending) (k : Pending) (r : BothRise tree row) (h : Rises pending_cmp new) (put : set_of_rising {R = pending_cmp} new ≡ with_member (set_of_rising row) k) where
  listed : (q : Pending) → stands_in new q ≡ (eq_by_cmp pending_cmp q k || stands_in row q)
  listed q =
      sym (has-set_of_rising pending_cmp_total new q h) ∙ ap (λ s. has s q) put ∙ has-with_member pending_cmp_total (set_of_rising row) k q
      ∙ ap (λ b. eq_by_cmp pending_cmp q k || b) (has-set_of_rising pending_cmp_total row q r.row_rises)

  pub put_set : pairs_of tree new ≡ with_member (pairs_of tree row) k
  put_set = same _ _ (λ q.
      has-pairs tree new q ∙ ap (λ b. b || stands_in tree q) (listed q) ∙ or_or (eq_by_cmp pending_cmp q k) (stands_in row q) (stands_in tree q)
      ∙ ap (λ b. eq_by_cmp pending_cmp q k || b) (sym (has-pairs tree row q)) ∙ sym (has-with_member pending_cmp_total (pairs_of tree row) k q))

-- whether a pair is there
pub in_tree_or_row : (tree row : List Pending) (k : Pending) (new there : Bool) → Rises pending_cmp row → new ≡ not (stands_in tree k) → new ≡ true → there ≡ has (set_of_rising {R = pending_cmp} row) k → there ≡ has (pairs_of tree row) k
in_tree_or_row tree row k new there h is fresh found =
    found ∙ has-set_of_rising pending_cmp_total row k h ∙ sym (has-pairs tree row k ∙ around (stands_in row k) (stands_in tree k) (sym is ∙ fresh))
  where
    around : (a b : Bool) → not b ≡ true → (a || b) ≡ a
    around true b e = refl
    around false true e = cc
    around false false e = refl

pub in_the_tree : (tree row : List Pending) (k : Pending) (new : Bool) → new ≡ not (stands_in tree k) → new ≡ false → true ≡ has (pairs_of tree row) k
in_the_tree tree row k new is out = sym (has-pairs tree row k ∙ or_true (stands_in row k) _ (around (stands_in tree k) (sym is ∙ out)))
  where
    around : (b : Bool) → not b ≡ false → b ≡ true
    around true e = refl
    around false e = cc

-- a pair goes into the tree
pub inserted_set : (tree row tree' : List Pending) (k : Pending) → ((q : Pending) → stands_in tree' q ≡ cond (eq_by_cmp pending_cmp k q) true (stands_in tree q)) → pairs_of tree' row ≡ with_member (pairs_of tree row) k
inserted_set tree row tree' k put = same _ _ (λ q.
    has-pairs tree' row q ∙ ap (λ b. stands_in row q || b) (put q ∙ ap (λ b. cond b true (stands_in tree q)) ((eq_by_cmp_equiv pending_cmp_total).symm k q))
    ∙ around (stands_in row q) (eq_by_cmp pending_cmp q k) (stands_in tree q) ∙ ap (λ b. eq_by_cmp pending_cmp q k || b) (sym (has-pairs tree row q)) ∙ sym (has-with_member pending_cmp_total (pairs_of tree row) k q))
  where
    around : (r e t : Bool) → (r || cond e true t) ≡ (e || (r || t))
    around true true t = refl
    around true false t = refl
    around false true t = refl
    around false false t = refl

-- the last of the row moves to the tree
module _ (tree row tree' row' : List Pending) (k : Pending) (r : BothRise tree row) (last : row ≡ row' ++ k ∷ []) (h : Rises pending_cmp tree')
    (put : (q : Pending) → stands_in tree' q ≡ cond (eq_by_cmp pending_cmp k q) true (stands_in tree q)) where
  in_row : (q : Pending) → stands_in row q ≡ (stands_in row' q || (eq_by_cmp pending_cmp q k || false))
  in_row q = ap (λ ks. stands_in ks q) last ∙ list_any-append (eq_by_cmp pending_cmp q) row' (k ∷ [])

  in_new : (q : Pending) → stands_in tree' q ≡ (eq_by_cmp pending_cmp q k || stands_in tree q)
  in_new q = put q ∙ ap (λ b. cond b true (stands_in tree q)) ((eq_by_cmp_equiv pending_cmp_total).symm k q) ∙ by (eq_by_cmp pending_cmp q k) (stands_in tree q)
    where
      by : (a b : Bool) → cond a true b ≡ (a || b)
      by true b = refl
      by false b = refl

  pub moved_rise : BothRise tree' row'
  moved_rise = record {
    tree_rises = h;
    row_rises = front_rises row' k (subst (Rises pending_cmp) last r.row_rises);
  }

  pub moved_set : pairs_of tree' row' ≡ pairs_of tree row
  moved_set = same _ _ (λ q.
      has-pairs tree' row' q ∙ ap (λ b. stands_in row' q || b) (in_new q) ∙ around (stands_in row' q) (eq_by_cmp pending_cmp q k) (stands_in tree q)
      ∙ ap (λ b. b || stands_in tree q) (sym (in_row q)) ∙ sym (has-pairs tree row q))
    where
      around : (a b c : Bool) → (a || (b || c)) ≡ ((a || (b || false)) || c)
      around true b c = refl
      around false true c = refl
      around false false c = refl
