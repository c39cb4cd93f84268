-- What is on at first in a made policy: a list that rises.
use Rattle.std.proofs.Common.{◌≡◌, ℕ, zero, suc, ◌+◌, ◌-◌, ◌≤◌, ◌<◌, Bool, true, false, ◌&&◌, T, List, [], ◌∷◌, ◌++◌, map, refl, sym, ap, subst, append_assoc, arith}
use Rattle.std.specs.List.{range_with_len}
use Rattle.std.specs.Ordering.{is_lt, nat_cmp, ordering_then}
use Rattle.std.specs.Cmp.{nat_cmp_is}
use Rattle.std.specs.declared.cmp.Ordering.TheVariants.{Less}
use Rattle.std.specs.FinMap.Entries.{below_all}
use Rattle.gt_base.specs.Sets.{members, set_of_rising, pairs, Rises}
use Rattle.gt_base.specs.Orders.{fluent_cmp}
use Rattle.gt_base.specs.declared.events.Fluent.{Fluent}
use Rattle.gt_base.specs.declared.events.Fluent.TheVariants.{Edge}
use Rattle.gt_base.proofs.SetLaws.{members-set_of_rising}
use Rattle.gen_laws.specs.Made.{assigned_own, granted_own, opening_made}

both : (a b : Bool) → T a → T b → T (a && b)
both true b g h = h
both false b g h = absurd g

-- the first is below each of the list
abbrev Under : Fluent → List Fluent → Type 0
Under x ys = T (below_all fluent_cmp x (pairs ys))

abbrev Rising : List Fluent → Type 0
Rising xs = Rises fluent_cmp xs

under_range : (x : Fluent) (f : ℕ → Fluent) (a n : ℕ) → ((i : ℕ) → a ≤ i → fluent_cmp x (f i) ≡ Less) → Under x (map f (range_with_len a n))
under_range x f a zero on = tt
under_range x f a (suc n) on = both (is_lt (fluent_cmp x (f a))) _ (subst (λ r. T (is_lt r)) (sym (on a (omega arith))) tt) (under_range x f (a + 1) n (λ i low. on i (omega (arith, low))))

under_both : (x : Fluent) (ys zs : List Fluent) → Under x ys → Under x zs → Under x (ys ++ zs)
under_both x [] zs h k = k
under_both x (y ∷ ys) zs h k = by (is_lt (fluent_cmp x y)) h (λ m. under_both x ys zs m k)
  where
    by : (b : Bool) → T (b && below_all fluent_cmp x (pairs ys)) → (Under x ys → Under x (ys ++ zs)) → T (b && below_all fluent_cmp x (pairs (ys ++ zs)))
    by true h on = on h
    by false h on = absurd h

-- a range that rises, before a list that is above all of it
range_before : (f : ℕ → Fluent) (zs : List Fluent) → ((i j : ℕ) → i < j → fluent_cmp (f i) (f j) ≡ Less) → ((i : ℕ) → Under (f i) zs) → Rising zs → (a n : ℕ) → Rising (map f (range_with_len a n) ++ zs)
range_before f zs up under rises a zero = rises
range_before f zs up under rises a (suc n) =
    both (below_all fluent_cmp (f a) (pairs (map f (range_with_len (a + 1) n) ++ zs))) _
    (under_both (f a) (map f (range_with_len (a + 1) n)) zs (under_range (f a) f (a + 1) n (λ i low. up a i (omega (arith, low)))) (under a))
    (range_before f zs up under rises (a + 1) n)

below : (i j : ℕ) → i < j → nat_cmp i j ≡ Less
below i j lt = sym (nat_cmp_is i j Less lt)

no_more : (f : ℕ → Fluent) → ((i j : ℕ) → i < j → fluent_cmp (f i) (f j) ≡ Less) → (a n : ℕ) → Rising (map f (range_with_len a n))
no_more f up a zero = tt
no_more f up a (suc n) =
    both (below_all fluent_cmp (f a) (pairs (map f (range_with_len (a + 1) n)))) _ (under_range (f a) f (a + 1) n (λ i low. up a i (omega (arith, low)))) (no_more f up (a + 1) n)

assigned_up : (i j : ℕ) → i < j → fluent_cmp (assigned_own i) (assigned_own j) ≡ Less
assigned_up i j lt = ap (λ r. ordering_then r (nat_cmp i j)) (below i j lt)

granted_up : (i j : ℕ) → i < j → fluent_cmp (granted_own i) (granted_own j) ≡ Less
granted_up i j lt = ap (λ r. ordering_then r (nat_cmp i j)) (below i j lt)

edge_up : (i j : ℕ) → i < j → fluent_cmp (Edge i) (Edge j) ≡ Less
edge_up i j lt = below i j lt

opening_rises : (k : ℕ) → Rising (opening_made k)
opening_rises k =
    let edges : List Fluent = map (λ n. Edge n) (range_with_len 0 (k - 1)) in
    let grants : List Fluent = map granted_own (range_with_len 0 k) in
    let own : List Fluent = map assigned_own (range_with_len 0 k) in
    subst Rising (sym (append_assoc own grants edges))
    (range_before assigned_own (grants ++ edges) assigned_up
    (λ i. under_both (assigned_own i) grants edges (under_range (assigned_own i) granted_own 0 k (λ j low. refl)) (under_range (assigned_own i) (λ n. Edge n) 0 (k - 1) (λ j low. refl)))
    (range_before granted_own edges granted_up (λ i. under_range (granted_own i) (λ n. Edge n) 0 (k - 1) (λ j low. refl)) (no_more (λ n. Edge n) edge_up 0 (k - 1)) 0 k) 0 k)

pub members_made : (k : ℕ) → members (set_of_rising {R = fluent_cmp} (opening_made k)) ≡ opening_made k
members_made k = members-set_of_rising fluent_cmp (opening_made k) (opening_rises k)
