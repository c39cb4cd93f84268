-- What a word stands for, where a search among words ends, and what a word that is changed or put in makes of the set.
use Rattle.std.proofs.Common.{◌≡◌, ℕ, zero, suc, ◌+◌, ◌*◌, ◌/◌, ◌%◌, ◌^◌, ◌<◌, ◌≤◌, Bool, true, false, cond, not, ◌&&◌, ◌||◌, eqb, T, Result, Ok, Err, IfOk, IfErr, List, [], ◌∷◌, ◌++◌, map, filter, flat_map, length, take, drop, get_or, set, insert, bit_and, bit_or, All, w64, refl, sym, ◌∙◌, ap, subst, inl, inr, length-set, zero-mul, pow_pos, arith}
use Rattle.std.proofs.lemmas.List.{map-append, take-append-drop, take-map, drop-map, length-map}
use Rattle.std.proofs.lemmas.List.Elements.{All-append, All-take, All-drop}
use Rattle.std.proofs.lemmas.List.Folds.{list_any-append, list_any_at}
use Rattle.std.proofs.lemmas.List.FromFn.{length-range_with_len, get_or-range_with_len}
use Rattle.std.proofs.lemmas.Bool.{and_parts}
use Rattle.std.proofs.lemmas.Bool.Decides.{eqb_tells}
use Rattle.std.proofs.lemmas.Nat.{div-mul-add, mod-mul-add, div-add-mod', mod_below, one_shl}
use Rattle.std.proofs.lemmas.Grind.{get_or-set_at}
use Rattle.std.proofs.lemmas.Nat.Bits as bits
use Rattle.std.proofs.Math.ListN as lists
use Rattle.std.proofs.Math.Seq.{map-set_same}
use Rattle.std.specs.Int.{bit_at, bit_not}
use Rattle.std.specs.List.{list_any, range_with_len, AllWithin}
use Rattle.std.specs.List.Sorted.{IsSearchInRange, IsBinarySearchResult, IsNonDecreasingBy}
use Rattle.std.specs.Cmp.{IsTotalOrder, Equal-is, both_ways}
use Rattle.std.specs.Cmp.Derive.{both_true}
use Rattle.std.specs.FinMap.{IsAntisymmetric, nat_cmp-IsAntisymmetric}
use Rattle.std.specs.FinMap.Entries.{below_all}
use Rattle.std.specs.Ordering.{eq_by_cmp, is_eq, is_lt, nat_cmp, ordering_index}
use Rattle.std.specs.declared.cmp.Ordering.TheVariants.{Less, Equal, Greater}
use Rattle.gt_base.specs.declared.events.Fluent.{Fluent}
use Rattle.gt_base.specs.declared.events.Fluent.TheVariants.{Enabled, Assigned, Granted, Limit, Edge}
use Rattle.gt_base.specs.declared.words.Row.{Row}
use Rattle.gt_base.specs.declared.words.Row.TheVariants.{Roles, UsersOf, PermsOf, Limits, Edges}
use Rattle.gt_base.specs.declared.words.WordPlace.{WordPlace}
use Rattle.gt_base.specs.declared.words.FlagWord.{FlagWord}
use Rattle.gt_base.specs.contracts.words.WordPlaceOrd.TheImpl.Laws as place_laws
use Rattle.gt_base.specs.Orders.{fluent_cmp}
use Rattle.gt_base.specs.Sets.{has, with_member, without, pairs, Rises, GoesIn}
use Rattle.gt_base.specs.Words.{fluent_in, fluents_of, set_of_words, row_of, first_of, word_place, place_cmp, places, AreWords, WordStandsAt, GoesAt}
use Rattle.gt_base.proofs.OrderLaws.{both_tie, fluent_cmp-IsAntisymmetric}
use Rattle.gt_base.proofs.Rising.{left_of, right_of, less_of, turned, below_at, answers_rise, goes_in, has-set_of_rising}
use Rattle.gt_base.proofs.SetLaws.{eq_itself, has-set_of}
use Rattle.gt_base.proofs.SetSteps.{fluent_cmp_total}
use Rattle.gt_base.proofs.SetsAreSets.{fluents_are_sets}

-- ---- tests of lists
pub any_map : {X Y : Type 0} (p : Y → Bool) (f : X → Y) (xs : List X) → list_any p (map f xs) ≡ list_any (λ x. p (f x)) xs
any_map p f [] = refl
any_map p f (x ∷ xs) = ap (λ b. p (f x) || b) (any_map p f xs)

any_filter : {X : Type 0} (p q : X → Bool) (xs : List X) → list_any p (filter q xs) ≡ list_any (λ x. q x && p x) xs
any_filter p q [] = refl
any_filter p q (x ∷ xs) =
    elim (q x) as (λ b. list_any p (cond b (x ∷ filter q xs) (filter q xs)) ≡ ((b && p x) || list_any (λ y. q y && p y) xs)) [
      | true ↦ ap (λ b. p x || b) (any_filter p q xs)
      | false ↦ any_filter p q xs
    ]

pub any_flat_map : {X Y : Type 0} (p : Y → Bool) (f : X → List Y) (xs : List X) → list_any p (flat_map f xs) ≡ list_any (λ x. list_any p (f x)) xs
any_flat_map p f [] = refl
any_flat_map p f (x ∷ xs) = list_any-append p (f x) (flat_map f xs) ∙ ap (λ b. list_any p (f x) || b) (any_flat_map p f xs)

in_range : (p : ℕ → Bool) (a n : ℕ) → list_any p (range_with_len a n) ≡ true → (b : ℕ) × (a ≤ b) × (b < a + n) × (p b ≡ true)
in_range p a zero e = cc
in_range p a (suc n) e =
    elim (p a) as (λ c. p a ≡ c → (c || list_any p (range_with_len (a + 1) n)) ≡ true → (b : ℕ) × (a ≤ b) × (b < a + suc n) × (p b ≡ true)) [
      | true ↦ λ pa _. (a, omega arith, omega arith, pa)
      | false ↦ λ _ e. let (b, low, high, pb) = in_range p (a + 1) n e in (b, omega (arith, low), omega (arith, high), pb)
    ] refl e

of_range : (p : ℕ → Bool) (n b : ℕ) → b < n → p b ≡ true → list_any p (range_with_len 0 n) ≡ true
of_range p n b lt pb =
    list_any_at p (range_with_len 0 n) b 0 (subst (λ m. b < m) (sym (length-range_with_len 0 n)) lt)
    (subst (λ m. p m ≡ true) (let same : b ≡ get_or (range_with_len 0 n) b 0 = omega (arith, get_or-range_with_len 0 n b 0 lt) in same) pb)

pub or_false : (b : Bool) → (b || false) ≡ b
or_false true = refl
or_false false = refl

and_false : (b : Bool) → (b && false) ≡ false
and_false true = refl
and_false false = refl

and_true : (b : Bool) → (b && true) ≡ b
and_true true = refl
and_true false = refl

and_or : (a b c : Bool) → (a && (b || c)) ≡ ((a && b) || (a && c))
and_or true b c = refl
and_or false b c = refl

pub or_assoc : (a b c : Bool) → ((a || b) || c) ≡ (a || (b || c))
or_assoc true b c = refl
or_assoc false b c = refl

pub or_swap : (a b c : Bool) → (a || (b || c)) ≡ (b || (a || c))
or_swap true true c = refl
or_swap true false c = refl
or_swap false b c = refl

-- an item that is changed so that it passes also where b holds
any_set : {X : Type 0} (p : X → Bool) (b : Bool) (xs : List X) (i : ℕ) (d v : X) → i < length xs → p v ≡ (b || p (get_or xs i d)) → list_any p (set xs i v) ≡ (b || list_any p xs)
any_set p b [] i d v lt e = absurd (omega (arith, lt))
any_set p b (x ∷ xs) zero d v lt e = ap (λ c. c || list_any p xs) e ∙ or_assoc b (p x) (list_any p xs)
any_set p b (x ∷ xs) (suc i) d v lt e = ap (λ c. p x || c) (any_set p b xs i d v (omega (arith, lt)) e) ∙ or_swap (p x) b (list_any p xs)

any_insert : {X : Type 0} (p : X → Bool) (xs : List X) (i : ℕ) (v : X) → list_any p (insert xs i v) ≡ (p v || list_any p xs)
any_insert p xs i v =
    list_any-append p (take i xs) (v ∷ drop i xs) ∙ or_swap (list_any p (take i xs)) (p v) (list_any p (drop i xs))
    ∙ ap (λ b. p v || b) (sym (list_any-append p (take i xs) (drop i xs)) ∙ ap (list_any p) (take-append-drop i xs))

All-insert : {X : Type 0} (P : X → Type 0) (xs : List X) (i : ℕ) (v : X) → All P xs → P v → All P (insert xs i v)
All-insert P xs i v all one =
    All-append P (take i xs) (v ∷ drop i xs) (All-take P i xs all) (All-append P (v ∷ []) (drop i xs) (single P v one) (All-drop P i xs all))
  where
    single : {X : Type 0} (P : X → Type 0) (v : X) → P v → All P (v ∷ [])
    single P v one zero d lt = one
    single P v one (suc k) d lt = absurd (omega (arith, lt))

-- ---- places
row_ties : (a b : Row) (m n : ℕ) → place_cmp (record { row = a; below = m }) (record { row = b; below = n }) ≡ Equal → (a ≡ b) × (nat_cmp m n ≡ Equal)
row_ties Roles Roles m n e = (refl, e)
row_ties (UsersOf a) (UsersOf b) m n e =
    let t : (nat_cmp a.0 b.0 ≡ Equal) × (nat_cmp m n ≡ Equal) = both_tie _ _ e in
    let p : a.0 ≡ b.0 = nat_cmp-IsAntisymmetric _ _ t.0 in
    (λ i. UsersOf (record { 0 = p i }), t.1)
row_ties (PermsOf a) (PermsOf b) m n e =
    let t : (nat_cmp a.0 b.0 ≡ Equal) × (nat_cmp m n ≡ Equal) = both_tie _ _ e in
    let p : a.0 ≡ b.0 = nat_cmp-IsAntisymmetric _ _ t.0 in
    (λ i. PermsOf (record { 0 = p i }), t.1)
row_ties Limits Limits m n e = (refl, e)
row_ties Edges Edges m n e = (refl, e)
row_ties _ _ m n e = cc

place_cmp-IsAntisymmetric : IsAntisymmetric place_cmp
place_cmp-IsAntisymmetric a b e =
    let t = row_ties a.row b.row a.below b.below e in
    let p : a.row ≡ b.row = t.0 in
    let q : a.below ≡ b.below = nat_cmp-IsAntisymmetric _ _ t.1 in
    λ i. record { row = p i; below = q i }

place_cmp_total : IsTotalOrder place_cmp
place_cmp_total = place_laws.total-law

-- ---- fluents by row and first name
row_of-fluent_in : (r : Row) (n : ℕ) → row_of (fluent_in r n) ≡ r
row_of-fluent_in Roles n = refl
row_of-fluent_in (UsersOf r) n = refl
row_of-fluent_in (PermsOf r) n = refl
row_of-fluent_in Limits n = refl
row_of-fluent_in Edges n = refl

first_of-fluent_in : (r : Row) (n : ℕ) → first_of (fluent_in r n) ≡ n
first_of-fluent_in Roles n = refl
first_of-fluent_in (UsersOf r) n = refl
first_of-fluent_in (PermsOf r) n = refl
first_of-fluent_in Limits n = refl
first_of-fluent_in Edges n = refl

fluent_in-of : (f : Fluent) → fluent_in (row_of f) (first_of f) ≡ f
fluent_in-of (Enabled r) = refl
fluent_in-of (Assigned u r) = refl
fluent_in-of (Granted p r) = refl
fluent_in-of (Limit l) = refl
fluent_in-of (Edge e) = refl

-- a fluent is the one of its place at its bit
fluent_at : (f : Fluent) → fluent_in (word_place f).row ((word_place f).below * 64 + first_of f % 64) ≡ f
fluent_at f = ap (fluent_in (row_of f)) (div-add-mod' (first_of f) 64) ∙ fluent_in-of f

place_of-fluent_in : (p : WordPlace) (b : ℕ) → b < 64 → word_place (fluent_in p.row (p.below * 64 + b)) ≡ p
place_of-fluent_in p b lt =
    let row : row_of (fluent_in p.row (p.below * 64 + b)) ≡ p.row = row_of-fluent_in p.row _ in
    let below : first_of (fluent_in p.row (p.below * 64 + b)) / 64 ≡ p.below = ap (λ n. n / 64) (first_of-fluent_in p.row _) ∙ div-mul-add p.below 64 b lt in
    λ i. record { row = row i; below = below i }

bit_of-fluent_in : (p : WordPlace) (b : ℕ) → b < 64 → first_of (fluent_in p.row (p.below * 64 + b)) % 64 ≡ b
bit_of-fluent_in p b lt = ap (λ n. n % 64) (first_of-fluent_in p.row _) ∙ mod-mul-add p.below 64 b lt

bit_below : (f : Fluent) → first_of f % 64 < 64
bit_below f = mod_below (first_of f) 64 (omega arith)

pub tie_of : (a b : Fluent) → eq_by_cmp fluent_cmp a b ≡ true → a ≡ b
tie_of a b e = fluent_cmp-IsAntisymmetric a b ((Equal-is (fluent_cmp a b)).0 e)

place_tie_of : (a b : WordPlace) → eq_by_cmp place_cmp a b ≡ true → a ≡ b
place_tie_of a b e = place_cmp-IsAntisymmetric a b ((Equal-is (place_cmp a b)).0 e)

eqb_of : (m n : ℕ) → eqb m n ≡ true → m ≡ n
eqb_of m n e = elim (eqb_tells m n) [ inl t ↦ t.1 | inr t ↦ cc ]

itself : (n : ℕ) → eqb n n ≡ true
itself n = elim (eqb_tells n n) [ inl t ↦ t.0 | inr t ↦ absurd (t.1 refl) ]

-- fluents are the same where their places and their bits are
same_fluent : (x f : Fluent) → eq_by_cmp fluent_cmp x f ≡ (eq_by_cmp place_cmp (word_place x) (word_place f) && eqb (first_of x % 64) (first_of f % 64))
same_fluent x f =
    both_ways _ _
    (λ e. subst (λ g. (eq_by_cmp place_cmp (word_place x) (word_place g) && eqb (first_of x % 64) (first_of g % 64)) ≡ true) (tie_of x f e)
    (both_true (eq_itself place_cmp_total (word_place x)) (itself (first_of x % 64))))
    (λ e.
    let (p, b) = and_parts _ _ e in
    let place : word_place x ≡ word_place f = place_tie_of _ _ p in
    let bit : first_of x % 64 ≡ first_of f % 64 = eqb_of _ _ b in
    let same : x ≡ f = sym (fluent_at x) ∙ (λ i. fluent_in (place i).row ((place i).below * 64 + bit i)) ∙ fluent_at f in
    subst (λ g. eq_by_cmp fluent_cmp x g ≡ true) same (eq_itself fluent_cmp_total x))

-- ---- what a word stands for
-- whether the word is of the fluent's place, and the fluent's bit of it is 1
abbrev pub holds : Fluent → FlagWord → Bool
holds f w = eq_by_cmp place_cmp (word_place f) w.place && eqb (bit_at w.bits (first_of f % 64)) 1

-- the fluent at bit b of a word
abbrev named : FlagWord → ℕ → Fluent
named w b = fluent_in w.place.row (w.place.below * 64 + b)

holds_named : (w : FlagWord) (b : ℕ) → b < 64 → eqb (bit_at w.bits b) 1 ≡ true → holds (named w b) w ≡ true
holds_named w b lt on =
    both_true (ap (λ p. eq_by_cmp place_cmp p w.place) (place_of-fluent_in w.place b lt) ∙ eq_itself place_cmp_total w.place)
    (ap (λ n. eqb (bit_at w.bits n) 1) (bit_of-fluent_in w.place b lt) ∙ on)

named_held : (f : Fluent) (w : FlagWord) → word_place f ≡ w.place → f ≡ named w (first_of f % 64)
named_held f w e = sym (fluent_at f) ∙ ap (λ (p : WordPlace). fluent_in p.row (p.below * 64 + first_of f % 64)) e

holds_is : (f : Fluent) (w : FlagWord) → list_any (eq_by_cmp fluent_cmp f) (fluents_of w) ≡ holds f w
unfolding fluents_of
holds_is f w =
    let on : ℕ → Bool = λ b. eqb (bit_at w.bits b) 1 in
    let test : ℕ → Bool = λ b. on b && eq_by_cmp fluent_cmp f (named w b) in
    any_map (eq_by_cmp fluent_cmp f) (named w) (filter on (range_with_len 0 64))
    ∙ any_filter (λ b. eq_by_cmp fluent_cmp f (named w b)) on (range_with_len 0 64)
    ∙ both_ways (list_any test (range_with_len 0 64)) (holds f w)
    (λ e.
    let (b, low, high, is) = in_range test 0 64 e in
    let (bit, tie) = and_parts _ _ is in
    subst (λ g. holds g w ≡ true) (sym (tie_of f (named w b) tie)) (holds_named w b (omega (arith, high)) bit))
    (λ e.
    let (place, bit) = and_parts _ _ e in
    of_range test 64 (first_of f % 64) (bit_below f)
    (both_true bit (subst (λ g. eq_by_cmp fluent_cmp f g ≡ true) (named_held f w (place_tie_of _ _ place)) (eq_itself fluent_cmp_total f))))

pub has_words : (ws : List FlagWord) (f : Fluent) → has (set_of_words ws) f ≡ list_any (holds f) ws
unfolding set_of_words
has_words ws f = has-set_of fluent_cmp_total (flat_map fluents_of ws) f ∙ any_flat_map (eq_by_cmp fluent_cmp f) fluents_of ws ∙ (λ i. list_any (λ w. holds_is f w i) ws)

pub within_at : (ws : List FlagWord) → AreWords ws → (i : ℕ) (d : FlagWord) → i < length ws → (get_or ws i d).place.below < 2 ^ 26
within_at ws h i d lt =
    subst (λ (p : WordPlace). p.below < 2 ^ 26) (lists.get_or-map (λ (w : FlagWord). w.place) ws i d)
    (h.within i d.place (subst (λ n. i < n) (sym (length-map ws (λ (w : FlagWord). w.place))) lt))

-- ---- a search
module _ (place : WordPlace) (ws : List FlagWord) (h : AreWords ws) where
  answers : IsNonDecreasingBy (λ w. ordering_index (place_cmp w.place place)) ws
  answers i j d le lt =
      let at : (k : ℕ) → get_or (places ws) k d.place ≡ (get_or ws k d).place = λ k. lists.get_or-map (λ (w : FlagWord). w.place) ws k d in
      subst (λ p. ordering_index (place_cmp p place) ≤ ordering_index (place_cmp (get_or ws j d).place place)) (at i)
      (subst (λ p. ordering_index (place_cmp (get_or (places ws) i d.place) place) ≤ ordering_index (place_cmp p place)) (at j)
      (answers_rise place_cmp_total place (places ws) h.rising i j d.place le (subst (λ n. j < n) (sym (length-map ws (λ (w : FlagWord). w.place))) lt)))

  at_places : (P : WordPlace → Type 0) (low high : ℕ) → AllWithin (λ w. P w.place) ws low high → AllWithin P (places ws) low high
  at_places P low high all j d above below =
      let word : FlagWord = record { place = d; bits = 0 } in
      subst P (sym (lists.get_or-map (λ (w : FlagWord). w.place) ws j word)) (all j word above below)

  pub searched : (r : Result ℕ ℕ) → IsSearchInRange r (length ws) → IsBinarySearchResult (λ w. place_cmp w.place place) ws r → IfOk r (WordStandsAt place ws) × IfErr r (GoesAt place ws)
  searched (Ok i) within at = (record { below = within; is = λ d. place_cmp-IsAntisymmetric _ _ (at d) }, tt)
  searched (Err i) within at =
      let parts = at answers in
      let count : length (places ws) ≡ length ws = length-map ws (λ (w : FlagWord). w.place) in
      let gap : GoesIn place_cmp place (places ws) i =
      goes_in place_cmp_total place (places ws) i h.rising (subst (λ n. i ≤ n) (sym count) within) (at_places (λ p. place_cmp p place ≡ Less) 0 i parts.0)
      (subst (λ n. AllWithin (λ p. place_cmp p place ≡ Greater) (places ws) i n) (sym count) (at_places (λ p. place_cmp p place ≡ Greater) i (length ws) parts.1)) in
      (tt, record { below = within; absent = sym (has-set_of_rising place_cmp_total (places ws) place h.rising) ∙ gap.absent; rises = gap.rises })

-- ---- the word that a search found
-- above a word of the fluent's place no word has the fluent
none_above : (f : Fluent) (p : WordPlace) (ws : List FlagWord) → T (below_all place_cmp p (pairs (places ws))) → p ≡ word_place f → list_any (holds f) ws ≡ false
none_above f p [] h e = refl
none_above f p (w ∷ ws) h e =
    let less : place_cmp (word_place f) w.place ≡ Less = subst (λ q. place_cmp q w.place ≡ Less) e (less_of _ (left_of (is_lt (place_cmp p w.place)) _ h)) in
    ap (λ r. (is_eq r && eqb (bit_at w.bits (first_of f % 64)) 1) || list_any (holds f) ws) less
    ∙ none_above f p ws (right_of (is_lt (place_cmp p w.place)) _ h) e

-- where a word of the fluent's place stands among rising ones, the others do not matter
any_there : (f : Fluent) (ws : List FlagWord) → Rises place_cmp (places ws) → (i : ℕ) (d : FlagWord) → i < length ws → (get_or ws i d).place ≡ word_place f
    → list_any (holds f) ws ≡ holds f (get_or ws i d)
any_there f [] h i d lt e = absurd (omega (arith, lt))
any_there f (w ∷ ws) h zero d lt e = ap (λ b. holds f w || b) (none_above f w.place ws (left_of (below_all place_cmp w.place (pairs (places ws))) _ h) e) ∙ or_false (holds f w)
any_there f (w ∷ ws) h (suc i) d lt e =
    let below : place_cmp w.place (get_or (places ws) i d.place) ≡ Less =
    below_at place_cmp_total w.place (places ws) (left_of (below_all place_cmp w.place (pairs (places ws))) _ h) i d.place (subst (λ n. i < n) (sym (length-map ws (λ (v : FlagWord). v.place))) (omega (arith, lt))) in
    let here : get_or (places ws) i d.place ≡ word_place f = lists.get_or-map (λ (v : FlagWord). v.place) ws i d ∙ e in
    let greater : place_cmp (word_place f) w.place ≡ Greater = turned place_cmp_total w.place (word_place f) Less (subst (λ p. place_cmp w.place p ≡ Less) here below) in
    ap (λ r. (is_eq r && eqb (bit_at w.bits (first_of f % 64)) 1) || list_any (holds f) ws) greater
    ∙ any_there f ws (right_of (below_all place_cmp w.place (pairs (places ws))) _ h) i d (omega (arith, lt)) e

-- where no word has the fluent's place, none has the fluent
any_absent : (f : Fluent) (ws : List FlagWord) → list_any (eq_by_cmp place_cmp (word_place f)) (places ws) ≡ false → list_any (holds f) ws ≡ false
any_absent f [] e = refl
any_absent f (w ∷ ws) e =
    elim (eq_by_cmp place_cmp (word_place f) w.place) as (λ b. (b || list_any (eq_by_cmp place_cmp (word_place f)) (places ws)) ≡ false → ((b && eqb (bit_at w.bits (first_of f % 64)) 1) || list_any (holds f) ws) ≡ false) [
      | true ↦ λ e. cc
      | false ↦ λ e. any_absent f ws e
    ] e

-- ---- bits
bit_from : (n k : ℕ) → not (eqb (bit_and n (2 ^ k)) 0) ≡ eqb (bit_at n k) 1
bit_from n k = rw (bits.and_pow n k) (by (bit_at n k) (bits.bit_at-lt n k))
  where
    by : (b : ℕ) → b < 2 → not (eqb (b * 2 ^ k) 0) ≡ eqb b 1
    by zero lt = ap (λ m. not (eqb m 0)) (zero-mul (2 ^ k))
    by (suc zero) lt = elim (eqb_tells (1 * 2 ^ k) 0) [ inl t ↦ absurd (omega (arith, pow_pos k, t.1)) | inr t ↦ ap not t.0 ]
    by (suc (suc b)) lt = absurd (omega (arith, lt))

bit_on : (n k i : ℕ) → k < 64 → eqb (bit_at (bit_or n (2 ^ k)) i) 1 ≡ (eqb i k || eqb (bit_at n i) 1)
bit_on n k i lt =
    let one : 1 * 2 ^ k % 2 ^ 64 ≡ 2 ^ k = one_shl k 64 lt in
    elim (eqb_tells i k) [
      | inl t ↦ rw (t.0, t.1) (ap (λ m. eqb m 1) (subst (λ m. bit_at (bit_or n m) k ≡ 1) one (bits.bit_at_set_same w64 n k lt)))
      | inr t ↦ rw t.0 (ap (λ m. eqb m 1) (subst (λ m. bit_at (bit_or n m) i ≡ bit_at n i) one (bits.bit_at_set_other w64 n k lt i t.1)))
    ]

bit_alone : (k i : ℕ) → eqb (bit_at (2 ^ k) i) 1 ≡ eqb i k
bit_alone k i =
    elim (eqb_tells i k) [
      | inl t ↦ rw (t.0, t.1) (ap (λ m. eqb m 1) (bits.bit_at-pow_same k))
      | inr t ↦ rw t.0 (ap (λ m. eqb m 1) (bits.bit_at-pow_other k i t.1))
    ]

bit_off : (n k i : ℕ) → k < 64 → i < 64 → eqb (bit_at (bit_and n (bit_not w64 (2 ^ k))) i) 1 ≡ (eqb (bit_at n i) 1 && not (eqb k i))
bit_off n k i lt lt' =
    let one : 1 * 2 ^ k % 2 ^ 64 ≡ 2 ^ k = one_shl k 64 lt in
    elim (eqb_tells k i) [
      | inl t ↦ rw (t.0, ← t.1) (ap (λ m. eqb m 1) (subst (λ m. bit_at (bit_and n (bit_not w64 m)) k ≡ 0) one (bits.bit_at_clear_same w64 n k lt)) ∙ sym (and_false (eqb (bit_at n k) 1)))
      | inr t ↦ rw t.0 (ap (λ m. eqb m 1) (subst (λ m. bit_at (bit_and n (bit_not w64 m)) i ≡ bit_at n i) one (bits.bit_at_clear_other w64 n k lt i lt' (λ e. t.1 (sym e)))) ∙ sym (and_true (eqb (bit_at n i) 1)))
    ]

-- ---- the fluent that is asked for, set on or set off
module _ (f : Fluent) (ws : List FlagWord) (h : AreWords ws) (i : ℕ) where
  module _ (at : WordStandsAt (word_place f) ws i) where
    pub on_there : (d : FlagWord) → not (eqb (bit_and (get_or ws i d).bits (2 ^ (first_of f % 64))) 0) ≡ has (set_of_words ws) f
    on_there d =
        bit_from (get_or ws i d).bits (first_of f % 64)
        ∙ ap (λ b. b && eqb (bit_at (get_or ws i d).bits (first_of f % 64)) 1) (sym (ap (eq_by_cmp place_cmp (word_place f)) (at.is d) ∙ eq_itself place_cmp_total (word_place f)))
        ∙ sym (has_words ws f ∙ any_there f ws h.rising i d at.below (at.is d))

    pub same_places : (v : FlagWord) → v.place ≡ word_place f → places (set ws i v) ≡ places ws
    same_places v e = map-set_same (λ (w : FlagWord). w.place) ws i v v (e ∙ sym (at.is v))

    pub words_there : (v : FlagWord) → v.place ≡ word_place f → AreWords (set ws i v)
    words_there v e = let same = sym (same_places v e) in record { rising = subst (Rises place_cmp) same h.rising; within = subst (All (λ p. p.below < 2 ^ 26)) same h.within }

    pub turned_on : (d v : FlagWord) → v.place ≡ word_place f → v.bits ≡ bit_or (get_or ws i d).bits (2 ^ (first_of f % 64)) → set_of_words (set ws i v) ≡ with_member (set_of_words ws) f
    turned_on d v place changed =
        fluents_are_sets.same _ _ (λ x.
        has_words (set ws i v) x ∙ any_set (holds x) (eq_by_cmp fluent_cmp x f) ws i d v at.below (added x)
        ∙ sym (fluents_are_sets.added (set_of_words ws) f x ∙ ap (λ b. eq_by_cmp fluent_cmp x f || b) (has_words ws x)))
      where
        added : (x : Fluent) → holds x v ≡ (eq_by_cmp fluent_cmp x f || holds x (get_or ws i d))
        added x =
            (λ j. eq_by_cmp place_cmp (word_place x) (place j) && eqb (bit_at (changed j) (first_of x % 64)) 1)
            ∙ ap (λ b. eq_by_cmp place_cmp (word_place x) (word_place f) && b) (bit_on (get_or ws i d).bits (first_of f % 64) (first_of x % 64) (bit_below f))
            ∙ and_or (eq_by_cmp place_cmp (word_place x) (word_place f)) (eqb (first_of x % 64) (first_of f % 64)) (eqb (bit_at (get_or ws i d).bits (first_of x % 64)) 1)
            ∙ sym (λ j. same_fluent x f j || (eq_by_cmp place_cmp (word_place x) (at.is d j) && eqb (bit_at (get_or ws i d).bits (first_of x % 64)) 1))

    pub turned_off : (d v : FlagWord) → v.place ≡ word_place f → v.bits ≡ bit_and (get_or ws i d).bits (bit_not w64 (2 ^ (first_of f % 64))) → set_of_words (set ws i v) ≡ without (set_of_words ws) f
    turned_off d v place changed =
        fluents_are_sets.same _ _ (λ x. has_words (set ws i v) x ∙ kept x ∙ sym (fluents_are_sets.taken_out (set_of_words ws) f x ∙ ap (λ b. b && not (eq_by_cmp fluent_cmp f x)) (has_words ws x)))
      where
        still : (x : Fluent) → holds x v ≡ (eq_by_cmp place_cmp (word_place x) (word_place f) && (eqb (bit_at (get_or ws i d).bits (first_of x % 64)) 1 && not (eqb (first_of f % 64) (first_of x % 64))))
        still x =
            (λ j. eq_by_cmp place_cmp (word_place x) (place j) && eqb (bit_at (changed j) (first_of x % 64)) 1)
            ∙ ap (λ b. eq_by_cmp place_cmp (word_place x) (word_place f) && b) (bit_off (get_or ws i d).bits (first_of f % 64) (first_of x % 64) (bit_below f) (bit_below x))

        gone : list_any (holds f) (set ws i v) ≡ false
        gone =
            let here : get_or (set ws i v) i v ≡ v = get_or-set_at ws i i v v refl at.below in
            any_there f (set ws i v) (words_there v place).rising i v (subst (λ n. i < n) (sym (length-set ws i v)) at.below) (ap (λ (w : FlagWord). w.place) here ∙ place)
            ∙ ap (holds f) here ∙ still f
            ∙ ap (λ b. eq_by_cmp place_cmp (word_place f) (word_place f) && (eqb (bit_at (get_or ws i d).bits (first_of f % 64)) 1 && not b)) (itself (first_of f % 64))
            ∙ ap (λ b. eq_by_cmp place_cmp (word_place f) (word_place f) && b) (and_false (eqb (bit_at (get_or ws i d).bits (first_of f % 64)) 1))
            ∙ and_false (eq_by_cmp place_cmp (word_place f) (word_place f))

        -- two fluents of one place that are not the same have other bits
        apart : (x : Fluent) → eq_by_cmp fluent_cmp f x ≡ false → eq_by_cmp place_cmp (word_place x) (word_place f) ≡ true → eqb (first_of f % 64) (first_of x % 64) ≡ false
        apart x e tie =
            let alike : eq_by_cmp place_cmp (word_place f) (word_place x) ≡ true = ap (eq_by_cmp place_cmp (word_place f)) (place_tie_of _ _ tie) ∙ eq_itself place_cmp_total (word_place f) in
            ap (λ b. b && eqb (first_of f % 64) (first_of x % 64)) (sym alike) ∙ sym (same_fluent f x) ∙ e

        other : (x : Fluent) → eq_by_cmp fluent_cmp f x ≡ false → holds x v ≡ holds x (get_or ws i d)
        other x e =
            let set_bit : Bool = eqb (bit_at (get_or ws i d).bits (first_of x % 64)) 1 in
            still x
            ∙ elim (eq_by_cmp place_cmp (word_place x) (word_place f)) as (λ t. eq_by_cmp place_cmp (word_place x) (word_place f) ≡ t → (t && (set_bit && not (eqb (first_of f % 64) (first_of x % 64)))) ≡ (t && set_bit)) [
              | true ↦ λ tie. ap (λ b. set_bit && not b) (apart x e tie) ∙ and_true set_bit
              | false ↦ λ _. refl
            ] refl
            ∙ sym (ap (λ p. eq_by_cmp place_cmp (word_place x) p && set_bit) (at.is d))

        kept : (x : Fluent) → list_any (holds x) (set ws i v) ≡ (list_any (holds x) ws && not (eq_by_cmp fluent_cmp f x))
        kept x =
            elim (eq_by_cmp fluent_cmp f x) as (λ b. eq_by_cmp fluent_cmp f x ≡ b → list_any (holds x) (set ws i v) ≡ (list_any (holds x) ws && not b)) [
              | true ↦ λ e. subst (λ y. list_any (holds y) (set ws i v) ≡ false) (tie_of f x e) gone ∙ sym (and_false (list_any (holds x) ws))
              | false ↦ λ e. any_set (holds x) false ws i d v at.below (other x e) ∙ sym (and_true (list_any (holds x) ws))
            ] refl

  pub words_further : (v : FlagWord) → v.place ≡ word_place f → (word_place f).below < 2 ^ 26 → GoesAt (word_place f) ws i → AreWords (insert ws i v)
  words_further v e below at =
      let same : insert (places ws) i (word_place f) ≡ places (insert ws i v) =
      (λ j. take-map (λ (w : FlagWord). w.place) i ws j ++ sym e j ∷ drop-map (λ (w : FlagWord). w.place) i ws j) ∙ sym (map-append (λ (w : FlagWord). w.place) (take i ws) (v ∷ drop i ws)) in
      record {
        rising = subst (Rises place_cmp) same at.rises;
        within = subst (All (λ p. p.below < 2 ^ 26)) same (All-insert (λ p. p.below < 2 ^ 26) (places ws) i (word_place f) h.within below);
      }

  pub further_on : (v : FlagWord) → v.place ≡ word_place f → v.bits ≡ 2 ^ (first_of f % 64) → set_of_words (insert ws i v) ≡ with_member (set_of_words ws) f
  further_on v place alone =
      fluents_are_sets.same _ _ (λ x.
      has_words (insert ws i v) x ∙ any_insert (holds x) ws i v
      ∙ ap (λ b. b || list_any (holds x) ws) ((λ j. eq_by_cmp place_cmp (word_place x) (place j) && eqb (bit_at (alone j) (first_of x % 64)) 1) ∙ ap (λ b. eq_by_cmp place_cmp (word_place x) (word_place f) && b) (bit_alone (first_of f % 64) (first_of x % 64)) ∙ sym (same_fluent x f))
      ∙ sym (fluents_are_sets.added (set_of_words ws) f x ∙ ap (λ b. eq_by_cmp fluent_cmp x f || b) (has_words ws x)))

  pub absent_off : GoesAt (word_place f) ws i → has (set_of_words ws) f ≡ false
  absent_off at = has_words ws f ∙ any_absent f ws at.absent

  pub absent_stays : GoesAt (word_place f) ws i → set_of_words ws ≡ without (set_of_words ws) f
  absent_stays at = fluents_are_sets.same _ _ (λ x. sym (fluents_are_sets.taken_out (set_of_words ws) f x ∙ by x))
    where
      by : (x : Fluent) → (has (set_of_words ws) x && not (eq_by_cmp fluent_cmp f x)) ≡ has (set_of_words ws) x
      by x =
          elim (eq_by_cmp fluent_cmp f x) as (λ b. eq_by_cmp fluent_cmp f x ≡ b → (has (set_of_words ws) x && not b) ≡ has (set_of_words ws) x) [
            | true ↦ λ e. and_false (has (set_of_words ws) x) ∙ sym (subst (λ y. has (set_of_words ws) y ≡ false) (tie_of f x e) (absent_off at))
            | false ↦ λ _. and_true (has (set_of_words ws) x)
          ] refl
