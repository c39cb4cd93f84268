-- What the searches in a rising list find.
use Rattle.std.proofs.Common.{◌≡◌, ℕ, zero, suc, ◌+◌, ◌-◌, ◌<◌, ◌≤◌, Bool, true, false, cond, ◌&&◌, nat_eq, nat_le, nat_lt, List, [], ◌∷◌, get_or, length, Option, Some, None, IfSome, IfNone, ◌⊎◌, refl, ap, ◌∙◌, arith, inl, inr}
use Rattle.std.specs.List.{list_any, list_all, find, slice_get}
use Rattle.std.specs.List.Sorted.{IsPartitionedBy}
use Rattle.std.proofs.lemmas.Bool.{cases_lt, and_parts, or_cases, or_from, or_left, or_right, ne_eqb, eq-eqb, eqb-true, leb-true, leb-false, le-leb, lt-leb, lt-ltb, le-ltb, ltb-true, ltb-false, false≢true}
use Rattle.gtrbac_model.specs.Period.{picks}
use Rattle.gtrbac_model.specs.Valid.{rises_above, is_set}
use Rattle.calendar_match.specs.Steps.{IsNextPicked, PicksNoneFrom, IsLastPicked, PicksNoneTo, last_low, picks_upto, LesserAreFirst, dense_from, is_dense}

abbrev has : List ℕ → ℕ → Bool
has ns j = list_any (nat_eq j) ns

-- a rising list has greater numbers alone
above : (a : ℕ) (ns : List ℕ) (j : ℕ) → rises_above a ns ≡ true → j ≤ a → has ns j ≡ false
above a [] j h le = refl
above a (m ∷ ms) j h le =
    let b = and_parts (nat_lt a m) (rises_above m ms) h in
    let lt = ltb-true a m b.0 in
    or_from (nat_eq j m) (has ms j) (ne_eqb j m (λ e. omega arith)) (above m ms j b.1 (omega arith))

-- one more number at the front that is another one
other : (m : ℕ) (ms : List ℕ) (j : ℕ) → (j ≡ m → ⊥) → has ms j ≡ false → has (m ∷ ms) j ≡ false
other m ms j ne none = or_from (nat_eq j m) (has ms j) (ne_eqb j m ne) none

-- the first number from n on

record Next (ns : List ℕ) (n k : ℕ) : Type 0 where
  low : n ≤ k
  picked : has ns k ≡ true
  between : (j : ℕ) → n ≤ j → j < k → has ns j ≡ false

abbrev NextIn : List ℕ → ℕ → Option ℕ → Type 0
NextIn ns n None = (j : ℕ) → n ≤ j → has ns j ≡ false
NextIn ns n (Some k) = Next ns n k

here : (a m : ℕ) (ms : List ℕ) (n : ℕ) → rises_above a (m ∷ ms) ≡ true → n ≤ m → Next (m ∷ ms) n m
here a m ms n h le =
    let b = and_parts (nat_lt a m) (rises_above m ms) h in
    record {
      low = le;
      picked = or_left (nat_eq m m) (has ms m) (eq-eqb m m refl);
      between = λ j low lt. other m ms j (λ e. omega arith) (above m ms j b.1 (omega arith));
    }

further : (m : ℕ) (ms : List ℕ) (n : ℕ) → m < n → (r : Option ℕ) → NextIn ms n r → NextIn (m ∷ ms) n r
further m ms n lt None none = λ j low. other m ms j (λ e. omega arith) (none j low)
further m ms n lt (Some k) f = record {
  low = f.low;
  picked = or_right (nat_eq k m) (has ms k) f.picked;
  between = λ j low below. other m ms j (λ e. omega arith) (f.between j low below);
}

next_by : (a m : ℕ) (ms : List ℕ) (n : ℕ) → rises_above a (m ∷ ms) ≡ true → NextIn ms n (find (nat_le n) ms) → (b : Bool) → nat_le n m ≡ b → NextIn (m ∷ ms) n (cond b (Some m) (find (nat_le n) ms))
next_by a m ms n h rest true t = here a m ms n h (leb-true n m t)
next_by a m ms n h rest false t = further m ms n (leb-false n m t) (find (nat_le n) ms) rest

next_in : (a : ℕ) (ns : List ℕ) (n : ℕ) → rises_above a ns ≡ true → NextIn ns n (find (nat_le n) ns)
next_in a [] n h = λ j low. refl
next_in a (m ∷ ms) n h =
    next_by a m ms n h (next_in m ms n (and_parts (nat_lt a m) (rises_above m ms) h).1) (nat_le n m) refl

-- the last number up to n

record Last (ns : List ℕ) (n k : ℕ) : Type 0 where
  low : 1 ≤ k
  high : k ≤ n
  picked : has ns k ≡ true
  between : (j : ℕ) → k < j → j ≤ n → has ns j ≡ false

abbrev LastIn : List ℕ → ℕ → Option ℕ → Type 0
LastIn ns n None = (j : ℕ) → j ≤ n → has ns j ≡ false
LastIn ns n (Some k) = Last ns n k

-- the last of a and the numbers of the list
record After (a : ℕ) (ns : List ℕ) (n k : ℕ) : Type 0 where
  low : a ≤ k
  high : k ≤ n
  among : (k ≡ a) ⊎ (has ns k ≡ true)
  between : (j : ℕ) → k < j → j ≤ n → has ns j ≡ false

abbrev AfterIn : ℕ → List ℕ → ℕ → Option ℕ → Type 0
AfterIn a ns n None = ⊥
AfterIn a ns n (Some k) = After a ns n k

among_more : (m : ℕ) (ms : List ℕ) (k : ℕ) → (k ≡ m) ⊎ (has ms k ≡ true) → has (m ∷ ms) k ≡ true
among_more m ms k (inl e) = or_left (nat_eq k m) (has ms k) (eq-eqb k m e)
among_more m ms k (inr h) = or_right (nat_eq k m) (has ms k) h

after_more : (a m : ℕ) (ms : List ℕ) (n : ℕ) → a < m → (r : Option ℕ) → AfterIn m ms n r → AfterIn a (m ∷ ms) n r
after_more a m ms n lt None f = f
after_more a m ms n lt (Some k) f =
    let low = f.low in
    record {
      low = omega arith;
      high = f.high;
      among = inr (among_more m ms k f.among);
      between = λ j gt le. other m ms j (λ e. omega arith) (f.between j gt le);
    }

-- no number of the list is so low
too_low : (m : ℕ) (ms : List ℕ) (n j : ℕ) → n < m → rises_above m ms ≡ true → j ≤ n → has (m ∷ ms) j ≡ false
too_low m ms n j lt h le = other m ms j (λ e. omega arith) (above m ms j h (omega arith))

after_by : (a m : ℕ) (ms : List ℕ) (n : ℕ) → a ≤ n → rises_above a (m ∷ ms) ≡ true → (m ≤ n → AfterIn m ms n (last_low n (Some m) ms)) → (b : Bool) → nat_lt n m ≡ b → AfterIn a (m ∷ ms) n (cond b (Some a) (last_low n (Some m) ms))
after_by a m ms n le h rest false t =
    after_more a m ms n (ltb-true a m (and_parts (nat_lt a m) (rises_above m ms) h).0) (last_low n (Some m) ms) (rest (ltb-false n m t))
after_by a m ms n le h rest true t = record {
  low = omega arith;
  high = le;
  among = inl refl;
  between = λ j gt high. too_low m ms n j (ltb-true n m t) (and_parts (nat_lt a m) (rises_above m ms) h).1 high;
}

after : (a : ℕ) (ns : List ℕ) (n : ℕ) → a ≤ n → rises_above a ns ≡ true → AfterIn a ns n (last_low n (Some a) ns)
after a [] n le h = record { low = omega arith; high = le; among = inl refl; between = λ j gt high. refl }
after a (m ∷ ms) n le h =
    after_by a m ms n le h (λ t. after m ms n t (and_parts (nat_lt a m) (rises_above m ms) h).1) (nat_lt n m) refl

last_more : (m : ℕ) (ms : List ℕ) (n : ℕ) → 0 < m → (r : Option ℕ) → AfterIn m ms n r → LastIn (m ∷ ms) n r
last_more m ms n pos None f = absurd f
last_more m ms n pos (Some k) f =
    let low = f.low in
    record {
      low = omega arith;
      high = f.high;
      picked = among_more m ms k f.among;
      between = λ j gt le. other m ms j (λ e. omega arith) (f.between j gt le);
    }

last_by : (m : ℕ) (ms : List ℕ) (n : ℕ) → rises_above 0 (m ∷ ms) ≡ true → (b : Bool) → nat_lt n m ≡ b → LastIn (m ∷ ms) n (cond b None (last_low n (Some m) ms))
last_by m ms n h false t =
    let b = and_parts (nat_lt 0 m) (rises_above m ms) h in
    last_more m ms n (ltb-true 0 m b.0) (last_low n (Some m) ms) (after m ms n (ltb-false n m t) b.1)
last_by m ms n h true t = λ j le. too_low m ms n j (ltb-true n m t) (and_parts (nat_lt 0 m) (rises_above m ms) h).1 le

last_in : (ns : List ℕ) (n : ℕ) → rises_above 0 ns ≡ true → LastIn ns n (last_low n None ns)
last_in [] n h = λ j le. refl
last_in (m ∷ ms) n h = last_by m ms n h (nat_lt n m) refl

-- a set

pub rising : (ns : List ℕ) → is_set (Some ns) ≡ true → rises_above 0 ns ≡ true
rising [] h = absurd (false≢true h)
rising (n ∷ ns) h = (and_parts (rises_above 0 (n ∷ ns)) (list_all (λ m. nat_le m 999_999_999) (n ∷ ns)) h).0

-- its numbers have nine digits
small_by : (ns : List ℕ) (k : ℕ) → list_all (λ m. nat_le m 999_999_999) ns ≡ true → has ns k ≡ true → k ≤ 999_999_999
small_by [] k h p = absurd (false≢true p)
small_by (m ∷ ms) k h p =
    let b = and_parts (nat_le m 999_999_999) (list_all (λ x. nat_le x 999_999_999) ms) h in
    elim (or_cases (nat_eq k m) (has ms k) p) [
      | inl e ↦ (let same = eqb-true k m e in let low = leb-true m 999_999_999 b.0 in omega arith)
      | inr more ↦ small_by ms k b.1 more
    ]

small : (ns : List ℕ) (k : ℕ) → is_set (Some ns) ≡ true → has ns k ≡ true → k ≤ 999_999_999
small [] k h p = absurd (false≢true h)
small (n ∷ ns) k h p = small_by (n ∷ ns) k (and_parts (rises_above 0 (n ∷ ns)) (list_all (λ m. nat_le m 999_999_999) (n ∷ ns)) h).1 p

next_some_by : (ns : List ℕ) (n : ℕ) (r : Option ℕ) → is_set (Some ns) ≡ true → NextIn ns n r → IfSome r (λ k. IsNextPicked (Some ns) n k)
next_some_by ns n None h f = tt
next_some_by ns n (Some k) h f =
    let least = small ns k h f.picked in
    record { low = f.low; high = omega arith; picked = f.picked; between = f.between }

next_none_by : (ns : List ℕ) (n : ℕ) (r : Option ℕ) → NextIn ns n r → IfNone r (PicksNoneFrom (Some ns) n)
next_none_by ns n None f = f
next_none_by ns n (Some k) f = tt

pub next_some : (ns : List ℕ) (n : ℕ) (r : Option ℕ) → is_set (Some ns) ≡ true → r ≡ find (nat_le n) ns → IfSome r (λ k. IsNextPicked (Some ns) n k)
next_some ns n r h e = rw e (next_some_by ns n (find (nat_le n) ns) h (next_in 0 ns n (rising ns h)))

pub next_none : (ns : List ℕ) (n : ℕ) (r : Option ℕ) → is_set (Some ns) ≡ true → r ≡ find (nat_le n) ns → IfNone r (PicksNoneFrom (Some ns) n)
next_none ns n r h e = rw e (next_none_by ns n (find (nat_le n) ns) (next_in 0 ns n (rising ns h)))

last_some_by : (ns : List ℕ) (n : ℕ) (r : Option ℕ) → LastIn ns n r → IfSome r (λ k. IsLastPicked (Some ns) n k)
last_some_by ns n None f = tt
last_some_by ns n (Some k) f = record { low = f.low; high = f.high; picked = f.picked; between = f.between }

last_none_by : (ns : List ℕ) (n : ℕ) (r : Option ℕ) → LastIn ns n r → IfNone r (PicksNoneTo (Some ns) n)
last_none_by ns n None f = f
last_none_by ns n (Some k) f = tt

pub last_some : (ns : List ℕ) (n : ℕ) (r : Option ℕ) → is_set (Some ns) ≡ true → r ≡ last_low n None ns → IfSome r (λ k. IsLastPicked (Some ns) n k)
last_some ns n r h e = rw e (last_some_by ns n (last_low n None ns) (last_in ns n (rising ns h)))

pub last_none : (ns : List ℕ) (n : ℕ) (r : Option ℕ) → is_set (Some ns) ≡ true → r ≡ last_low n None ns → IfNone r (PicksNoneTo (Some ns) n)
last_none ns n r h e = rw e (last_none_by ns n (last_low n None ns) (last_in ns n (rising ns h)))

-- all: each number is its own next and last one

pub next_all : (n : ℕ) → IsNextPicked None n n
next_all n = record { low = omega arith; high = omega arith; picked = refl; between = λ j low lt. absurd (omega arith) }

pub last_all : (n : ℕ) → 1 ≤ n → IsLastPicked None n n
last_all n h = record { low = h; high = omega arith; picked = refl; between = λ j lt le. absurd (omega arith) }

-- a rising list whose number n in order is n has each number from 1 to n

at_least : (a : ℕ) (ns : List ℕ) (j : ℕ) → rises_above a ns ≡ true → 0 < get_or ns j 0 → a + j < get_or ns j 0
at_least a [] j h pos = absurd (omega arith)
at_least a (m ∷ ms) zero h pos =
    let gt = ltb-true a m (and_parts (nat_lt a m) (rises_above m ms) h).0 in
    omega arith
at_least a (m ∷ ms) (suc j) h pos =
    let b = and_parts (nat_lt a m) (rises_above m ms) h in
    let gt = ltb-true a m b.0 in
    omega (arith, at_least m ms j b.1 pos)

in_run : (a : ℕ) (ns : List ℕ) (j n : ℕ) → rises_above a ns ≡ true → get_or ns j 0 ≡ a + j + 1 → a < n → n ≤ a + j + 1 → has ns n ≡ true
in_run a [] j n h e low high = absurd (omega arith)
in_run a (m ∷ ms) zero n h e low high =
    or_left (nat_eq n m) (has ms n) (eq-eqb n m (omega arith))
in_run a (m ∷ ms) (suc j) n h e low high =
    let b = and_parts (nat_lt a m) (rises_above m ms) h in
    let gt = ltb-true a m b.0 in
    let later : m + j < get_or ms j 0 = at_least m ms j b.1 (omega arith) in
    let first : m ≡ a + 1 = omega arith in
    elim (cases_lt m n) [
      | inl lt ↦ or_right (nat_eq n m) (has ms n) (in_run m ms j n b.1 (omega arith) lt (omega arith))
      | inr ge ↦ or_left (nat_eq n m) (has ms n) (eq-eqb n m (omega arith))
    ]

pub picks_run : (set : Option (List ℕ)) (most n : ℕ) → is_set set ≡ true → picks_upto most set ≡ true → 1 ≤ n → n ≤ most → picks set n ≡ true
picks_run None most n h run low high = refl
picks_run (Some ns) most n h run low high =
    let e = eqb-true (get_or ns (most - 1) 0) most run in
    in_run 0 ns (most - 1) n (rising ns h) (omega arith) (omega arith) (omega arith)

-- a dense set picks a number close below each

reaches : (reach most next : ℕ) (ns : List ℕ) (n : ℕ) → dense_from reach most next ns ≡ true → next ≤ n → n ≤ most → (k : ℕ) × (has ns k ≡ true) × (k ≤ n) × (n < k + reach)
reaches reach most next [] n h low high = let past = ltb-true most next h in absurd (omega arith)
reaches reach most next (m ∷ ms) n h low high =
    elim (or_cases (nat_lt most next) (nat_le m next && dense_from reach most (m + reach) ms) h) [
      | inl past ↦ (let gt = ltb-true most next past in absurd (omega arith))
      | inr more ↦ (let b = and_parts (nat_le m next) (dense_from reach most (m + reach) ms) more in
          let here = leb-true m next b.0 in
          elim (cases_lt n (m + reach)) [
            | inl lt ↦ (m, or_left (nat_eq m m) (has ms m) (eq-eqb m m refl), omega arith, lt)
            | inr ge ↦ (let r = reaches reach most (m + reach) ms n b.1 ge high in (r.0, or_right (nat_eq r.0 m) (has ms r.0) r.1, r.2, r.3))
          ])
    ]

pub record Reached (set : Option (List ℕ)) (reach n k : ℕ) : Type 0 where
  pub low : 1 ≤ k
  pub high : k ≤ n
  pub near : n < k + reach
  pub picked : picks set k ≡ true

pub reached : (set : Option (List ℕ)) (reach most n : ℕ) → is_set set ≡ true → is_dense reach most set ≡ true → 1 ≤ reach → 1 ≤ n → n ≤ most → (k : ℕ) × Reached set reach n k
reached None reach most n h d pos low high = (n, record { low = low; high = omega arith; near = omega arith; picked = refl })
reached (Some ns) reach most n h d pos low high =
    let r = reaches reach most 1 ns n d low high in
    elim (cases_lt 0 r.0) [
      | inl some ↦ (r.0, record { low = omega arith; high = r.2; near = r.3; picked = r.1 })
      | inr low ↦ (let none = above 0 ns r.0 (rising ns h) low in let yes = r.1 in cc)
    ]

-- a search by halves

not_below : (a : ℕ) (ns : List ℕ) → rises_above a ns ≡ true → (i d : ℕ) → i < length ns → a < get_or ns i d
not_below a [] h i d lt = absurd (omega (arith, lt))
not_below a (m ∷ ms) h zero d lt = ltb-true a m (and_parts (nat_lt a m) (rises_above m ms) h).0
not_below a (m ∷ ms) h (suc i) d lt =
    let b = and_parts (nat_lt a m) (rises_above m ms) h in
    let gt = ltb-true a m b.0 in
    let more = not_below m ms b.1 i d (omega (arith, lt)) in
    omega arith

numbers_rise : (a : ℕ) (ns : List ℕ) → rises_above a ns ≡ true → (i j d : ℕ) → i ≤ j → j < length ns → get_or ns i d ≤ get_or ns j d
numbers_rise a [] h i j d le lt = absurd (omega (arith, lt))
numbers_rise a (m ∷ ms) h zero zero d le lt = omega arith
numbers_rise a (m ∷ ms) h zero (suc j) d le lt =
    let more = not_below m ms (and_parts (nat_lt a m) (rises_above m ms) h).1 j d (omega (arith, lt)) in
    omega arith
numbers_rise a (m ∷ ms) h (suc i) zero d le lt = absurd (omega (arith, le))
numbers_rise a (m ∷ ms) h (suc i) (suc j) d le lt = numbers_rise m ms (and_parts (nat_lt a m) (rises_above m ms) h).1 i j d (omega (arith, le)) (omega (arith, lt))

-- those less than a number stand first
pub lesser_first : (n : ℕ) (ns : List ℕ) → is_set (Some ns) ≡ true → IsPartitionedBy (λ m. nat_lt m n) ns
lesser_first n ns h i j d le lt e =
    let a : get_or ns j d < n = ltb-true _ _ e in
    let b : get_or ns i d ≤ get_or ns j d = numbers_rise 0 ns (rising ns h) i j d le lt in
    lt-ltb _ _ (omega arith)

pub first_at : (n : ℕ) (ns : List ℕ) (i : ℕ) → LesserAreFirst n ns i → find (nat_le n) ns ≡ slice_get ns i
first_at n [] i f = refl
first_at n (m ∷ ms) zero f = ap (λ b. cond b (Some m) (find (nat_le n) ms)) (le-leb n m (f.others 0 m (omega arith) (omega arith)))
first_at n (m ∷ ms) (suc i) f =
    ap (λ b. cond b (Some m) (find (nat_le n) ms)) (lt-leb n m (f.first 0 m (omega arith) (omega arith)))
    ∙ first_at n ms i (record {
      bound = omega (arith, f.bound);
      first = λ k d low high. f.first (suc k) d (omega arith) (omega (arith, high));
      others = λ k d low high. f.others (suc k) d (omega (arith, low)) (omega (arith, high));
    })

pub none_at : (n : ℕ) (last : Option ℕ) (ns : List ℕ) → LesserAreFirst (n + 1) ns 0 → last_low n last ns ≡ last
none_at n last [] f = refl
none_at n last (m ∷ ms) f =
    let high : n + 1 ≤ m = f.others 0 m (omega arith) (omega arith) in
    ap (λ b. cond b last (last_low n (Some m) ms)) (lt-ltb n m (omega arith))

behind_first : (n m : ℕ) (ms : List ℕ) (i : ℕ) → LesserAreFirst n (m ∷ ms) (suc i) → LesserAreFirst n ms i
behind_first n m ms i f = record {
  bound = omega (arith, f.bound);
  first = λ k d low high. f.first (suc k) d (omega arith) (omega (arith, high));
  others = λ k d low high. f.others (suc k) d (omega (arith, low)) (omega (arith, high));
}

not_past : (n m : ℕ) (ms : List ℕ) (i : ℕ) → LesserAreFirst (n + 1) (m ∷ ms) (suc i) → nat_lt n m ≡ false
not_past n m ms i f = let low : m < n + 1 = f.first 0 m (omega arith) (omega arith) in le-ltb n m (omega arith)

pub last_at : (n : ℕ) (last : Option ℕ) (ns : List ℕ) (i : ℕ) → LesserAreFirst (n + 1) ns (suc i) → last_low n last ns ≡ slice_get ns i
last_at n last [] i f = absurd (omega (arith, f.bound))
last_at n last (m ∷ ms) zero f = ap (λ b. cond b last (last_low n (Some m) ms)) (not_past n m ms 0 f) ∙ none_at n (Some m) ms (behind_first (n + 1) m ms 0 f)
last_at n last (m ∷ ms) (suc i) f = ap (λ b. cond b last (last_low n (Some m) ms)) (not_past n m ms (suc i) f) ∙ last_at n (Some m) ms i (behind_first (n + 1) m ms (suc i) f)

-- those up to a number stand first
pub upto_first : (n : ℕ) (ns : List ℕ) → is_set (Some ns) ≡ true → IsPartitionedBy (λ m. nat_le m n) ns
upto_first n ns h i j d le lt e =
    let a : get_or ns j d ≤ n = leb-true _ _ e in
    let b : get_or ns i d ≤ get_or ns j d = numbers_rise 0 ns (rising ns h) i j d le lt in
    le-leb _ _ (omega arith)

pub at_place : (ns : List ℕ) (i d : ℕ) → i < length ns → slice_get ns i ≡ Some (get_or ns i d)
at_place [] i d lt = absurd (omega (arith, lt))
at_place (m ∷ ms) zero d lt = refl
at_place (m ∷ ms) (suc i) d lt = at_place ms i d (omega (arith, lt))

pub past_places : (ns : List ℕ) (i : ℕ) → length ns ≤ i → slice_get ns i ≡ None
past_places [] i le = refl
past_places (m ∷ ms) zero le = absurd (omega (arith, le))
past_places (m ∷ ms) (suc i) le = past_places ms i (omega (arith, le))
