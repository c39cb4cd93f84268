-- Numbers that rise: where a session stands among them, and what keeps them.
use Rattle.std.proofs.Common.{◌≡◌, ℕ, zero, suc, ◌+◌, ◌<◌, ◌≤◌, Bool, true, false, cond, not, nat_eq, nat_lt, List, [], ◌∷◌, ◌++◌, length, map, filter, find, set, count_by, Some, None, IfSome, refl, sym, ap, subst, ◌∙◌, arith}
use Rattle.std.specs.List.{slice_get, position_or_len}
use Rattle.std.proofs.lemmas.Bool.{eqb-true, eq-eqb, ltb-true, ltb-false}
use Rattle.gt_base.specs.declared.events.SessionId.{SessionId}
use Rattle.gtrbac_model.specs.Same.{same_session}
use Rattle.gtrbac_model.specs.Sessions.{OpenedSession}
use Rattle.session_table.specs.declared.opened.Open.{Open}
use Rattle.session_table.specs.Opened.{numbered, opened, still_open, NumberedFrom, AreNumbered, IsFirstFrom}
use Rattle.session_table.specs.Causes.{StandsAt}
use Rattle.session_table.proofs.Charging.{split}
use Rattle.session_table.proofs.Finding.{inside, standing}
use Rattle.session_table.proofs.Indexing.{passes, both_true, number_is, count_set}

above : (b top : ℕ) (os : List Open) → NumberedFrom b (map opened os) top → (i : ℕ) (o : Open) → slice_get os i ≡ Some o → b < o.number.0
above b top [] h i o at = cc
above b top (x ∷ os) h zero o at = let same : x ≡ o = cc in subst (λ z. b < z.number.0) same h.0
above b top (x ∷ os) h (suc i) o at = let later : x.number.0 < o.number.0 = above x.number.0 top os h.1 i o at in omega (arith, later, h.0)

rising : (b top : ℕ) (os : List Open) → NumberedFrom b (map opened os) top → (i j : ℕ) (o p : Open) → i < j → slice_get os i ≡ Some o → slice_get os j ≡ Some p → o.number.0 < p.number.0
rising b top [] h i j o p lt at there = cc
rising b top (x ∷ os) h i zero o p lt at there = absurd (omega arith)
rising b top (x ∷ os) h zero (suc j) o p lt at there = let same : x ≡ o = cc in subst (λ z. z.number.0 < p.number.0) same (above x.number.0 top os h.1 j p there)
rising b top (x ∷ os) h (suc i) (suc j) o p lt at there = rising x.number.0 top os h.1 i j o p (omega arith) at there

pub rises : (os : List Open) → AreNumbered (map opened os) → (i j : ℕ) (o p : Open) → i < j → slice_get os i ≡ Some o → slice_get os j ≡ Some p → o.number.0 < p.number.0
rises os h = rising 0 h.0 os h.1

first_is : {A : Type 0} (p : A → Bool) (xs : List A) (at : ℕ) (x : A) → slice_get xs at ≡ Some x → p x ≡ true → ((i : ℕ) (y : A) → i < at → slice_get xs i ≡ Some y → p y ≡ false) → at ≡ position_or_len p xs
first_is p [] at x is on off = cc
first_is p (y ∷ ys) zero x is on off = let same : y ≡ x = cc in ap (λ b. cond (not b) (1 + position_or_len p ys) 0) (sym (ap p same ∙ on))
first_is p (y ∷ ys) (suc at) x is on off =
    let rest : at ≡ position_or_len p ys = first_is p ys at x is on (λ i z lt there. off (suc i) z (omega arith) there) in
    let here : position_or_len p (y ∷ ys) ≡ 1 + position_or_len p ys = ap (λ b. cond (not b) (1 + position_or_len p ys) 0) (off 0 y (omega arith) refl) in
    omega (arith, rest, here)

none_is : {A : Type 0} (p : A → Bool) (xs : List A) → ((i : ℕ) (y : A) → slice_get xs i ≡ Some y → p y ≡ false) → find p xs ≡ None
none_is p [] off = refl
none_is p (y ∷ ys) off = ap (λ b. cond b (Some y) (find p ys)) (off 0 y refl) ∙ none_is p ys (λ i. off (suc i))

other : (n : SessionId) (o : Open) → (o.number.0 ≡ n.0 → ⊥) → numbered n o ≡ false
other n o ne = split (numbered n o) (λ e. absurd (ne (ap (λ (k : SessionId). k.0) (number_is n o e)))) (λ e. e)

pub stands : (os : List Open) (n : SessionId) (at : ℕ) (o : Open) → IsFirstFrom os n.0 at → at < length os → slice_get os at ≡ Some o → numbered n o ≡ true → StandsAt os n at
stands os n at o h low is same = record {
  inside = low;
  first = first_is (numbered n) os at o is same (λ i p lt there. let below : p.number.0 < n.0 = h.below i p lt there in other n p (λ e. absurd (omega (arith, below, e))));
}

before : {A : Type 0} (xs : List A) (i : ℕ) (x : A) → slice_get xs i ≡ Some x → (j : ℕ) → j < i → (y : A) × (slice_get xs j ≡ Some y)
before [] i x is j lt = cc
before (y ∷ ys) zero x is j lt = absurd (omega arith)
before (y ∷ ys) (suc i) x is zero lt = (y, refl)
before (y ∷ ys) (suc i) x is (suc j) lt = before ys i x is j (omega arith)

past_it : (a b : ℕ) → a ≤ b → nat_eq a b ≡ false → a < b
past_it a b le apart = split (nat_lt a b) (λ lt. ltb-true a b lt) (λ ge. let back : b ≤ a = ltb-false a b ge in absurd (clash (eq-eqb a b (omega (arith, le, back))) apart))
  where
    clash : {x : Bool} → x ≡ true → x ≡ false → ⊥
    clash p q = let e : true ≡ false = sym p ∙ q in cc

pub nowhere : (os : List Open) (n : SessionId) (at : ℕ) → AreNumbered (map opened os) → IsFirstFrom os n.0 at → ((o : Open) → slice_get os at ≡ Some o → numbered n o ≡ false) → find (numbered n) os ≡ None
nowhere os n at num h ne = none_is (numbered n) os one
  where
    one : (i : ℕ) (p : Open) → slice_get os i ≡ Some p → numbered n p ≡ false
    one i p there =
        split (nat_lt i at) (λ lt. let low : p.number.0 < n.0 = h.below i p (ltb-true i at lt) there in other n p (λ e. omega (arith, low, e)))
        (λ ge.
        let from : at ≤ i = ltb-false i at ge in
        split (nat_eq at i) (λ is. ne p (subst (λ j. slice_get os j ≡ Some p) (sym (eqb-true at i is)) there))
        (λ apart.
        let later : at < i = past_it at i from apart in
        let (o, here) = before os i p there at later in
        let low : n.0 ≤ o.number.0 = h.above at o (omega arith) here in
        let high : o.number.0 < p.number.0 = rises os num at i o p later here there in
        other n p (λ e. omega (arith, low, high, e))))

pub past : (os : List Open) (n : SessionId) (at : ℕ) → AreNumbered (map opened os) → IsFirstFrom os n.0 at → length os ≤ at → find (numbered n) os ≡ None
past os n at num h le = nowhere os n at num h (λ o there. absurd (nothing os at o le there))
  where
    nothing : {A : Type 0} (xs : List A) (i : ℕ) (x : A) → length xs ≤ i → slice_get xs i ≡ Some x → ⊥
    nothing [] i x le e = cc
    nothing (y ∷ ys) zero x le e = omega arith
    nothing (y ∷ ys) (suc i) x le e = nothing ys i x (omega arith) e

-- a session in the middle of what is searched
module _ (os : List Open) (num : AreNumbered (map opened os)) (mid here n : ℕ) (low : mid < length os) (told : IfSome (slice_get os mid) (λ o. here ≡ o.number.0)) where
  one : (o : Open) → slice_get os mid ≡ Some o → here ≡ o.number.0
  one o at = subst (λ z. IfSome z (λ o. here ≡ o.number.0)) at told

  pub below_mid : here < n → (i : ℕ) (o : Open) → i < mid + 1 → slice_get os i ≡ Some o → o.number.0 < n
  below_mid lt i o le there =
      split (nat_lt i mid)
      (λ e. let (x, at) = inside os mid low in let r = rises os num i mid o x (ltb-true i mid e) there at in let same = one x at in omega (arith, r, same, lt))
      (λ e. let from : mid ≤ i = ltb-false i mid e in let is : i ≡ mid = omega (arith, from, le) in let same = one o (ap (slice_get os) (sym is) ∙ there) in omega (arith, same, lt))

  pub above_mid : n ≤ here → (i : ℕ) (o : Open) → mid ≤ i → slice_get os i ≡ Some o → n ≤ o.number.0
  above_mid ge i o le there =
      split (nat_lt mid i)
      (λ e. let (x, at) = inside os mid low in let r = rises os num mid i x o (ltb-true mid i e) at there in let same = one x at in omega (arith, r, same, ge))
      (λ e. let upto : i ≤ mid = ltb-false mid i e in let is : i ≡ mid = omega (arith, upto, le) in let same = one o (ap (slice_get os) (sym is) ∙ there) in omega (arith, same, ge))

-- what keeps them
pub one_more : (b top n : ℕ) (os : List Open) (o : Open) → NumberedFrom b (map opened os) top → top < o.number.0 → o.number.0 ≡ n → NumberedFrom b (map opened (os ++ o ∷ [])) n
one_more b top n [] o h lt same = (omega (arith, h, lt), omega (arith, same))
one_more b top n (x ∷ os) o h lt same = (h.0, one_more x.number.0 top n os o h.1 lt same)

lower : (a b top : ℕ) (ss : List OpenedSession) → a ≤ b → NumberedFrom b ss top → NumberedFrom a ss top
lower a b top [] le h = omega (arith, le, h)
lower a b top (s ∷ ss) le h = (omega (arith, le, h.0), h.1)

pub fewer : (p : OpenedSession → Bool) (b top : ℕ) (ss : List OpenedSession) → NumberedFrom b ss top → NumberedFrom b (filter p ss) top
fewer p b top [] h = h
fewer p b top (s ∷ ss) h = by (p s) (fewer p s.number.0 top ss h.1)
  where
    by : (q : Bool) → NumberedFrom s.number.0 (filter p ss) top → NumberedFrom b (cond q (s ∷ filter p ss) (filter p ss)) top
    by true rest = (h.0, rest)
    by false rest = lower b s.number.0 top (filter p ss) (omega (arith, h.0)) rest

pub fewer_rows : (p : Open → Bool) (b top : ℕ) (os : List Open) → NumberedFrom b (map opened os) top → NumberedFrom b (map opened (filter p os)) top
fewer_rows p b top [] h = h
fewer_rows p b top (o ∷ os) h = by (p o) (fewer_rows p o.number.0 top os h.1)
  where
    by : (q : Bool) → NumberedFrom o.number.0 (map opened (filter p os)) top → NumberedFrom b (map opened (cond q (o ∷ filter p os) (filter p os))) top
    by true rest = (h.0, rest)
    by false rest = lower b o.number.0 top (map opened (filter p os)) (omega (arith, h.0)) rest

-- the one at the place leaves a gap
module _ {A : Type 0} (p q : A → Bool) where
  abbrev others : List A → List A
  others xs = filter (λ x. not (q x)) xs

  all_stay : (xs : List A) → ((i : ℕ) (x : A) → slice_get xs i ≡ Some x → q x ≡ false) → filter p xs ≡ others (filter p xs)
  all_stay [] off = refl
  all_stay (x ∷ xs) off = by (p x) (all_stay xs (λ i. off (suc i)))
    where
      by : (b : Bool) → filter p xs ≡ others (filter p xs) → cond b (x ∷ filter p xs) (filter p xs) ≡ others (cond b (x ∷ filter p xs) (filter p xs))
      by true e = ap (λ ys. x ∷ ys) e ∙ ap (λ b. cond (not b) (x ∷ others (filter p xs)) (others (filter p xs))) (sym (off 0 x refl))
      by false e = e

  left_out : (xs : List A) (at : ℕ) (x y : A) → slice_get xs at ≡ Some x → q x ≡ true → p y ≡ false → ((i : ℕ) (z : A) → (i ≡ at → ⊥) → slice_get xs i ≡ Some z → q z ≡ false)
      → filter p (set xs at y) ≡ others (filter p xs)
  left_out [] at x y is on gone off = cc
  left_out (z ∷ zs) zero x y is on gone off =
      let same : z ≡ x = cc in
      ap (λ b. cond b (y ∷ filter p zs) (filter p zs)) gone
      ∙ all_stay zs (λ i w there. off (suc i) w (λ e. absurd (omega (arith, e))) there)
      ∙ by (p z) (ap q same ∙ on)
    where
      by : (b : Bool) → q z ≡ true → others (filter p zs) ≡ others (cond b (z ∷ filter p zs) (filter p zs))
      by true e = ap (λ b. cond (not b) (z ∷ others (filter p zs)) (others (filter p zs))) (sym e)
      by false e = refl
  left_out (z ∷ zs) (suc at) x y is on gone off =
      by (p z) (left_out zs at x y is on gone (λ i w apart there. off (suc i) w (λ e. apart (omega (arith, e))) there)) (off 0 z (λ e. absurd (omega (arith, e))) refl)
    where
      by : (b : Bool) → filter p (set zs at y) ≡ others (filter p zs) → q z ≡ false
          → cond b (z ∷ filter p (set zs at y)) (filter p (set zs at y)) ≡ others (cond b (z ∷ filter p zs) (filter p zs))
      by true e f = ap (λ ys. z ∷ ys) e ∙ ap (λ b. cond (not b) (z ∷ others (filter p zs)) (others (filter p zs))) (sym f)
      by false e f = e

pub gap_left : (os : List Open) → AreNumbered (map opened os) → (n : SessionId) (at : ℕ) → StandsAt os n at → (o p : Open) → slice_get os at ≡ Some o → p.is_open ≡ false
    → still_open (set os at p) ≡ filter (λ o. not (numbered n o)) (still_open os)
gap_left os num n at h o p here gone =
    let (x, is, there) = standing os n at h in
    let own : numbered n x ≡ true = passes (numbered n) os x is in
    let same : x.number.0 ≡ n.0 = ap (λ (k : SessionId). k.0) (number_is n x own) in
    left_out (λ o. o.is_open) (numbered n) os at x p there own gone (λ i z apart found.
    other n z
    (λ e.
    split (nat_lt i at) (λ lt. let low = rises os num i at z x (ltb-true i at lt) found there in omega (arith, low, e, same))
    (λ ge.
    let from : at ≤ i = ltb-false i at ge in
    split (nat_eq at i) (λ eq. apart (sym (eqb-true at i eq))) (λ ne. let high = rises os num at i x z (past_it at i from ne) there found in omega (arith, high, e, same)))))

pub one_less_open : (os : List Open) (n : SessionId) (at : ℕ) → StandsAt os n at → (p : Open) → p.is_open ≡ false → count_by (λ (o : Open). o.is_open) os ≡ count_by (λ (o : Open). o.is_open) (set os at p) + 1
one_less_open os n at h p gone =
    let (x, is, there) = standing os n at h in
    let own : numbered n x ≡ true = passes (numbered n) os x is in
    let a = count_set (λ (o : Open). o.is_open) os at x p there in
    let b : ◌≡◌ {A = ℕ} (cond x.is_open 1 0) 1 = ap (λ b. cond b 1 0) (both_true x.is_open (same_session x.number n) own).0 in
    let c : ◌≡◌ {A = ℕ} (cond p.is_open 1 0) 0 = ap (λ b. cond b 1 0) gone in
    omega (arith, a, b, c)
