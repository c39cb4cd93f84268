-- Traces that gain a set, and their last set.
use Rattle.std.proofs.Common.{◌≡◌, ℕ, zero, suc, ◌+◌, ◌<◌, ◌≤◌, Bool, true, false, nat_eq, List, [], ◌∷◌, ◌++◌, get_or, slice_get, length, cond, ◌-◌, Some, refl, sym, ◌∙◌, ap, subst, arith, if◌then◌else◌}
use Rattle.std.proofs.lemmas.Bool.{ne_eqb, eq-eqb, eqb-true, eqb-false}
use Rattle.std.proofs.lemmas.Option.{slice_get_within, get_or_from_slice_get}
use Rattle.gtrbac_model.proofs.Elements.{split}
use Rattle.gt_base.specs.Happening.{HappenedView, nothing}
use Rattle.instant_bases.specs.Timelines.{ClosedSet}
use Rattle.time_engine.specs.Traces.{model_of, Ascends, AreClosedBy, AreSome, is_something, traced}
use Rattle.gtrbac_model.specs.Base.{when}

-- after the last set nothing happened
pub model_past : (cs : List ClosedSet) (top t : ℕ) → AreClosedBy top cs → top < t → model_of cs t ≡ nothing
model_past [] top t h lt = refl
model_past (c ∷ cs) top t h lt =
    let apart : nat_eq c.at t ≡ false = ne_eqb c.at t (λ e. omega (arith, h.0)) in
    (λ i. if apart i then c.set else model_of cs t) ∙ model_past cs top t h.1 lt

-- up to the instant before it a further set changes nothing
pub model_before : (cs : List ClosedSet) (d : ClosedSet) (t : ℕ) → t < d.at → model_of (cs ++ d ∷ []) t ≡ model_of cs t
model_before [] d t lt =
    let apart : nat_eq d.at t ≡ false = ne_eqb d.at t (λ e. omega arith) in
    λ i. if apart i then d.set else nothing
model_before (c ∷ cs) d t lt = λ i. if nat_eq c.at t then c.set else model_before cs d t lt i

-- at its instant it is the set
pub model_there : (cs : List ClosedSet) (d : ClosedSet) (top : ℕ) → AreClosedBy top cs → top < d.at → model_of (cs ++ d ∷ []) d.at ≡ d.set
model_there [] d top h lt =
    let same : nat_eq d.at d.at ≡ true = eq-eqb d.at d.at refl in
    λ i. if same i then d.set else nothing
model_there (c ∷ cs) d top h lt =
    let apart : nat_eq c.at d.at ≡ false = ne_eqb c.at d.at (λ e. omega (arith, h.0)) in
    (λ i. if apart i then c.set else model_of (cs ++ d ∷ []) d.at) ∙ model_there cs d top h.1 lt

pub ends_later : (cs : List ClosedSet) (top high : ℕ) → top ≤ high → AreClosedBy top cs → AreClosedBy high cs
ends_later [] top high le h = tt
ends_later (c ∷ cs) top high le h = (omega (arith, h.0), ends_later cs top high le h.1)

ends_with : (cs : List ClosedSet) (d : ClosedSet) (top : ℕ) → top < d.at → AreClosedBy top cs → AreClosedBy d.at (cs ++ d ∷ [])
ends_with [] d top lt h = (omega arith, tt)
ends_with (c ∷ cs) d top lt h = (omega (arith, h.0), ends_with cs d top lt h.1)

ascends_with : (cs : List ClosedSet) (d : ClosedSet) (low top : ℕ) → low ≤ top → top < d.at → Ascends low cs → AreClosedBy top cs → Ascends low (cs ++ d ∷ [])
ascends_with [] d low top le lt a h = (omega arith, tt)
ascends_with (c ∷ cs) d low top le lt a h = (a.0, ascends_with cs d c.at top h.0 lt a.1 h.1)

append_nil : {A : Type 0} (xs : List A) → xs ++ [] ≡ xs
append_nil [] = refl
append_nil (x ∷ xs) = ap (λ ys. x ∷ ys) (append_nil xs)

-- a trace goes on in order
pub traced_ascends : (cs : List ClosedSet) (at : ℕ) (base set : HappenedView) (low top : ℕ) → low ≤ top → top < at → Ascends low cs → AreClosedBy top cs → Ascends low (cs ++ traced at base set)
traced_ascends cs at base set low top le lt a h = by (is_something set)
  where
    d : ClosedSet
    d = record { at = at; base = base; set = set }

    by : (b : Bool) → Ascends low (cs ++ when b d)
    by true = ascends_with cs d low top le lt a h
    by false = subst (Ascends low) (sym (append_nil cs)) a

pub traced_ends : (cs : List ClosedSet) (at : ℕ) (base set : HappenedView) (top : ℕ) → top < at → AreClosedBy top cs → AreClosedBy at (cs ++ traced at base set)
traced_ends cs at base set top lt h = by (is_something set)
  where
    d : ClosedSet
    d = record { at = at; base = base; set = set }

    by : (b : Bool) → AreClosedBy at (cs ++ when b d)
    by true = ends_with cs d top lt h
    by false = subst (AreClosedBy at) (sym (append_nil cs)) (ends_later cs top at (omega arith) h)

some_with : (cs : List ClosedSet) (d : ClosedSet) → is_something d.set ≡ true → AreSome cs → AreSome (cs ++ d ∷ [])
some_with [] d e h = (e, tt)
some_with (c ∷ cs) d e h = (h.0, some_with cs d e h.1)

-- and has sets in which something happens alone
pub traced_some : (cs : List ClosedSet) (at : ℕ) (base set : HappenedView) → AreSome cs → AreSome (cs ++ traced at base set)
traced_some cs at base set h =
    split (is_something set) (λ e. subst (λ b. AreSome (cs ++ when b d)) (sym e) (some_with cs d e h)) (λ e. subst (λ b. AreSome (cs ++ when b d)) (sym e) (subst AreSome (sym (append_nil cs)) h))
  where
    d : ClosedSet
    d = record { at = at; base = base; set = set }

-- the last set is that of now where that is its instant
pub last_set : (cs : List ClosedSet) (i low now : ℕ) (c : ClosedSet) → i + 1 ≡ length cs → get_or cs i c ≡ c → Ascends low cs → AreClosedBy now cs → c.at ≡ now → model_of cs now ≡ c.set
last_set [] i low now c n is a h at = absurd (omega (arith, n))
last_set (x ∷ []) zero low now c n is a h at =
    let same : nat_eq x.at now ≡ true = eq-eqb x.at now (ap (λ d. d.at) is ∙ at) in
    (λ j. if same j then x.set else nothing) ∙ ap (λ d. d.set) is
last_set (x ∷ []) (suc i) low now c n is a h at = absurd (omega (arith, n))
last_set (x ∷ y ∷ ys) zero low now c n is a h at = absurd (omega (arith, n))
last_set (x ∷ y ∷ ys) (suc i) low now c n is a h at =
    let apart : nat_eq x.at now ≡ false = ne_eqb x.at now (λ e. omega (arith, e, a.1.0, h.1.0)) in
    (λ j. if apart j then x.set else model_of (y ∷ ys) now) ∙ last_set (y ∷ ys) i x.at now c (omega (arith, n)) is a.1 h.1 at

-- and of another instant nothing happened at now
pub last_before : (cs : List ClosedSet) (i low now : ℕ) (c : ClosedSet) → i + 1 ≡ length cs → get_or cs i c ≡ c → Ascends low cs → AreClosedBy now cs → (c.at ≡ now → ⊥) → model_of cs now ≡ nothing
last_before [] i low now c n is a h ne = refl
last_before (x ∷ []) zero low now c n is a h ne =
    let apart : nat_eq x.at now ≡ false = ne_eqb x.at now (λ e. ne (sym (ap (λ d. d.at) is) ∙ e)) in
    λ j. if apart j then x.set else nothing
last_before (x ∷ []) (suc i) low now c n is a h ne = absurd (omega (arith, n))
last_before (x ∷ y ∷ ys) zero low now c n is a h ne = absurd (omega (arith, n))
last_before (x ∷ y ∷ ys) (suc i) low now c n is a h ne =
    let apart : nat_eq x.at now ≡ false = ne_eqb x.at now (λ e. omega (arith, e, a.1.0, h.1.0)) in
    (λ j. if apart j then x.set else model_of (y ∷ ys) now) ∙ last_before (y ∷ ys) i x.at now c (omega (arith, n)) is a.1 h.1 ne

-- the last set, where it is that of now, and else nothing
pub last_is : (cs : List ClosedSet) (low now : ℕ) (c : ClosedSet) (quiet : HappenedView) → slice_get cs (length cs - 1) ≡ Some c → Ascends low cs → AreClosedBy now cs → quiet ≡ nothing
    → cond (nat_eq c.at now) c.set quiet ≡ model_of cs now
last_is cs low now c quiet e a h none =
    let lt : length cs - 1 < length cs = slice_get_within cs _ c e in
    let n : length cs - 1 + 1 ≡ length cs = omega (arith, lt) in
    let is : get_or cs (length cs - 1) c ≡ c = get_or_from_slice_get cs _ c c e in
    split (nat_eq c.at now)
    (λ same. ap (λ b. cond b c.set quiet) same ∙ sym (last_set cs (length cs - 1) low now c n is a h (eqb-true c.at now same)))
    (λ apart. ap (λ b. cond b c.set quiet) apart ∙ none ∙ sym (last_before cs (length cs - 1) low now c n is a h (eqb-false c.at now apart)))
