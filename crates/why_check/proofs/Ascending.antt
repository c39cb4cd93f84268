-- What ascending certificates list at an instant.
use Rattle.std.proofs.Common.{◌≡◌, ℕ, ◌<◌, ◌≤◌, Bool, true, false, nat_eq, List, [], ◌∷◌, ◌++◌, Some, None, refl, sym, ◌∙◌, arith, if◌then◌else◌}
use Rattle.std.proofs.lemmas.Bool.{eq-eqb, ne_eqb}
use Rattle.why_check.specs.Certificates.{Listed, listed_at, ListedAscend}

-- the first of a list that ascends, by whether it is of the instant
pub at_first : (l : Listed) (ls : List Listed) (t : ℕ) → l.at ≡ t → listed_at (l ∷ ls) t ≡ Some l
at_first l ls t e = λ i. if eq-eqb l.at t e i then Some l else listed_at ls t

pub past_first : (l : Listed) (ls : List Listed) (t : ℕ) → (l.at ≡ t → ⊥) → listed_at (l ∷ ls) t ≡ listed_at ls t
past_first l ls t ne = λ i. if ne_eqb l.at t ne i then Some l else listed_at ls t

-- up to where a list begins it lists nothing
pub none_before : (first last t : ℕ) (ls : List Listed) → ListedAscend first last ls → t ≤ first → listed_at ls t ≡ None
none_before first last t [] a le = refl
none_before first last t (l ∷ ls) a le = past_first l ls t (λ e. omega (arith, a.0, le, e)) ∙ none_before l.at last t ls a.2 (omega (arith, a.0, le))

-- nor past where it ends
pub none_after : (first last t : ℕ) (ls : List Listed) → ListedAscend first last ls → last < t → listed_at ls t ≡ None
none_after first last t [] a lt = refl
none_after first last t (l ∷ ls) a lt = past_first l ls t (λ e. omega (arith, a.1, lt, e)) ∙ none_after l.at last t ls a.2 lt

pub later_than : (first last : ℕ) (xs ls : List Listed) (l : Listed) → ListedAscend first last (xs ++ l ∷ ls) → (first < l.at) × (l.at ≤ last)
later_than first last [] ls l a = (a.0, a.1)
later_than first last (x ∷ xs) ls l a = let more = later_than x.at last xs ls l a.2 in (omega (arith, a.0, more.0), more.1)

-- an item of a list that ascends is what it lists at its instant, and none before it is of that instant
pub listed_there : (first last : ℕ) (xs ls : List Listed) (l : Listed) → ListedAscend first last (xs ++ l ∷ ls) → listed_at (xs ++ l ∷ ls) l.at ≡ Some l
listed_there first last [] ls l a = at_first l ls l.at refl
listed_there first last (x ∷ xs) ls l a =
    past_first x (xs ++ l ∷ ls) l.at (λ e. omega (arith, (later_than x.at last xs ls l a.2).0, e)) ∙ listed_there x.at last xs ls l a.2

pub not_in_front : (first last : ℕ) (xs ls : List Listed) (l : Listed) → ListedAscend first last (xs ++ l ∷ ls) → listed_at xs l.at ≡ None
not_in_front first last [] ls l a = refl
not_in_front first last (x ∷ xs) ls l a =
    past_first x xs l.at (λ e. omega (arith, (later_than x.at last xs ls l a.2).0, e)) ∙ not_in_front x.at last xs ls l a.2

-- where the front lists nothing at an instant, the rest decides
pub rest_decides : (xs ls : List Listed) (t : ℕ) → listed_at xs t ≡ None → listed_at (xs ++ ls) t ≡ listed_at ls t
rest_decides [] ls t e = refl
rest_decides (x ∷ xs) ls t e = by (nat_eq x.at t) refl (rest_decides xs ls t)
  where
    by : (b : Bool) → nat_eq x.at t ≡ b → (listed_at xs t ≡ None → listed_at (xs ++ ls) t ≡ listed_at ls t) → listed_at (x ∷ xs ++ ls) t ≡ listed_at ls t
    by true q rest = let there : Some x ≡ None = sym (λ i. if q i then Some x else listed_at xs t) ∙ e in cc
    by false q rest = (λ i. if q i then Some x else listed_at (xs ++ ls) t) ∙ rest (sym (λ i. if q i then Some x else listed_at xs t) ∙ e)

-- the end of a list that is cut
pub back : (first last : ℕ) (xs ls : List Listed) → ListedAscend first last (xs ++ ls) → (low : ℕ) × (first ≤ low) × ListedAscend low last ls
back first last [] ls a = (first, omega arith, a)
back first last (x ∷ xs) ls a = let (low, le, more) = back x.at last xs ls a.2 in (low, omega (arith, a.0, le), more)

-- one more at the end, and a later end
pub ascends_more : (first last : ℕ) (xs : List Listed) (l : Listed) → ListedAscend first last xs → first ≤ last → last < l.at → ListedAscend first l.at (xs ++ l ∷ [])
ascends_more first last [] l a le lt = (omega (arith, le, lt), omega arith, tt)
ascends_more first last (x ∷ xs) l a le lt = (a.0, omega (arith, a.1, lt), ascends_more x.at last xs l a.2 a.1 lt)

pub ascends_on : (first last later : ℕ) (xs : List Listed) → ListedAscend first last xs → last ≤ later → ListedAscend first later xs
ascends_on first last later [] a le = tt
ascends_on first last later (x ∷ xs) a le = (a.0, omega (arith, a.1, le), ascends_on x.at last later xs a.2 le)

-- before one more at the end nothing changes
pub front_stays : (xs : List Listed) (l : Listed) (t : ℕ) → t < l.at → listed_at (xs ++ l ∷ []) t ≡ listed_at xs t
front_stays [] l t lt = past_first l [] t (λ e. omega (arith, lt, e))
front_stays (x ∷ xs) l t lt = λ i. if nat_eq x.at t then Some x else front_stays xs l t lt i
