-- Finite sets, kept in an order of their members. `FinSet` of std is the same, but computes nothing
-- outside its file.
use Rattle.std.specs.Prelude.{◌≡◌, ℕ, Bool, true, false, not, T, List, [], ◌∷◌, map, insert, is_some, refl}
use Rattle.std.proofs.Common.{sym, subst}
use mathlib.Core.HLevel.{Σ_prop_path}
use lib.Dec.{T_prop}
use base.Stored.{Coded, coded×, coded_list, coded_unit, coded_via}
use Rattle.std.specs.List.{list_any}
use Rattle.std.specs.declared.cmp.Ordering.{Ordering}
use Rattle.std.specs.FinMap.Entries.{find, put, is_sorted, where_key, is_sorted-where_key}
use Rattle.std.specs.Ordering.{eq_by_cmp}

-- the members, ascending; a pair with nothing in it, since std's lists of entries have pairs
pub record SetOf {K : Type 0} (R : K → K → Ordering) : Type 0 where
  pub entries : List (K × Unit {0})
  pub ascending : T (is_sorted R entries)

abbrev pub pairs : {K : Type 0} → List K → List (K × Unit {0})
pairs ks = map (λ k. (k, tt)) ks

module _ {K : Type 0} {R : K → K → Ordering} where
  pub same_entries_set : (s t : SetOf R) → s.entries ≡ t.entries → s ≡ t
  same_entries_set s t e =
      let pairs : ◌≡◌ {A = (es : List (K × Unit {0})) × T (is_sorted R es)} (s.entries, s.ascending)
      (t.entries, t.ascending) = Σ_prop_path (λ es. T_prop _) e in
      λ i. record { entries = (pairs i).0; ascending = (pairs i).1 }

  abbrev pub set_code : Coded K → Coded (SetOf R)
  set_code k = coded_via (coded_list (coded× k coded_unit)) (λ s. s.entries) same_entries_set

  -- the members, ascending
  unfoldable pub members : SetOf R → List K
  members s = map (λ e. e.0) s.entries

  unfoldable pub has : SetOf R → K → Bool
  has s k = is_some (find R k s.entries)

  -- whether a member passes the test
  abbrev pub some_member : (K → Bool) → SetOf R → Bool
  some_member p s = list_any p (members s)

  unfoldable pub none : SetOf R
  none = record { entries = []; ascending = tt }

  -- an order that is not total may leave a list out of order, and then the set is the one given
  unfoldable pub checked : (es : List (K × Unit {0})) (b : Bool) → is_sorted R es ≡ b → SetOf R
      → SetOf R
  checked es true e s = record { entries = es; ascending = subst T (sym e) tt }
  checked es false e s = s

  unfoldable pub with_member : SetOf R → K → SetOf R
  with_member s k = checked (put R k tt s.entries) _ refl s

  -- the members that pass the test
  unfoldable pub those : SetOf R → (K → Bool) → SetOf R
  those s p = record {
    entries = where_key R p s.entries;
    ascending = is_sorted-where_key R p s.entries s.ascending;
  }

  abbrev pub without : SetOf R → K → SetOf R
  without s k = those s (λ x. not (eq_by_cmp R k x))

  -- the set of a list's items
  abbrev pub set_of : List K → SetOf R
  set_of [] = none
  set_of (k ∷ ks) = with_member (set_of ks) k

  -- the set of a list that rises, and of another the empty set
  unfoldable pub set_of_rising : List K → SetOf R
  set_of_rising ks = checked (pairs ks) _ refl none

abbrev pub Rises : {K : Type 0} → (K → K → Ordering) → List K → Type 0
Rises R ks = T (is_sorted R (pairs ks))

-- the item is not in the rising list, and goes in at this place
pub record GoesIn {K : Type 0} (R : K → K → Ordering) (k : K) (ks : List K) (i : ℕ) : Type 0 where
  pub absent : has (set_of_rising {R = R} ks) k ≡ false
  pub rises : Rises R (insert ks i k)
  pub put_in : set_of_rising {R = R} (insert ks i k) ≡ with_member (set_of_rising ks) k
