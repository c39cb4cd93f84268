-- The first fault of lines together, by the places of the lines.
use Rattle.std.proofs.Common.{◌≡◌, ◌⊎◌, ℕ, zero, suc, ◌<◌, ◌≤◌, Bool, true, false, cond, not, ◌&&◌, ◌||◌, List, [], ◌∷◌, Option, Some, None, Result, Err, refl, sym, ap, ◌∙◌, subst, inl, inr, arith, nat_le}
use Rattle.std.specs.List.{list_any}
use Rattle.std.proofs.lemmas.Bool.{leb-true, le-leb, or_right}
use Rattle.gtrbac_model.specs.Graph.{item_at}
use Rattle.gtrbac_model.specs.EdgeCycles.{edge_cycle}
use Rattle.gtrbac_model.proofs.Elements.{split}
use Rattle.history_laws.proofs.Members.{clash}
use Rattle.policy_words.specs.declared.sayings.Kind.{Kind}
use Rattle.policy_words.specs.declared.claims.Claim.{Claim}
use Rattle.policy_words.specs.Sayings.{SaidView}
use Rattle.policy_words.specs.Reading.{Numbered}
use Rattle.policy_words.specs.Naming.{Names, NamedPolicy}
use Rattle.policy_words.specs.Making.{names_of, named_policy}
use Rattle.policy_words.specs.LinesTogether.{LinesFault, unknown, twice, many, cycle, is_known, claim_of, same_claim, is_claimed_by, is_claimed_again, may_be_again, kind_of, same_kind, is_of, most_of, count_of, many_at, fault_of_line, first_fault, said_in, without_cycle, without_fault, build}
use Rattle.policy_book.specs.FirstFaults.{ClaimsAgain, before_place, HasLineFault, IsFirstFault, NoFault, IsEdgeCycle, FaultsAreFirst}
use Rattle.policy_book.proofs.Lists.{some_same}
use Rattle.policy_book.proofs.Tallying.{same_itself}

-- claims at earlier places

-- the claim is that of a line at a place below k
record ClaimedBelow (ss : List (Numbered SaidView)) (k : ℕ) (c : Claim) : Type 0 where
  place : ℕ
  earlier : place < k
  line : Numbered SaidView
  stands : item_at ss place ≡ Some line
  by_line : is_claimed_by c line.it ≡ true

claimed_further : (s : Numbered SaidView) (ss : List (Numbered SaidView)) (k : ℕ) (c : Claim) → ClaimedBelow ss k c → ClaimedBelow (s ∷ ss) (suc k) c
claimed_further s ss k c b = record { place = suc b.place; earlier = omega (arith, b.earlier); line = b.line; stands = b.stands; by_line = b.by_line }

claimed_in : (c : Claim) (before : List SaidView) (ss : List (Numbered SaidView)) (k : ℕ) → list_any (is_claimed_by c) (before_place before ss k) ≡ true → (list_any (is_claimed_by c) before ≡ true) ⊎ ClaimedBelow ss k c
claimed_in c before ss zero h = inl h
claimed_in c before [] (suc k) h = inl h
claimed_in c before (s ∷ ss) (suc k) h = by (claimed_in c (s.it ∷ before) ss k h)
  where
    by : (list_any (is_claimed_by c) (s.it ∷ before) ≡ true) ⊎ ClaimedBelow ss k c → (list_any (is_claimed_by c) before ≡ true) ⊎ ClaimedBelow (s ∷ ss) (suc k) c
    by (inr b) = inr (claimed_further s ss k c b)
    by (inl q) =
        split (is_claimed_by c s.it) (λ e. inr (record { place = 0; earlier = omega arith; line = s; stands = refl; by_line = e }))
        (λ e. inl (sym (ap (λ b. b || list_any (is_claimed_by c) before) e) ∙ q))

claimed_grows : (c : Claim) (before : List SaidView) (ss : List (Numbered SaidView)) (k : ℕ) → list_any (is_claimed_by c) before ≡ true → list_any (is_claimed_by c) (before_place before ss k) ≡ true
claimed_grows c before ss zero h = h
claimed_grows c before [] (suc k) h = h
claimed_grows c before (s ∷ ss) (suc k) h = claimed_grows c (s.it ∷ before) ss k (or_right (is_claimed_by c s.it) _ h)

claimed_from : (c : Claim) (before : List SaidView) (ss : List (Numbered SaidView)) (k j : ℕ) (y : Numbered SaidView) → j < k → item_at ss j ≡ Some y → is_claimed_by c y.it ≡ true → list_any (is_claimed_by c) (before_place before ss k) ≡ true
claimed_from c before ss zero j y lt e h = absurd (omega arith)
claimed_from c before [] (suc k) j y lt e h = cc
claimed_from c before (s ∷ ss) (suc k) zero y lt e h =
    let same : s ≡ y = some_same s y e in
    claimed_grows c (s.it ∷ before) ss k (ap (λ z. is_claimed_by c z.it || list_any (is_claimed_by c) before) same ∙ ap (λ b. b || list_any (is_claimed_by c) before) h)
claimed_from c before (s ∷ ss) (suc k) (suc j) y lt e h = claimed_from c (s.it ∷ before) ss k j y (omega arith) e h

abbrev claimed_by : Claim → Option Claim → Bool
claimed_by c o = elim o [ None ↦ false | Some d ↦ same_claim c d ]

again_is : (ss : List (Numbered SaidView)) (k : ℕ) (x : SaidView) → is_claimed_again (before_place [] ss k) x ≡ true → ClaimsAgain ss k x
again_is ss k x h = by (claim_of x) refl h
  where
    told : (c : Claim) → claim_of x ≡ Some c → (b : ClaimedBelow ss k c) → (o : Option Claim) → claim_of b.line.it ≡ o → claimed_by c o ≡ true → ClaimsAgain ss k x
    told c e b None q h = cc
    told c e b (Some d) q h = record { place = b.place; earlier = b.earlier; line = b.line; stands = b.stands; claim = c; this = e; that = d; of_line = q; same = h }

    below : (c : Claim) → claim_of x ≡ Some c → (list_any (is_claimed_by c) [] ≡ true) ⊎ ClaimedBelow ss k c → ClaimsAgain ss k x
    below c e (inl q) = cc
    below c e (inr b) = told c e b (claim_of b.line.it) refl b.by_line

    by : (o : Option Claim) → claim_of x ≡ o → elim o [ None ↦ false | Some c ↦ list_any (is_claimed_by c) (before_place [] ss k) ] ≡ true → ClaimsAgain ss k x
    by None e h = cc
    by (Some c) e h = below c e (claimed_in c [] ss k h)

again_from : (ss : List (Numbered SaidView)) (k : ℕ) (x : SaidView) → ClaimsAgain ss k x → is_claimed_again (before_place [] ss k) x ≡ true
again_from ss k x a =
    ap (λ o. elim o [ None ↦ false | Some c ↦ list_any (is_claimed_by c) (before_place [] ss k) ]) a.this
    ∙ claimed_from a.claim [] ss k a.place a.line a.earlier a.stands (ap (claimed_by a.claim) a.of_line ∙ a.same)

-- one line

-- what is told of a line, by whether its names are known, whether it claims again and may, and its kind
abbrev told_many : ℕ → Bool → (Kind → Bool) → Option Kind → (Kind → ℕ) → Option LinesFault
told_many n a of o count = many_at n (elim o [ None ↦ None | Some l ↦ cond ((of l && not a) && nat_le (most_of l) (count l)) (Some l) None ])

abbrev told_by : ℕ → Bool → Bool → Bool → (Kind → Bool) → Option Kind → (Kind → ℕ) → Option LinesFault
told_by n k a m of o count = cond (not k) (Some (unknown n)) (cond (not m && a) (Some (twice n)) (told_many n a of o count))

abbrev Shape : ℕ → Bool → Bool → Bool → Option Kind → (Kind → ℕ) → LinesFault → Type 0
Shape n k a m o count (unknown x) = (x ≡ n) × (k ≡ false)
Shape n k a m o count (twice x) = (x ≡ n) × (k ≡ true) × (m ≡ false) × (a ≡ true)
Shape n k a m o count (many x l) = (x ≡ n) × (k ≡ true) × (a ≡ false) × (o ≡ Some l) × (most_of l ≤ count l)
Shape n k a m o count (cycle es) = ⊥

one_fault : (a b : LinesFault) → ◌≡◌ {A = Option LinesFault} (Some a) (Some b) → a ≡ b
one_fault a b e = cc

many_shape : (n : ℕ) (a m : Bool) (of : Kind → Bool) (o : Option Kind) (count : Kind → ℕ) (t : LinesFault) → told_many n a of o count ≡ Some t → Shape n true a m o count t
many_shape n a m of None count t e = cc
many_shape n a m of (Some l) count t e = by (of l) a (nat_le (most_of l) (count l)) refl refl e
  where
    by : (q b le : Bool) → a ≡ b → nat_le (most_of l) (count l) ≡ le → many_at n (cond ((q && not b) && le) (Some l) None) ≡ Some t → Shape n true a m (Some l) count t
    by true false true p r e = subst (Shape n true a m (Some l) count) (one_fault (many n l) t e) (refl, refl, p, refl, leb-true _ _ r)
    by true false false p r e = cc
    by true true le p r e = cc
    by false b le p r e = cc

told_shape : (n : ℕ) (k a m : Bool) (of : Kind → Bool) (o : Option Kind) (count : Kind → ℕ) (t : LinesFault) → told_by n k a m of o count ≡ Some t → Shape n k a m o count t
told_shape n false a m of o count t e = subst (Shape n false a m o count) (one_fault (unknown n) t e) (refl, refl)
told_shape n true true false of o count t e = subst (Shape n true true false o count) (one_fault (twice n) t e) (refl, refl, refl, refl)
told_shape n true false false of o count t e = many_shape n false false of o count t e
told_shape n true a true of o count t e = many_shape n a true of o count t e

shape_told : (n : ℕ) (k a m : Bool) (of : Kind → Bool) (o : Option Kind) (count : Kind → ℕ) → ((l : Kind) → o ≡ Some l → of l ≡ true)
    → (t : LinesFault) → Shape n k a m o count t → told_by n k a m of o count ≡ Some t
shape_told n k a m of o count is (unknown x) (p, q) = ap (λ z. told_by n z a m of o count) q ∙ ap (λ z. Some (unknown z)) (sym p)
shape_told n k a m of o count is (twice x) (p, q, r, s) = (λ i. told_by n (q i) (s i) (r i) of o count) ∙ ap (λ z. Some (twice z)) (sym p)
shape_told n k a m of o count is (many x l) (p, q, r, s, le) =
    (λ i. told_by n (q i) (r i) m of (s i) count) ∙ by m
    ∙ (λ i. many_at n (cond ((is l s i && true) && le-leb (most_of l) (count l) le i) (Some l) None)) ∙ ap (λ z. Some (many z l)) (sym p)
  where
    by : (b : Bool) → told_by n true false b of (Some l) count ≡ many_at n (cond ((of l && true) && nat_le (most_of l) (count l)) (Some l) None)
    by true = refl
    by false = refl
shape_told n k a m of o count is (cycle es) h = absurd h

is_of_kind : (x : SaidView) (l : Kind) → kind_of x ≡ Some l → is_of l x ≡ true
is_of_kind x l e = ap (λ o. elim o [ None ↦ false | Some j ↦ same_kind l j ]) e ∙ same_itself l

module _ (ns : Names) where
  module _ (ss : List (Numbered SaidView)) (k : ℕ) (s : Numbered SaidView) where
    abbrev counts : Kind → ℕ
    counts l = count_of l (before_place [] ss k)

    not_again : is_claimed_again (before_place [] ss k) s.it ≡ false → ClaimsAgain ss k s.it → ⊥
    not_again e a = clash _ (again_from ss k s.it a) e

    again_not : (ClaimsAgain ss k s.it → ⊥) → is_claimed_again (before_place [] ss k) s.it ≡ false
    again_not none = split (is_claimed_again (before_place [] ss k) s.it) (λ h. absurd (none (again_is ss k s.it h))) (λ e. e)

    from_shape : (t : LinesFault) → Shape s.line (is_known ns s.it) (is_claimed_again (before_place [] ss k) s.it) (may_be_again s.it) (kind_of s.it) counts t → HasLineFault ns ss k s t
    from_shape (unknown x) h = h
    from_shape (twice x) (p, q, r, a) = (p, q, r, again_is ss k s.it a)
    from_shape (many x l) (p, q, a, o, le) = (p, q, not_again a, o, le)
    from_shape (cycle es) h = h

    to_shape : (t : LinesFault) → HasLineFault ns ss k s t → Shape s.line (is_known ns s.it) (is_claimed_again (before_place [] ss k) s.it) (may_be_again s.it) (kind_of s.it) counts t
    to_shape (unknown x) h = h
    to_shape (twice x) (p, q, r, a) = (p, q, r, again_from ss k s.it a)
    to_shape (many x l) (p, q, a, o, le) = (p, q, again_not a, o, le)
    to_shape (cycle es) h = h

    has_fault : (t : LinesFault) → fault_of_line ns (before_place [] ss k) s ≡ Some t → HasLineFault ns ss k s t
    has_fault t e = from_shape t (told_shape s.line (is_known ns s.it) (is_claimed_again (before_place [] ss k) s.it) (may_be_again s.it) (λ l. is_of l s.it) (kind_of s.it) counts t e)

    fault_told : (t : LinesFault) → HasLineFault ns ss k s t → fault_of_line ns (before_place [] ss k) s ≡ Some t
    fault_told t h =
        shape_told s.line (is_known ns s.it) (is_claimed_again (before_place [] ss k) s.it) (may_be_again s.it) (λ l. is_of l s.it) (kind_of s.it) counts (is_of_kind s.it) t (to_shape t h)

    none_has : (t : LinesFault) → fault_of_line ns (before_place [] ss k) s ≡ None → HasLineFault ns ss k s t → ⊥
    none_has t e h = let told = fault_told t h in cc

    has_none : ((t : LinesFault) → HasLineFault ns ss k s t → ⊥) → fault_of_line ns (before_place [] ss k) s ≡ None
    has_none none = by (fault_of_line ns (before_place [] ss k) s) refl
      where
        by : (o : Option LinesFault) → fault_of_line ns (before_place [] ss k) s ≡ o → fault_of_line ns (before_place [] ss k) s ≡ None
        by None e = e
        by (Some t) e = absurd (none t (has_fault t e))

  -- all lines

  abbrev NoneBelow : List SaidView → List (Numbered SaidView) → ℕ → Type 0
  NoneBelow before ss k = (j : ℕ) (r : Numbered SaidView) → j < k → item_at ss j ≡ Some r → fault_of_line ns (before_place before ss j) r ≡ None

  none_further : (before : List SaidView) (s : Numbered SaidView) (ss : List (Numbered SaidView)) (k : ℕ) → fault_of_line ns before s ≡ None → NoneBelow (s.it ∷ before) ss k → NoneBelow before (s ∷ ss) (suc k)
  none_further before s ss k here more zero r lt e = subst (λ z. fault_of_line ns before z ≡ None) (some_same s r e) here
  none_further before s ss k here more (suc j) r lt e = more j r (omega arith) e

  record FirstAt (before : List SaidView) (ss : List (Numbered SaidView)) (t : LinesFault) : Type 0 where
    place : ℕ
    line : Numbered SaidView
    stands : item_at ss place ≡ Some line
    has : fault_of_line ns (before_place before ss place) line ≡ Some t
    least : NoneBelow before ss place

  first_at : (before : List SaidView) (ss : List (Numbered SaidView)) (t : LinesFault) → first_fault ns before ss ≡ Some t → FirstAt before ss t
  first_at before [] t e = cc
  first_at before (s ∷ ss) t e = by (fault_of_line ns before s) refl e (first_at (s.it ∷ before) ss t)
    where
      by : (o : Option LinesFault) → fault_of_line ns before s ≡ o → ◌≡◌ {A = Option LinesFault} (elim o [ Some u ↦ Some u | None ↦ first_fault ns (s.it ∷ before) ss ]) (Some t)
          → (first_fault ns (s.it ∷ before) ss ≡ Some t → FirstAt (s.it ∷ before) ss t) → FirstAt before (s ∷ ss) t
      by (Some u) p e on = record { place = 0; line = s; stands = refl; has = p ∙ e; least = λ j r lt q. absurd (omega arith) }
      by None p e on =
          let f = on e in
          record { place = suc f.place; line = f.line; stands = f.stands; has = f.has; least = none_further before s ss f.place p f.least }

  first_from : (before : List SaidView) (ss : List (Numbered SaidView)) (t : LinesFault) (k : ℕ) (s : Numbered SaidView) → item_at ss k ≡ Some s → fault_of_line ns (before_place before ss k) s ≡ Some t → NoneBelow before ss k → first_fault ns before ss ≡ Some t
  first_from before [] t k s e h none = cc
  first_from before (x ∷ ss) t zero s e h none =
      ap (λ o. elim o [ Some u ↦ Some u | None ↦ first_fault ns (x.it ∷ before) ss ]) (ap (λ z. fault_of_line ns before z) (some_same x s e) ∙ h)
  first_from before (x ∷ ss) t (suc k) s e h none =
      ap (λ o. elim o [ Some u ↦ Some u | None ↦ first_fault ns (x.it ∷ before) ss ]) (none 0 x (omega arith) refl)
      ∙ first_from (x.it ∷ before) ss t k s e h (λ j r lt q. none (suc j) r (omega arith) q)

  none_at : (before : List SaidView) (ss : List (Numbered SaidView)) → first_fault ns before ss ≡ None → (k : ℕ) → NoneBelow before ss k
  none_at before [] e k j r lt q = cc
  none_at before (s ∷ ss) e zero j r lt q = absurd (omega arith)
  none_at before (s ∷ ss) e (suc k) j r lt q = by (fault_of_line ns before s) refl e (none_at (s.it ∷ before) ss) j r lt q
    where
      by : (o : Option LinesFault) → fault_of_line ns before s ≡ o → ◌≡◌ {A = Option LinesFault} (elim o [ Some u ↦ Some u | None ↦ first_fault ns (s.it ∷ before) ss ]) None
          → (first_fault ns (s.it ∷ before) ss ≡ None → (k : ℕ) → NoneBelow (s.it ∷ before) ss k) → NoneBelow before (s ∷ ss) (suc k)
      by (Some u) p e on = cc
      by None p e on = none_further before s ss k p (on e k)

  none_from : (before : List SaidView) (ss : List (Numbered SaidView)) → ((k : ℕ) → NoneBelow before ss k) → first_fault ns before ss ≡ None
  none_from before [] none = refl
  none_from before (s ∷ ss) none =
      ap (λ o. elim o [ Some u ↦ Some u | None ↦ first_fault ns (s.it ∷ before) ss ]) (none 1 0 s (omega arith) refl)
      ∙ none_from (s.it ∷ before) ss (λ k j r lt q. none (suc k) (suc j) r (omega arith) q)

  module _ (ss : List (Numbered SaidView)) where
    first_told : (t : LinesFault) → first_fault ns [] ss ≡ Some t → IsFirstFault ns ss t
    first_told t e =
        let f = first_at [] ss t e in
        record {
          place = f.place;
          line = f.line;
          stands = f.stands;
          has = has_fault ss f.place f.line t f.has;
          least = λ j r u lt q. none_has ss j r u (f.least j r lt q);
        }

    told_first : (t : LinesFault) → IsFirstFault ns ss t → first_fault ns [] ss ≡ Some t
    told_first t f =
        first_from [] ss t f.place f.line f.stands (fault_told ss f.place f.line t f.has)
        (λ j r lt q. has_none ss j r (λ u. f.least j r u lt q))

    none_told : first_fault ns [] ss ≡ None → NoFault ns ss
    none_told e k j r u lt q = none_has ss j r u (none_at [] ss e k j r lt q)

    told_none : NoFault ns ss → first_fault ns [] ss ≡ None
    told_none none = none_from [] ss (λ k j r lt q. has_none ss j r (λ u. none k j r u lt q))

err_same : (a b : LinesFault) → ◌≡◌ {A = Result NamedPolicy LinesFault} (Err a) (Err b) → a ≡ b
err_same a b e = cc

module _ (ss : List (Numbered SaidView)) (t : LinesFault) where
  abbrev names : Names
  names = names_of (said_in ss)

  abbrev made : NamedPolicy
  made = named_policy (said_in ss)

  fault_is : build ss ≡ Err t → IsFirstFault names ss t ⊎ IsEdgeCycle ss t
  fault_is e = by (first_fault names [] ss) refl e
    where
      of_cycle : first_fault names [] ss ≡ None → (o : Option (List ℕ)) → edge_cycle made.policy.edges ≡ o → without_cycle made o ≡ Err t → IsEdgeCycle ss t
      of_cycle none None p e = cc
      of_cycle none (Some ns) p e = record { none = none_told names ss none; numbers = ns; is = p; told = sym (err_same _ _ e) }

      by : (o : Option LinesFault) → first_fault names [] ss ≡ o → without_fault o made ≡ Err t → IsFirstFault names ss t ⊎ IsEdgeCycle ss t
      by (Some u) p e = inl (first_told names ss t (p ∙ ap (λ z. Some z) (err_same u t e)))
      by None p e = inr (of_cycle p (edge_cycle made.policy.edges) refl e)

  is_fault : IsFirstFault names ss t ⊎ IsEdgeCycle ss t → build ss ≡ Err t
  is_fault (inl f) = ap (λ o. without_fault o made) (told_first names ss t f)
  is_fault (inr c) =
      ap (λ o. without_fault o made) (told_none names ss c.none) ∙ ap (without_cycle made) c.is ∙ ap (λ z. Err z) (sym c.told)

pub faults_are_first : FaultsAreFirst
faults_are_first ss t = (fault_is ss t, is_fault ss t)
