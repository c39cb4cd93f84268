-- Lists of lines in sections: what each reading takes is in its sections, and lines of two sections claim nothing alike.
use Rattle.std.proofs.Common.{◌≡◌, ℕ, ◌≤◌, Bool, true, false, cond, not, nat_eq, List, [], ◌∷◌, ◌++◌, map, length, filter, Option, Some, None, refl, sym, ap, ◌∙◌, subst, arith, inl, inr}
use Rattle.std.specs.List.{list_all, list_any, filter_map, cons_option, AllByRecursion}
use Rattle.std.proofs.lemmas.Bool.{or_parts, or_from, false_from_ne_true, eqb-true, eq-eqb, cond-false}
use Rattle.std.proofs.lemmas.List.{length-append}
use Rattle.std.proofs.lemmas.List.Elements.{filter_map-append, filter-append}
use Rattle.std.proofs.lemmas.List.Sums.{length-filter, count_by-le-length}
use Rattle.std.proofs.lemmas.List.Folds.{list_all-append, list_any-append}
use Rattle.gtrbac_model.proofs.Elements.{Elem, both_true, and_true, all_elim}
use Rattle.history_laws.proofs.Members.{clash}
use Rattle.policy_words.specs.declared.parts.NamedFluent.TheVariants as fluents
use Rattle.policy_words.specs.declared.sayings.Kind.{Kind}
use Rattle.policy_words.specs.declared.sayings.Kind.TheVariants as kinds
use Rattle.policy_words.specs.Sayings.{SaidView, version, role, user, perm, period, limit, edge, cap, admin, opening, entry, trigger}
use Rattle.policy_words.specs.declared.claims.Claim.{Claim}
use Rattle.policy_words.specs.declared.claims.Claim.TheVariants as claims
use Rattle.policy_words.specs.LinesTogether.{claim_of, same_claim, is_claimed_by, may_be_again, kind_of, same_kind, is_of}
use Rattle.policy_book.proofs.Lists.{repeats, some_same}
use Rattle.policy_book.proofs.Clashes.{clashes, one_kind}

-- the number of the section of the canonical text in which a line stands
abbrev pub section_of : SaidView → ℕ
section_of (version n) = 0
section_of (role n) = 1
section_of (user n) = 2
section_of (perm n) = 3
section_of (period n f l e) = 4
section_of (limit n p c most d) = 5
section_of (edge k st s j) = 6
section_of (cap k r n) = 7
section_of (admin u) = 8
section_of (opening (fluents.Enabled r)) = 9
section_of (opening (fluents.Assigned u r)) = 10
section_of (opening (fluents.Granted q r)) = 11
section_of (opening (fluents.Limit l)) = 12
section_of (opening (fluents.Edge s j)) = 13
section_of (entry f p h) = 14
section_of (trigger items h d) = 15

-- what claims something stands in the section of the claim
abbrev section_of_claim : Claim → ℕ
section_of_claim (claims.Role n) = 1
section_of_claim (claims.User n) = 2
section_of_claim (claims.Perm n) = 3
section_of_claim (claims.Period n) = 4
section_of_claim (claims.Limit n) = 5
section_of_claim (claims.Edge s j) = 6
section_of_claim (claims.Cap k r) = 7
section_of_claim (claims.Assigned u r) = 10
section_of_claim (claims.Granted q r) = 11

at_claim : (x : SaidView) (c : Claim) → claim_of x ≡ Some c → section_of x ≡ section_of_claim c
at_claim (role n) c e = ap section_of_claim (some_same (claims.Role n) c e)
at_claim (user n) c e = ap section_of_claim (some_same (claims.User n) c e)
at_claim (perm n) c e = ap section_of_claim (some_same (claims.Perm n) c e)
at_claim (period n f l ex) c e = ap section_of_claim (some_same (claims.Period n) c e)
at_claim (limit n p co most d) c e = ap section_of_claim (some_same (claims.Limit n) c e)
at_claim (edge k st s j) c e = ap section_of_claim (some_same (claims.Edge s j) c e)
at_claim (cap k r n) c e = ap section_of_claim (some_same (claims.Cap k r) c e)
at_claim (opening (fluents.Assigned u r)) c e = ap section_of_claim (some_same (claims.Assigned u r) c e)
at_claim (opening (fluents.Granted q r)) c e = ap section_of_claim (some_same (claims.Granted q r) c e)
at_claim (opening (fluents.Enabled r)) c e = cc
at_claim (opening (fluents.Limit l)) c e = cc
at_claim (opening (fluents.Edge s j)) c e = cc
at_claim _ c e = cc

same_section : (c d : Claim) → same_claim c d ≡ true → section_of_claim c ≡ section_of_claim d
same_section (claims.Role n) (claims.Role m) e = refl
same_section (claims.User n) (claims.User m) e = refl
same_section (claims.Perm n) (claims.Perm m) e = refl
same_section (claims.Period n) (claims.Period m) e = refl
same_section (claims.Limit n) (claims.Limit m) e = refl
same_section (claims.Edge s j) (claims.Edge t k) e = refl
same_section (claims.Cap k n) (claims.Cap l m) e = refl
same_section (claims.Assigned s j) (claims.Assigned t k) e = refl
same_section (claims.Granted s j) (claims.Granted t k) e = refl
same_section _ _ e = cc

-- lines that clash stand in one section
pub clash_section : (x y : SaidView) → clashes x y ≡ true → section_of x ≡ section_of y
clash_section x y e = by (claim_of y) (claim_of x) refl refl (both_true (not (may_be_again y)) _ e).1
  where
    by : (o s : Option Claim) → claim_of y ≡ o → claim_of x ≡ s → elim o [ None ↦ false | Some c ↦ is_claimed_by c x ] ≡ true → section_of x ≡ section_of y
    by None s p q e = cc
    by (Some c) None p q e = let never : false ≡ true = ap (λ z. elim z [ None ↦ false | Some d ↦ same_claim c d ]) (sym q) ∙ e in cc
    by (Some c) (Some d) p q e =
        let same : same_claim c d ≡ true = ap (λ z. elim z [ None ↦ false | Some d ↦ same_claim c d ]) (sym q) ∙ e in
        at_claim x d q ∙ sym (same_section c d same) ∙ sym (at_claim y c p)

abbrev pub section_of_kind : Kind → ℕ
section_of_kind kinds.Roles = 1
section_of_kind kinds.Users = 2
section_of_kind kinds.Perms = 3
section_of_kind kinds.Periods = 4
section_of_kind kinds.Limits = 5
section_of_kind kinds.Edges = 6
section_of_kind kinds.Entries = 14
section_of_kind kinds.Triggers = 15
section_of_kind kinds.Assigned = 10
section_of_kind kinds.Granted = 11

at_kind : (x : SaidView) (k : Kind) → kind_of x ≡ Some k → section_of x ≡ section_of_kind k
at_kind (role n) k e = ap section_of_kind (some_same kinds.Roles k e)
at_kind (user n) k e = ap section_of_kind (some_same kinds.Users k e)
at_kind (perm n) k e = ap section_of_kind (some_same kinds.Perms k e)
at_kind (period n f l ex) k e = ap section_of_kind (some_same kinds.Periods k e)
at_kind (limit n p co most d) k e = ap section_of_kind (some_same kinds.Limits k e)
at_kind (edge kd st s j) k e = ap section_of_kind (some_same kinds.Edges k e)
at_kind (entry f p h) k e = ap section_of_kind (some_same kinds.Entries k e)
at_kind (trigger is h d) k e = ap section_of_kind (some_same kinds.Triggers k e)
at_kind (opening (fluents.Assigned u r)) k e = ap section_of_kind (some_same kinds.Assigned k e)
at_kind (opening (fluents.Granted q r)) k e = ap section_of_kind (some_same kinds.Granted k e)
at_kind (opening (fluents.Enabled r)) k e = cc
at_kind (opening (fluents.Limit l)) k e = cc
at_kind (opening (fluents.Edge s j)) k e = cc
at_kind _ k e = cc

pub kind_section : (k : Kind) (x : SaidView) → is_of k x ≡ true → section_of x ≡ section_of_kind k
kind_section k x e = by (kind_of x) refl e
  where
    by : (o : Option Kind) → kind_of x ≡ o → elim o [ None ↦ false | Some l ↦ same_kind k l ] ≡ true → section_of x ≡ section_of_kind k
    by None p e = cc
    by (Some l) p e = at_kind x l p ∙ ap section_of_kind (sym (one_kind k l e))

-- sections by their numbers, joined
abbrev pub joined : List (ℕ × List SaidView) → List SaidView
joined [] = []
joined (s ∷ ss) = s.1 ++ joined ss

-- the sections whose numbers pass the test, joined
abbrev pub picked : (ℕ → Bool) → List (ℕ × List SaidView) → List SaidView
picked p [] = []
picked p (s ∷ ss) = cond (p s.0) (s.1 ++ picked p ss) (picked p ss)

abbrev pub is_in : ℕ → SaidView → Bool
is_in t x = nat_eq (section_of x) t

abbrev pub AreSections : List (ℕ × List SaidView) → Type 0
AreSections ss = AllByRecursion (λ s. list_all (is_in s.0) s.1 ≡ true) ss

none_there : {B : Type 0} (f : SaidView → Option B) (p : ℕ → Bool) → ((x : SaidView) → p (section_of x) ≡ false → f x ≡ None) → (t : ℕ) → p t ≡ false → (xs : List SaidView) → list_all (is_in t) xs ≡ true → filter_map f xs ≡ []
none_there f p off t e [] h = refl
none_there f p off t e (x ∷ xs) h =
    let parts = both_true (is_in t x) _ h in
    ap (λ o. cons_option o (filter_map f xs)) (off x (ap p (eqb-true (section_of x) t parts.0) ∙ e)) ∙ none_there f p off t e xs parts.1

-- what a partial map keeps that is nothing outside some sections
pub kept_of : {B : Type 0} (f : SaidView → Option B) (p : ℕ → Bool) → ((x : SaidView) → p (section_of x) ≡ false → f x ≡ None) → (ss : List (ℕ × List SaidView)) → AreSections ss → filter_map f (joined ss) ≡ filter_map f (picked p ss)
kept_of f p off [] h = refl
kept_of {B} f p off (s ∷ ss) h = filter_map-append f s.1 (joined ss) ∙ by (p s.0) refl (kept_of f p off ss h.1)
  where
    by : (b : Bool) → p s.0 ≡ b → filter_map f (joined ss) ≡ filter_map f (picked p ss) → filter_map f s.1 ++ filter_map f (joined ss) ≡ filter_map f (cond b (s.1 ++ picked p ss) (picked p ss))
    by true e on = ap (λ zs. filter_map f s.1 ++ zs) on ∙ sym (filter_map-append f s.1 (picked p ss))
    by false e on = ap (λ zs. zs ++ filter_map f (joined ss)) (none_there f p off s.0 e s.1 h.0) ∙ on

none_pass : (q : SaidView → Bool) (p : ℕ → Bool) → ((x : SaidView) → p (section_of x) ≡ false → q x ≡ false) → (t : ℕ) → p t ≡ false → (xs : List SaidView) → list_all (is_in t) xs ≡ true → filter q xs ≡ []
none_pass q p off t e [] h = refl
none_pass q p off t e (x ∷ xs) h =
    let parts = both_true (is_in t x) _ h in
    cond-false (q x) _ _ (off x (ap p (eqb-true (section_of x) t parts.0) ∙ e)) ∙ none_pass q p off t e xs parts.1

-- no more pass a test than there are in its sections
pub few_of : (q : SaidView → Bool) (p : ℕ → Bool) → ((x : SaidView) → p (section_of x) ≡ false → q x ≡ false) → (ss : List (ℕ × List SaidView)) → AreSections ss → length (filter q (joined ss)) ≤ length (picked p ss)
few_of q p off [] h = omega arith
few_of q p off (s ∷ ss) h = subst (λ z. length z ≤ length (picked p (s ∷ ss))) (sym (filter-append q s.1 (joined ss))) (by (p s.0) refl (few_of q p off ss h.1))
  where
    by : (b : Bool) → p s.0 ≡ b → length (filter q (joined ss)) ≤ length (picked p ss) → length (filter q s.1 ++ filter q (joined ss)) ≤ length (cond b (s.1 ++ picked p ss) (picked p ss))
    by true e on = omega (arith, length-append (filter q s.1) (filter q (joined ss)), length-append s.1 (picked p ss), length-filter q s.1, count_by-le-length q s.1)
    by false e on = subst (λ z. length (z ++ filter q (joined ss)) ≤ length (picked p ss)) (sym (none_pass q p off s.0 e s.1 h.0)) on

pub all_joined : (q : SaidView → Bool) (ss : List (ℕ × List SaidView)) → AllByRecursion (λ s. list_all q s.1 ≡ true) ss → list_all q (joined ss) ≡ true
all_joined q [] h = refl
all_joined q (s ∷ ss) h = list_all-append q s.1 (joined ss) ∙ and_true _ _ h.0 (all_joined q ss h.1)

-- lists of which no item of the first stands in the relation to one of the second
pub apart_join : {A : Type 0} (r : A → A → Bool) (xs ys : List A) → repeats r xs ≡ false → repeats r ys ≡ false → ((x : A) → Elem xs x → list_any (r x) ys ≡ false) → repeats r (xs ++ ys) ≡ false
apart_join r [] ys h k on = k
apart_join r (x ∷ xs) ys h k on =
    let parts = or_parts (list_any (r x) xs) _ h in
    or_from (list_any (r x) (xs ++ ys)) _ (list_any-append (r x) xs ys ∙ or_from _ _ parts.0 (on x (inl refl))) (apart_join r xs ys parts.1 k (λ z m. on z (inr m)))

-- sections of different numbers have no clash between them
pub apart_joined : (ss : List (ℕ × List SaidView)) → AreSections ss → repeats nat_eq (map (λ s. s.0) ss) ≡ false → AllByRecursion (λ s. repeats clashes s.1 ≡ false) ss → repeats clashes (joined ss) ≡ false
apart_joined [] h d a = refl
apart_joined (s ∷ ss) h d a =
    let parts = or_parts (list_any (nat_eq s.0) (map (λ s. s.0) ss)) _ d in
    apart_join clashes s.1 (joined ss) a.0 (apart_joined ss h.1 parts.1 a.1) (λ x m. none_later x (eqb-true (section_of x) s.0 (all_elim (is_in s.0) s.1 x h.0 m)) ss h.1 parts.0)
  where
    none_in : (x : SaidView) → section_of x ≡ s.0 → (t : ℕ) → nat_eq s.0 t ≡ false → (xs : List SaidView) → list_all (is_in t) xs ≡ true → list_any (clashes x) xs ≡ false
    none_in x e t other [] k = refl
    none_in x e t other (y ∷ ys) k =
        let ks = both_true (is_in t y) _ k in
        or_from (clashes x y) _ (false_from_ne_true _ (λ c. clash _ (eq-eqb s.0 t (sym e ∙ clash_section x y c ∙ eqb-true (section_of y) t ks.0)) other)) (none_in x e t other ys ks.1)

    none_later : (x : SaidView) → section_of x ≡ s.0 → (more : List (ℕ × List SaidView)) → AreSections more → list_any (nat_eq s.0) (map (λ s. s.0) more) ≡ false → list_any (clashes x) (joined more) ≡ false
    none_later x e [] k f = refl
    none_later x e (t ∷ more) k f =
        let fs = or_parts (nat_eq s.0 t.0) _ f in
        list_any-append (clashes x) t.1 (joined more) ∙ or_from _ _ (none_in x e t.0 fs.0 t.1 k.0) (none_later x e more k.1 fs.1)
