-- What is on at first: pairs that count once, and the members of the set of a list.
use Rattle.std.proofs.Common.{◌≡◌, ℕ, zero, suc, ◌+◌, ◌≤◌, ◌<◌, Bool, true, false, cond, not, ◌||◌, List, [], ◌∷◌, ◌++◌, map, length, filter, Option, Some, None, refl, sym, ap, ◌∙◌, subst, arith, zero-add, inl, inr}
use Rattle.std.specs.Prelude.{bytes_eq, position}
use Rattle.std.specs.List.{list_any, list_all}
use Rattle.std.specs.Cmp.{IsTotalOrder}
use Rattle.std.specs.FinMap.{IsAntisymmetric}
use Rattle.std.specs.FinMap.Entries.{put, is_sorted-put, by_order}
use Rattle.std.specs.declared.cmp.Ordering.{Ordering}
use Rattle.std.specs.declared.cmp.Ordering.TheVariants.{Less, Equal, Greater}
use Rattle.std.proofs.lemmas.Bool.{or_right}
use Rattle.gt_base.specs.Sets.{SetOf, members, with_member, set_of}
use Rattle.gt_base.specs.declared.events.Fluent.{Fluent}
use Rattle.gt_base.specs.declared.events.Fluent.TheVariants as base
use Rattle.gt_base.specs.Orders.{fluent_cmp}
use Rattle.gt_base.proofs.SetLaws.{entries-checked, members-none}
use Rattle.gt_base.proofs.SetSteps.{fluent_cmp_total}
use Rattle.gt_base.proofs.OrderLaws.{fluent_cmp-IsAntisymmetric}
use Rattle.gtrbac_model.specs.Same.{same_fluent, lists}
use Rattle.gtrbac_model.proofs.Elements.{Elem, both_true, and_true, any_intro, any_elim, all_elim, all_intro, has_of_elem, elem_of_set_of, tied, split}
use Rattle.history_laws.proofs.Members.{clash, in_last}
use Rattle.gtrbac_model.specs.WholePolicy.{is_assignment, is_grant}
use Rattle.policy_words.specs.declared.parts.NamedFluent.TheVariants as fluents
use Rattle.policy_words.specs.declared.sayings.Kind.{Kind}
use Rattle.policy_words.specs.declared.sayings.Kind.TheVariants as kinds
use Rattle.policy_words.specs.Sayings.{SaidView, opening}
use Rattle.policy_words.specs.declared.claims.Claim.{Claim}
use Rattle.policy_words.specs.declared.claims.Claim.TheVariants as claims
use Rattle.policy_words.specs.Naming.{Names, same_pair, role_of, user_of, perm_of, limit_of}
use Rattle.policy_words.specs.Making.{with_new, opening_said, edges_from}
use Rattle.policy_words.specs.LinesTogether.{is_claimed_by, is_claimed_again, is_of, counts_for, count_of}
use Rattle.policy_book.proofs.Lists.{bound, some_same, bytes_same}
use Rattle.policy_book.proofs.DraftedLines.{opened}

-- counts

pub count_more : {A : Type 0} (p : A → Bool) (x : A) (xs : List A) → length (filter p (x ∷ xs)) ≡ cond (p x) 1 0 + length (filter p xs)
count_more p x xs = by (p x)
  where
    by : (b : Bool) → length (cond b (x ∷ filter p xs) (filter p xs)) ≡ cond b 1 0 + length (filter p xs)
    by true = omega arith
    by false = omega arith

count_last : {A : Type 0} (p : A → Bool) (xs : List A) (x : A) → length (filter p (xs ++ x ∷ [])) ≡ length (filter p xs) + cond (p x) 1 0
count_last p [] x = omega (arith, count_more p x [])
count_last p (y ∷ ys) x = omega (arith, count_more p y (ys ++ x ∷ []), count_more p y ys, count_last p ys x)

one_at : (b : Bool) → b ≡ true → ◌≡◌ {A = ℕ} (cond b 1 0) 1
one_at true e = refl
one_at false e = cc

none_at : (b : Bool) → b ≡ false → ◌≡◌ {A = ℕ} (cond b 1 0) 0
none_at false e = refl
none_at true e = cc

-- members of the set of a list

module _ {K : Type 0} {R : K → K → Ordering} (o : IsTotalOrder R) (same : IsAntisymmetric R) where
  pub members_all : (p : K → Bool) (ks : List K) → list_all p ks ≡ true → list_all p (members (set_of {R = R} ks)) ≡ true
  members_all p ks h = all_intro p _ (λ x m. all_elim p ks x h (elem_of_set_of o same ks x (has_of_elem o same _ x m)))

  put_count : (p : K → Bool) (k : K) (es : List (K × Unit {0})) → length (filter p (map (λ e. e.0) (put R k tt es))) ≤ cond (p k) 1 0 + length (filter p (map (λ e. e.0) es))
  put_count p k [] = omega (arith, count_more p k [])
  put_count p k (e ∷ es) = by (R k e.0) (put_count p k es)
    where
      by : (r : Ordering) → length (filter p (map (λ e. e.0) (put R k tt es))) ≤ cond (p k) 1 0 + length (filter p (map (λ e. e.0) es))
          → length (filter p (map (λ e. e.0) (by_order r ((k, tt) ∷ e ∷ es) ((e.0, tt) ∷ es) (e ∷ put R k tt es)))) ≤ cond (p k) 1 0 + length (filter p (e.0 ∷ map (λ e. e.0) es))
      by Less le = omega (arith, count_more p k (e.0 ∷ map (λ e. e.0) es))
      by Equal le = omega arith
      by Greater le = omega (arith, count_more p e.0 (map (λ e. e.0) (put R k tt es)), count_more p e.0 (map (λ e. e.0) es), le)

  with_count : (p : K → Bool) (s : SetOf R) (k : K) → length (filter p (members (with_member s k))) ≤ cond (p k) 1 0 + length (filter p (members s))
  unfolding members with_member
  with_count p s k =
      subst (λ es. length (filter p (map (λ e. e.0) es)) ≤ cond (p k) 1 0 + length (filter p (map (λ e. e.0) s.entries)))
      (sym (entries-checked _ _ refl s (is_sorted-put R o k tt s.entries s.ascending))) (put_count p k s.entries)

  pub members_count : (p : K → Bool) (ks : List K) → length (filter p (members (set_of {R = R} ks))) ≤ length (filter p ks)
  members_count p [] = subst (λ z. length (filter p z) ≤ 0) (sym (members-none R)) (omega arith)
  members_count p (k ∷ ks) = omega (arith, with_count p (set_of ks) k, members_count p ks, count_more p k ks)

pub opening_all : (p : Fluent → Bool) (fs : List Fluent) → list_all p fs ≡ true → list_all p (members (set_of {R = fluent_cmp} fs)) ≡ true
opening_all p fs h = members_all fluent_cmp_total fluent_cmp-IsAntisymmetric p fs h

pub opening_count : (p : Fluent → Bool) (fs : List Fluent) → length (filter p (members (set_of {R = fluent_cmp} fs))) ≤ length (filter p fs)
opening_count p fs = members_count fluent_cmp_total fluent_cmp-IsAntisymmetric p fs

-- edges that are linked at first

pub edges_all : (p : Fluent → Bool) (most n k : ℕ) → ((e : ℕ) → e < most → p (base.Edge e) ≡ true) → n + k ≤ most → list_all p (edges_from n k) ≡ true
edges_all p most n zero on le = refl
edges_all p most n (suc k) on le = and_true _ _ (on n (omega arith)) (edges_all p most (n + 1) k on (omega arith))

-- they do not count for a test that no edge passes
pub edges_none : (p : Fluent → Bool) → ((e : ℕ) → p (base.Edge e) ≡ false) → (n k : ℕ) (fs : List Fluent) → length (filter p (edges_from n k ++ fs)) ≡ length (filter p fs)
edges_none p off n zero fs = refl
edges_none p off n (suc k) fs =
    count_more p (base.Edge n) (edges_from (n + 1) k ++ fs) ∙ ap (λ b. cond b 1 0 + length (filter p (edges_from (n + 1) k ++ fs))) (off n) ∙ zero-add _ ∙ edges_none p off (n + 1) k fs

-- opening lines

-- what a line opens is listed
pub listed : (ns : Names) (before : List SaidView) (y : SaidView) (f : Fluent) → Elem before y → opening_said ns y ≡ Some f → lists same_fluent (opened ns before) f ≡ true
listed ns [] y f m e = elim m [ ]
listed ns (x ∷ before) y f (inl same) e = subst (λ o. lists same_fluent (with_new same_fluent o (opened ns before)) f ≡ true) (sym (ap (opening_said ns) (sym same) ∙ e)) (by (lists same_fluent (opened ns before) f) refl)
  where
    by : (b : Bool) → lists same_fluent (opened ns before) f ≡ b → lists same_fluent (cond b (opened ns before) (opened ns before ++ f ∷ [])) f ≡ true
    by true q = q
    by false q = any_intro (same_fluent f) (opened ns before ++ f ∷ []) f (in_last (opened ns before) f) (tied fluent_cmp_total fluent_cmp-IsAntisymmetric f f refl)
listed ns (x ∷ before) y f (inr m) e = by (opening_said ns x) (listed ns before y f m e)
  where
    longer : (xs : List Fluent) (g : Fluent) → lists same_fluent xs f ≡ true → lists same_fluent (xs ++ g ∷ []) f ≡ true
    longer [] g h = cc
    longer (z ∷ zs) g h = split (same_fluent f z) (λ q. ap (λ b. b || list_any (same_fluent f) (zs ++ g ∷ [])) q) (λ q. or_right (same_fluent f z) _ (longer zs g (ap (λ b. b || list_any (same_fluent f) zs) (sym q) ∙ h)))

    by : (o : Option Fluent) → lists same_fluent (opened ns before) f ≡ true → lists same_fluent (with_new same_fluent o (opened ns before)) f ≡ true
    by None h = h
    by (Some g) h = new (lists same_fluent (opened ns before) g)
      where
        new : (b : Bool) → lists same_fluent (cond b (opened ns before) (opened ns before ++ g ∷ [])) f ≡ true
        new true = h
        new false = longer (opened ns before) g h

pub opened_all : (ns : Names) (p : Fluent → Bool) → ((x : SaidView) (f : Fluent) → opening_said ns x ≡ Some f → p f ≡ true) → (before : List SaidView) → list_all p (opened ns before) ≡ true
opened_all ns p on [] = refl
opened_all ns p on (x ∷ before) = by (opening_said ns x) refl (opened_all ns p on before)
  where
    last : (fs : List Fluent) (f : Fluent) → list_all p fs ≡ true → p f ≡ true → list_all p (fs ++ f ∷ []) ≡ true
    last [] f h e = and_true _ _ e refl
    last (g ∷ fs) f h e = let parts = both_true (p g) _ h in and_true _ _ parts.0 (last fs f parts.1 e)

    by : (o : Option Fluent) → opening_said ns x ≡ o → list_all p (opened ns before) ≡ true → list_all p (with_new same_fluent o (opened ns before)) ≡ true
    by None e h = h
    by (Some f) e h = new (lists same_fluent (opened ns before) f)
      where
        new : (b : Bool) → list_all p (cond b (opened ns before) (opened ns before ++ f ∷ [])) ≡ true
        new true = h
        new false = last (opened ns before) f h (on x f e)

-- lines that open a fluent of this sort count for the kind, and once
pub record CountsFor (ns : Names) (k : Kind) (test : Fluent → Bool) (x : SaidView) (f : Fluent) : Type 0 where
  pub counts : is_of k x ≡ true
  pub again : (before : List SaidView) → is_claimed_again before x ≡ true → lists same_fluent (opened ns before) f ≡ true

module _ (ns : Names) (k : Kind) (test : Fluent → Bool) (sorted : (x : SaidView) (f : Fluent) → opening_said ns x ≡ Some f → test f ≡ true → CountsFor ns k test x f) where
  pub opened_count : (before : List SaidView) → length (filter test (opened ns before)) ≤ count_of k before
  opened_count [] = omega arith
  opened_count (x ∷ before) = by (opening_said ns x) refl (opened_count before)
    where
      one_more : (f : Fluent) (t l c : Bool) → test f ≡ t → (t ≡ true → l ≡ false → c ≡ true) → length (filter test (opened ns before)) ≤ count_of k before
          → length (filter test (cond l (opened ns before) (opened ns before ++ f ∷ []))) ≤ count_of k before + cond c 1 0
      one_more f t true c e g le = omega arith
      one_more f false false c e g le = omega (arith, count_last test (opened ns before) f, none_at (test f) e)
      one_more f true false c e g le = omega (arith, count_last test (opened ns before) f, one_at (test f) e, one_at c (g refl refl))

      by : (o : Option Fluent) → opening_said ns x ≡ o → length (filter test (opened ns before)) ≤ count_of k before
          → length (filter test (with_new same_fluent o (opened ns before))) ≤ count_of k before + cond (counts_for k before x) 1 0
      by None e le = omega arith
      by (Some f) e le =
          one_more f (test f) (lists same_fluent (opened ns before) f) (counts_for k before x) refl
          (λ t l. let s = sorted x f e t in and_true _ _ s.counts (ap not (split (is_claimed_again before x) (λ a. absurd (clash _ (s.again before a) l)) (λ a. a)))) le

-- assignments and grants

assigned_by : (u r : List ℕ) (y : SaidView) → is_claimed_by (claims.Assigned u r) y ≡ true → y ≡ opening (fluents.Assigned u r)
assigned_by u r (opening (fluents.Assigned v s)) e =
    let parts = both_true (bytes_eq u v) _ e in λ i. opening (fluents.Assigned (sym (bytes_same u v parts.0) i) (sym (bytes_same r s parts.1) i))
assigned_by u r (opening (fluents.Granted v s)) e = cc
assigned_by u r (opening (fluents.Enabled s)) e = cc
assigned_by u r (opening (fluents.Limit l)) e = cc
assigned_by u r _ e = cc

granted_by : (q r : List ℕ) (y : SaidView) → is_claimed_by (claims.Granted q r) y ≡ true → y ≡ opening (fluents.Granted q r)
granted_by q r (opening (fluents.Granted v s)) e =
    let parts = both_true (bytes_eq q v) _ e in λ i. opening (fluents.Granted (sym (bytes_same q v parts.0) i) (sym (bytes_same r s parts.1) i))
granted_by q r (opening (fluents.Assigned v s)) e = cc
granted_by q r (opening (fluents.Enabled s)) e = cc
granted_by q r (opening (fluents.Limit l)) e = cc
granted_by q r _ e = cc

listed_by : (ns : Names) (c : Claim) (x : SaidView) (f : Fluent) → opening_said ns x ≡ Some f → ((y : SaidView) → is_claimed_by c y ≡ true → y ≡ x)
    → (before : List SaidView) → list_any (is_claimed_by c) before ≡ true → lists same_fluent (opened ns before) f ≡ true
listed_by ns c x f e is before again =
    let (y, m, q) = any_elim (is_claimed_by c) before again in
    listed ns before y f m (ap (opening_said ns) (is y q) ∙ e)

not_of : (test : Fluent → Bool) (f g : Fluent) → test g ≡ false → Some g ≡ Some f → test f ≡ true → ⊥
not_of test f g fails e passes = clash (test f) passes (ap test (sym (some_same g f e)) ∙ fails)

edge_opened : (ns : Names) (a b : List ℕ) (f : Fluent) → opening_said ns (opening (fluents.Edge a b)) ≡ Some f → (k : ℕ) × (Some (base.Edge k) ≡ Some f)
edge_opened ns a b f e =
    let (s, _, p) = bound (role_of ns a) _ f e in
    let (j, _, q) = bound (role_of ns b) _ f p in
    let (k, _, r) = bound (position (same_pair (a, b)) ns.edges) _ f q in
    (k, r)

pub assigned_counts : (ns : Names) (x : SaidView) (f : Fluent) → opening_said ns x ≡ Some f → is_assignment f ≡ true → CountsFor ns kinds.Assigned is_assignment x f
assigned_counts ns (opening (fluents.Assigned u r)) f e t =
    record { counts = refl; again = listed_by ns (claims.Assigned u r) (opening (fluents.Assigned u r)) f e (assigned_by u r) }
assigned_counts ns (opening (fluents.Enabled r)) f e t = let (q, _, s) = bound (role_of ns r) _ f e in absurd (not_of is_assignment f (base.Enabled q) refl s t)
assigned_counts ns (opening (fluents.Granted q r)) f e t =
    let (p, _, s) = bound (perm_of ns q) _ f e in let (o, _, z) = bound (role_of ns r) _ f s in absurd (not_of is_assignment f (base.Granted p o) refl z t)
assigned_counts ns (opening (fluents.Limit l)) f e t = let (q, _, s) = bound (limit_of ns l) _ f e in absurd (not_of is_assignment f (base.Limit q) refl s t)
assigned_counts ns (opening (fluents.Edge a b)) f e t = let (k, s) = edge_opened ns a b f e in absurd (not_of is_assignment f (base.Edge k) refl s t)
assigned_counts ns _ f e t = cc

pub granted_counts : (ns : Names) (x : SaidView) (f : Fluent) → opening_said ns x ≡ Some f → is_grant f ≡ true → CountsFor ns kinds.Granted is_grant x f
granted_counts ns (opening (fluents.Granted q r)) f e t =
    record { counts = refl; again = listed_by ns (claims.Granted q r) (opening (fluents.Granted q r)) f e (granted_by q r) }
granted_counts ns (opening (fluents.Enabled r)) f e t = let (q, _, s) = bound (role_of ns r) _ f e in absurd (not_of is_grant f (base.Enabled q) refl s t)
granted_counts ns (opening (fluents.Assigned u r)) f e t =
    let (p, _, s) = bound (user_of ns u) _ f e in let (o, _, z) = bound (role_of ns r) _ f s in absurd (not_of is_grant f (base.Assigned p o) refl z t)
granted_counts ns (opening (fluents.Limit l)) f e t = let (q, _, s) = bound (limit_of ns l) _ f e in absurd (not_of is_grant f (base.Limit q) refl s t)
granted_counts ns (opening (fluents.Edge a b)) f e t = let (k, s) = edge_opened ns a b f e in absurd (not_of is_grant f (base.Edge k) refl s t)
granted_counts ns _ f e t = cc
