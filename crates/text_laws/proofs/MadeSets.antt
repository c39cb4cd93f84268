-- The administrators of a policy and its opening status are those that its lines say.
use Rattle.std.proofs.Common.{◌≡◌, ℕ, zero, suc, ◌+◌, ◌≤◌, ◌<◌, Bool, true, false, ◌||◌, cond, List, [], ◌∷◌, ◌++◌, length, filter, Option, Some, None, refl, sym, ap, subst, ◌∙◌, arith, eq-eqb, eqb-true}
use Rattle.std.specs.List.{filter_map, cons_option, list_any}
use Rattle.std.specs.Prelude.{bytes_eq}
use Rattle.std.proofs.lemmas.List.Folds.{list_any-append}
use Rattle.std.proofs.lemmas.List.Quantifiers.{position-Some}
use mathlib.Core.Logic.{dite}
use native.Mathlib.Decide.{ℕ_discrete}
use Rattle.gt_base.specs.Names.{place_of}
use Rattle.gt_base.specs.Orders.{fluent_cmp}
use Rattle.gt_base.specs.Sets.{has, set_of}
use Rattle.gt_base.specs.declared.events.UserId.{UserId}
use Rattle.gt_base.specs.declared.events.Fluent.{Fluent}
use Rattle.gt_base.proofs.OrderLaws.{fluent_cmp-IsAntisymmetric}
use Rattle.gt_base.proofs.SetLaws.{has-set_of}
use Rattle.gt_base.proofs.SetSteps.{fluent_cmp_total}
use Rattle.gtrbac_model.specs.Same.{same_user, same_fluent, lists}
use Rattle.gtrbac_model.proofs.Elements.{equal_by, right_true}
use Rattle.policy_words.specs.Sayings.{SaidView, admin}
use Rattle.policy_words.specs.Wording.{◌>>=◌}
use Rattle.policy_words.specs.Naming.{Names, user_of}
use Rattle.policy_words.specs.Making.{DraftView, adding, drafted, fresh, with_new, admin_said, opening_said, users_from, are_second, linked_at_first}

or_false : (a : Bool) → (a || false) ≡ a
or_false true = refl
or_false false = refl

or_assoc : (a b c : Bool) → ((a || b) || c) ≡ (a || (b || c))
or_assoc true b c = refl
or_assoc false b c = refl

with_none : (a : Bool) → a ≡ (a || false)
with_none a = sym (or_false a)

-- a list that takes what is new, where a test tells equal things
module _ {A : Type 0} (same : A → A → Bool) (one : (x y : A) → same x y ≡ true → x ≡ y) where
  one_new : (xs : List A) (x u : A) (b : Bool) → lists same xs x ≡ b → list_any (same u) (cond b xs (xs ++ x ∷ [])) ≡ (list_any (same u) xs || (same u x || false))
  one_new xs x u false is = list_any-append (same u) xs (x ∷ [])
  one_new xs x u true is = by (same u x) refl
    where
      by : (t : Bool) → same u x ≡ t → list_any (same u) xs ≡ (list_any (same u) xs || (same u x || false))
      by true same_one =
          let all : list_any (same u) xs ≡ true = subst (λ v. list_any (same v) xs ≡ true) (sym (one u x same_one)) is in
          all ∙ ap (λ t. t || (same u x || false)) (sym all)
      by false other = with_none (list_any (same u) xs) ∙ ap (λ t. list_any (same u) xs || (t || false)) (sym other)

  new_listed : (o : Option A) (xs : List A) (u : A) → lists same (with_new same o xs) u ≡ (lists same xs u || lists same (cons_option o []) u)
  new_listed None xs u = with_none (lists same xs u)
  new_listed (Some x) xs u = one_new xs x u (lists same xs x) refl

  rest_listed : (o : Option A) (ys : List A) (u : A) → (lists same (cons_option o []) u || lists same ys u) ≡ lists same (cons_option o ys) u
  rest_listed None ys u = refl
  rest_listed (Some x) ys u = ap (λ t. t || lists same ys u) (or_false (same u x))

  module _ (ns : Names) (of : DraftView → List A) (said : SaidView → Option A) (step : (d : DraftView) (x : SaidView) → of (adding ns d x) ≡ with_new same (said x) (of d)) where
    pub drafted_listed : (d : DraftView) (xs : List SaidView) (u : A) → lists same (of (drafted ns d xs)) u ≡ (lists same (of d) u || lists same (filter_map said xs) u)
    drafted_listed d [] u = with_none (lists same (of d) u)
    drafted_listed d (x ∷ xs) u =
        drafted_listed (adding ns d x) xs u
        ∙ ap (λ ys. lists same ys u || lists same (filter_map said xs) u) (step d x)
        ∙ ap (λ t. t || lists same (filter_map said xs) u) (new_listed (said x) (of d) u)
        ∙ or_assoc (lists same (of d) u) (lists same (cons_option (said x) []) u) (lists same (filter_map said xs) u)
        ∙ ap (λ t. lists same (of d) u || t) (rest_listed (said x) (filter_map said xs) u)

-- administrators

one_user : (a b : UserId) → same_user a b ≡ true → a ≡ b
one_user a b h = let e = eqb-true a.0 b.0 h in λ i. record { 0 = e i }

not_among : (p : UserId → Bool) (us : List UserId) (u : UserId) → p u ≡ false → list_any (same_user u) (filter p us) ≡ false
not_among p [] u off = refl
not_among p (v ∷ us) u off = by (p v) refl (not_among p us u off)
  where
    differs : (t : Bool) → same_user u v ≡ t → p v ≡ true → t ≡ false
    differs true is on = absurd (let same = one_user u v is in let both : p u ≡ true = ap p same ∙ on in cc)
    differs false is on = refl

    by : (b : Bool) → p v ≡ b → list_any (same_user u) (filter p us) ≡ false → list_any (same_user u) (cond b (v ∷ filter p us) (filter p us)) ≡ false
    by true on rest = ap (λ t. t || list_any (same_user u) (filter p us)) (differs (same_user u v) refl on) ∙ rest
    by false on rest = rest

among : (p : UserId → Bool) (u : UserId) (n k : ℕ) → p u ≡ true → n ≤ u.0 → u.0 < n + k → list_any (same_user u) (filter p (users_from n k)) ≡ true
among p u n zero on low high = absurd (omega (arith, low, high))
among p u n (suc k) on low high =
    let v : UserId = record { 0 = n } in
    let rest = filter p (users_from (n + 1) k) in
    dite (ℕ_discrete u.0 n) (λ here.
    let is : u ≡ v = λ i. record { 0 = here i } in
    first v rest (p v) (ap p (sym is) ∙ on) (eq-eqb u.0 n here)) (λ away.
    later v rest (p v) (among p u (n + 1) k on (omega (arith, low, away)) (omega (arith, high))))
  where
    first : (v : UserId) (rest : List UserId) (b : Bool) → b ≡ true → same_user u v ≡ true → list_any (same_user u) (cond b (v ∷ rest) rest) ≡ true
    first v rest true on is = ap (λ t. t || list_any (same_user u) rest) is
    first v rest false on is = cc

    later : (v : UserId) (rest : List UserId) (b : Bool) → list_any (same_user u) rest ≡ true → list_any (same_user u) (cond b (v ∷ rest) rest) ≡ true
    later v rest true h = right_true (same_user u v) _ h
    later v rest false h = h

place_low : (names : List (List ℕ)) (name : List ℕ) (k : ℕ) → place_of names name ≡ Some k → k < length names
place_low names name k e = (position-Some (bytes_eq name) names k [] e).0

user_low : (ns : Names) (name : List ℕ) (u : UserId) → user_of ns name ≡ Some u → u.0 < length ns.users
user_low ns name u e = by (place_of ns.users name) refl e
  where
    by : (o : Option ℕ) → place_of ns.users name ≡ o → (o >>= λ k. Some (let q : UserId = record { 0 = k } in q)) ≡ Some u → u.0 < length ns.users
    by None at e = cc
    by (Some k) at e = let same : k ≡ u.0 = cc in subst (λ j. j < length ns.users) same (place_low ns.users name k at)

said_low : (ns : Names) (ss : List SaidView) (u : UserId) → lists same_user (filter_map (admin_said ns) ss) u ≡ true → u.0 < length ns.users
said_low ns [] u h = cc
said_low ns (x ∷ xs) u h = by (admin_said ns x) refl (said_low ns xs u) h
  where
    of_line : (y : SaidView) (v : UserId) → admin_said ns y ≡ Some v → v.0 < length ns.users
    of_line (admin name) v e = user_low ns name v e
    of_line _ v e = cc

    either : (v : UserId) (t : Bool) → same_user u v ≡ t → (list_any (same_user u) (filter_map (admin_said ns) xs) ≡ true → u.0 < length ns.users) → (t || list_any (same_user u) (filter_map (admin_said ns) xs)) ≡ true → v.0 < length ns.users → u.0 < length ns.users
    either v true is rest g low = subst (λ (w : UserId). w.0 < length ns.users) (sym (one_user u v is)) low
    either v false is rest g low = rest g

    by : (o : Option UserId) → admin_said ns x ≡ o → (list_any (same_user u) (filter_map (admin_said ns) xs) ≡ true → u.0 < length ns.users) → lists same_user (cons_option o (filter_map (admin_said ns) xs)) u ≡ true → u.0 < length ns.users
    by None e rest g = rest g
    by (Some v) e rest g = either v (same_user u v) refl rest g (of_line x v e)

pub admins_said : (ns : Names) (ss : List SaidView) (u : UserId)
    → lists same_user (filter (lists same_user (drafted ns (fresh ns) ss).admins) (users_from 0 (length ns.users))) u ≡ lists same_user (filter_map (admin_said ns) ss) u
admins_said ns ss u =
    let listed = drafted_listed same_user one_user ns (λ d. d.admins) (admin_said ns) (λ _ _. refl) (fresh ns) ss u in
    by (lists same_user (filter_map (admin_said ns) ss) u) refl listed
  where
    by : (b : Bool) → lists same_user (filter_map (admin_said ns) ss) u ≡ b → lists same_user (drafted ns (fresh ns) ss).admins u ≡ lists same_user (filter_map (admin_said ns) ss) u
        → lists same_user (filter (lists same_user (drafted ns (fresh ns) ss).admins) (users_from 0 (length ns.users))) u ≡ lists same_user (filter_map (admin_said ns) ss) u
    by true is listed = let low = said_low ns ss u is in among (lists same_user (drafted ns (fresh ns) ss).admins) u 0 (length ns.users) (listed ∙ is) (omega arith) (omega (arith, low)) ∙ sym is
    by false is listed = not_among (lists same_user (drafted ns (fresh ns) ss).admins) (users_from 0 (length ns.users)) u (listed ∙ is) ∙ sym is

-- what is on at first

one_fluent : (a b : Fluent) → same_fluent a b ≡ true → a ≡ b
one_fluent a b h = equal_by fluent_cmp_total fluent_cmp-IsAntisymmetric a b h

pub opening_is_said : (ns : Names) (ss : List SaidView) (f : Fluent) → let d = drafted ns (fresh ns) ss in has (set_of {R = fluent_cmp} (linked_at_first (are_second ss) d.edges ++ d.on_at_first)) f
    ≡ (lists same_fluent (linked_at_first (are_second ss) d.edges) f || lists same_fluent (filter_map (opening_said ns) ss) f)
opening_is_said ns ss f =
    let d = drafted ns (fresh ns) ss in
    let linked = linked_at_first (are_second ss) d.edges in
    has-set_of fluent_cmp_total (linked ++ d.on_at_first) f
    ∙ list_any-append (same_fluent f) linked d.on_at_first
    ∙ ap (λ t. lists same_fluent linked f || t) (drafted_listed same_fluent one_fluent ns (λ e. e.on_at_first) (opening_said ns) (λ _ _. refl) (fresh ns) ss f)
