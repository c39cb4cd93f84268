-- The names that lines declare, where no line clashes with a later one.
use Rattle.std.proofs.Common.{◌≡◌, ℕ, Bool, true, false, ◌||◌, ◌&&◌, List, [], ◌∷◌, ◌++◌, Option, Some, None, refl, ap, ◌∙◌, subst, nat_le}
use Rattle.std.specs.Prelude.{bytes_eq}
use Rattle.std.specs.List.{list_any, filter_map, cons_option}
use Rattle.gt_base.specs.Names.{is_name}
use Rattle.gt_base.specs.declared.limits.TheConstants.{LAST_MINUTE}
use Rattle.gtrbac_model.proofs.Elements.{both_true, and_true}
use Rattle.policy_words.specs.declared.sayings.Kind.{Kind}
use Rattle.policy_words.specs.declared.sayings.Kind.TheVariants as kinds
use Rattle.policy_words.specs.Sayings.{SaidView, role, user, perm, period, limit, edge, is_saying, is_formed, is_bounded, are_names, is_count}
use Rattle.policy_words.specs.Wording.{fluent_names}
use Rattle.policy_words.specs.declared.claims.Claim.{Claim}
use Rattle.policy_words.specs.declared.claims.Claim.TheVariants as claims
use Rattle.policy_words.specs.Naming.{Names, NamePair, same_pair}
use Rattle.policy_words.specs.Making.{naming, names_in}
use Rattle.policy_words.specs.LinesTogether.{claim_of, same_claim, may_be_again, is_of}
use Rattle.policy_words.specs.Valid.{repeats_later}
use Rattle.policy_book.proofs.Lists.{repeats, with_each, all_at_end, bytes_turned, none_repeats, some_same}
use Rattle.policy_book.proofs.Clashes.{clashes, clash_by}

abbrev pub with_names : List (List ℕ) → List (List ℕ) → List (List ℕ)
with_names names ns = with_each bytes_eq names ns

-- names without repeats all go to the end
pub all_new : (names ns : List (List ℕ)) → repeats bytes_eq (names ++ ns) ≡ false → with_names names ns ≡ names ++ ns
all_new names ns h = all_at_end bytes_eq bytes_turned names ns h

pub later_repeats : (ns : List (List ℕ)) → repeats_later ns ≡ repeats bytes_eq ns
later_repeats [] = refl
later_repeats (n ∷ ns) = ap (λ b. list_any (bytes_eq n) ns || b) (later_repeats ns)

-- what a line declares of a kind, if anything

abbrev pub role_in : SaidView → Option (List ℕ)
role_in (role n) = Some n
role_in _ = None

abbrev pub user_in : SaidView → Option (List ℕ)
user_in (user n) = Some n
user_in _ = None

abbrev pub perm_in : SaidView → Option (List ℕ)
perm_in (perm n) = Some n
perm_in _ = None

abbrev pub period_in : SaidView → Option (List ℕ)
period_in (period n f l e) = Some n
period_in _ = None

abbrev pub limit_in : SaidView → Option (List ℕ)
limit_in (limit n p c most d) = Some n
limit_in _ = None

-- the ordered pair of an edge
abbrev pub pair_in : SaidView → Option NamePair
pair_in (edge kind strong s j) = Some (s, j)
pair_in _ = None

-- what is kept is what is declared
module _ {A : Type 0} (same : A → A → Bool) (kept : Names → List A) (decl : SaidView → Option A) (step : (ns : Names) (x : SaidView) → kept (naming ns x) ≡ with_each same (kept ns) (cons_option (decl x) [])) where
  pub names_kept : (ns : Names) (xs : List SaidView) → kept (names_in ns xs) ≡ with_each same (kept ns) (filter_map decl xs)
  names_kept ns [] = refl
  names_kept ns (x ∷ xs) = names_kept (naming ns x) xs ∙ ap (λ z. with_each same z (filter_map decl xs)) (step ns x) ∙ by (decl x)
    where
      by : (o : Option A) → with_each same (with_each same (kept ns) (cons_option o [])) (filter_map decl xs) ≡ with_each same (kept ns) (cons_option o (filter_map decl xs))
      by None = refl
      by (Some n) = refl

role_step : (ns : Names) (x : SaidView) → (naming ns x).roles ≡ with_names ns.roles (cons_option (role_in x) [])
role_step ns (role n) = refl
role_step ns _ = refl

user_step : (ns : Names) (x : SaidView) → (naming ns x).users ≡ with_names ns.users (cons_option (user_in x) [])
user_step ns (user n) = refl
user_step ns _ = refl

perm_step : (ns : Names) (x : SaidView) → (naming ns x).perms ≡ with_names ns.perms (cons_option (perm_in x) [])
perm_step ns (perm n) = refl
perm_step ns _ = refl

period_step : (ns : Names) (x : SaidView) → (naming ns x).periods ≡ with_names ns.periods (cons_option (period_in x) [])
period_step ns (period n f l e) = refl
period_step ns _ = refl

limit_step : (ns : Names) (x : SaidView) → (naming ns x).limits ≡ with_names ns.limits (cons_option (limit_in x) [])
limit_step ns (limit n p c most d) = refl
limit_step ns _ = refl

pair_step : (ns : Names) (x : SaidView) → (naming ns x).edges ≡ with_each same_pair ns.edges (cons_option (pair_in x) [])
pair_step ns (edge kind strong s j) = refl
pair_step ns _ = refl

pub roles_kept : (ns : Names) (xs : List SaidView) → (names_in ns xs).roles ≡ with_names ns.roles (filter_map role_in xs)
roles_kept = names_kept bytes_eq (λ ns. ns.roles) role_in role_step

pub users_kept : (ns : Names) (xs : List SaidView) → (names_in ns xs).users ≡ with_names ns.users (filter_map user_in xs)
users_kept = names_kept bytes_eq (λ ns. ns.users) user_in user_step

pub perms_kept : (ns : Names) (xs : List SaidView) → (names_in ns xs).perms ≡ with_names ns.perms (filter_map perm_in xs)
perms_kept = names_kept bytes_eq (λ ns. ns.perms) perm_in perm_step

pub periods_kept : (ns : Names) (xs : List SaidView) → (names_in ns xs).periods ≡ with_names ns.periods (filter_map period_in xs)
periods_kept = names_kept bytes_eq (λ ns. ns.periods) period_in period_step

pub limits_kept : (ns : Names) (xs : List SaidView) → (names_in ns xs).limits ≡ with_names ns.limits (filter_map limit_in xs)
limits_kept = names_kept bytes_eq (λ ns. ns.limits) limit_in limit_step

pub pairs_kept : (ns : Names) (xs : List SaidView) → (names_in ns xs).edges ≡ with_each same_pair ns.edges (filter_map pair_in xs)
pairs_kept = names_kept same_pair (λ ns. ns.edges) pair_in pair_step

pub formed : (x : SaidView) → is_saying x ≡ true → is_formed x ≡ true
formed x h = (both_true (is_formed x) _ (both_true (is_formed x && is_bounded x) _ h).0).0

-- a line that declares a name claims it, is of its kind, and the name is one
pub record Declares (claimed : List ℕ → Claim) (kind : Kind) (x : SaidView) (n : List ℕ) : Type 0 where
  pub claims : claim_of x ≡ Some (claimed n)
  pub once : may_be_again x ≡ false
  pub of_kind : is_of kind x ≡ true
  pub named : is_saying x ≡ true → is_name n ≡ true

pub role_declares : (x : SaidView) (n : List ℕ) → role_in x ≡ Some n → Declares (λ m. claims.Role m) kinds.Roles x n
role_declares (role m) n e =
    let s : m ≡ n = some_same m n e in
    record { claims = ap (λ z. Some (claims.Role z)) s; once = refl; of_kind = refl; named = λ h. subst (λ z. is_name z ≡ true) s (formed (role m) h) }
role_declares _ n e = cc

pub user_declares : (x : SaidView) (n : List ℕ) → user_in x ≡ Some n → Declares (λ m. claims.User m) kinds.Users x n
user_declares (user m) n e =
    let s : m ≡ n = some_same m n e in
    record { claims = ap (λ z. Some (claims.User z)) s; once = refl; of_kind = refl; named = λ h. subst (λ z. is_name z ≡ true) s (formed (user m) h) }
user_declares _ n e = cc

pub perm_declares : (x : SaidView) (n : List ℕ) → perm_in x ≡ Some n → Declares (λ m. claims.Perm m) kinds.Perms x n
perm_declares (perm m) n e =
    let s : m ≡ n = some_same m n e in
    record { claims = ap (λ z. Some (claims.Perm z)) s; once = refl; of_kind = refl; named = λ h. subst (λ z. is_name z ≡ true) s (formed (perm m) h) }
perm_declares _ n e = cc

pub period_declares : (x : SaidView) (n : List ℕ) → period_in x ≡ Some n → Declares (λ m. claims.Period m) kinds.Periods x n
period_declares (period m f l ex) n e = record { claims = ap (λ z. Some (claims.Period z)) s; once = refl; of_kind = refl; named = λ h. subst (λ z. is_name z ≡ true) s (named h) }
  where
    s : m ≡ n
    s = some_same m n e

    named : is_saying (period m f l ex) ≡ true → is_name m ≡ true
    named h =
        let ends = both_true (is_name m && nat_le f LAST_MINUTE && nat_le l LAST_MINUTE) _ (formed (period m f l ex) h) in
        (both_true (is_name m) _ (both_true (is_name m && nat_le f LAST_MINUTE) _ ends.0).0).0
period_declares _ n e = cc

pub limit_declares : (x : SaidView) (n : List ℕ) → limit_in x ≡ Some n → Declares (λ m. claims.Limit m) kinds.Limits x n
limit_declares (limit m p c most d) n e = record { claims = ap (λ z. Some (claims.Limit z)) s; once = refl; of_kind = refl; named = λ h. subst (λ z. is_name z ≡ true) s (named h) }
  where
    s : m ≡ n
    s = some_same m n e

    named : is_saying (limit m p c most d) ≡ true → is_name m ≡ true
    named h =
        let whole = both_true (is_name m && nat_le p 99 && are_names (fluent_names c.fluent) && is_count most) _ (formed (limit m p c most d) h) in
        let counted = both_true (is_name m && nat_le p 99 && are_names (fluent_names c.fluent)) _ whole.0 in
        (both_true (is_name m) _ (both_true (is_name m && nat_le p 99) _ counted.0).0).0
limit_declares _ n e = cc

-- where no line clashes with a later one no name is declared twice
module _ (claimed : List ℕ → Claim) (kind : Kind) (decl : SaidView → Option (List ℕ)) (same : (m n : List ℕ) → same_claim (claimed m) (claimed n) ≡ bytes_eq m n) (declares : (x : SaidView) (n : List ℕ) → decl x ≡ Some n → Declares claimed kind x n) where
  joined : (x y : SaidView) (a b : List ℕ) → decl x ≡ Some a → decl y ≡ Some b → bytes_eq a b ≡ true → clashes x y ≡ true
  joined x y a b p q e =
      let d = declares x a p in
      let f = declares y b q in
      clash_by x y (claimed a) (claimed b) d.claims f.claims f.once (same b a ∙ bytes_turned a b e)

  pub names_once : (xs : List SaidView) → repeats clashes xs ≡ false → repeats bytes_eq (filter_map decl xs) ≡ false
  names_once xs h = none_repeats decl clashes bytes_eq joined xs h

-- pairs of edges

pub pair_turned : (p q : NamePair) → same_pair p q ≡ true → same_pair q p ≡ true
pair_turned p q e =
    let parts = both_true (bytes_eq p.0 q.0) _ e in
    and_true _ _ (bytes_turned p.0 q.0 parts.0) (bytes_turned p.1 q.1 parts.1)

pairs_clash : (x y : SaidView) (p q : NamePair) → pair_in x ≡ Some p → pair_in y ≡ Some q → same_pair p q ≡ true → clashes x y ≡ true
pairs_clash (edge k st s j) (edge l su t i) p q e f h =
    let same : same_pair (s, j) (t, i) ≡ true = (λ z. same_pair (some_same _ _ e z) (some_same _ _ f z)) ∙ h in
    clash_by (edge k st s j) (edge l su t i) (claims.Edge s j) (claims.Edge t i) refl refl refl (pair_turned (s, j) (t, i) same)
pairs_clash (edge k st s j) _ p q e f h = cc
pairs_clash _ y p q e f h = cc

pub pairs_once : (xs : List SaidView) → repeats clashes xs ≡ false → repeats same_pair (filter_map pair_in xs) ≡ false
pairs_once xs h = none_repeats pair_in clashes same_pair pairs_clash xs h
