-- The administrators and the fluents that are on at first.
use Rattle.std.proofs.Common.{◌≡◌, ℕ, suc, ◌+◌, ◌-◌, ◌<◌, Bool, true, false, cond, ◌||◌, List, [], ◌∷◌, ◌++◌, filter, append_assoc, refl, sym, ap, ◌∙◌, subst, arith}
use Rattle.std.specs.List.{list_any}
use Rattle.std.specs.Ordering.{eq_by_cmp}
use Rattle.gt_base.specs.Orders.{fluent_cmp, fluent_eq}
use Rattle.gt_base.specs.Sets.{SetOf, has, none, with_member, set_of}
use Rattle.gt_base.specs.declared.events.UserId.{UserId}
use Rattle.gt_base.specs.declared.events.Fluent.{Fluent}
use Rattle.gt_base.specs.contracts.events.FluentOrd.TheImpl.Laws as fluent_laws
use Rattle.gt_base.proofs.SetLaws.{has-none, has-with_member, has-set_of}
use Rattle.gt_base.proofs.SetSteps.{fluent_cmp_total}
use Rattle.gt_base.proofs.SetsAreSets.{fluents_are_sets}
use Rattle.policy_book.proofs.SameNames.{any_same}
use Rattle.policy_words.specs.Making.{users_from, edges_from}
use Rattle.gt_base.specs.declared.events.Fluent.TheVariants as fluents
use Rattle.std.proofs.lemmas.List.Folds.{list_any-append}

-- administrators

users_step : (n users : ℕ) → n < users → users_from n (users - n) ≡ record { 0 = n } ∷ users_from (n + 1) (users - (n + 1))
users_step n users h = subst (λ k. users_from n k ≡ record { 0 = n } ∷ users_from (n + 1) (users - (n + 1))) (sym one_less) refl
  where
    one_less : users - n ≡ suc (users - (n + 1))
    one_less = omega (arith, h)

abbrev user : ℕ → UserId
user n = record { 0 = n }

filtered : (p : UserId → Bool) (u : UserId) (us old : List UserId) (b : Bool) → p u ≡ b → (old ++ cond b (u ∷ []) []) ++ filter p us ≡ old ++ filter p (u ∷ us)
filtered p u us old true e = append_assoc old (u ∷ []) (filter p us) ∙ ap (λ c. old ++ cond c (u ∷ filter p us) (filter p us)) (sym e)
filtered p u us old false e = append_assoc old [] (filter p us) ∙ ap (λ c. old ++ cond c (u ∷ filter p us) (filter p us)) (sym e)

-- one user more is asked
pub one_asked : (p : UserId → Bool) (n users : ℕ) (old found all : List UserId) (b : Bool) → n < users → p (user n) ≡ b → found ≡ old ++ cond b (user n ∷ []) []
    → old ++ filter p (users_from n (users - n)) ≡ all → found ++ filter p (users_from (n + 1) (users - (n + 1))) ≡ all
one_asked p n users old found all b h asked is before =
    let rest = users_from (n + 1) (users - (n + 1)) in
    ap (λ us. us ++ filter p rest) is ∙ filtered p (user n) rest old b asked ∙ ap (λ us. old ++ filter p us) (sym (users_step n users h)) ∙ before

-- fluents

abbrev pub with_all : SetOf fluent_cmp → List Fluent → SetOf fluent_cmp
with_all s [] = s
with_all s (f ∷ fs) = with_all (with_member s f) fs

or_turned : (a b c : Bool) → (a || (b || c)) ≡ ((b || a) || c)
or_turned true true c = refl
or_turned true false c = refl
or_turned false true c = refl
or_turned false false c = refl

or_false : (a : Bool) → (a || false) ≡ a
or_false true = refl
or_false false = refl

has-with_all : (s : SetOf fluent_cmp) (fs : List Fluent) (x : Fluent) → has (with_all s fs) x ≡ (list_any (eq_by_cmp fluent_cmp x) fs || has s x)
has-with_all s [] x = refl
has-with_all s (f ∷ fs) x =
    has-with_all (with_member s f) fs x
    ∙ ap (λ b. list_any (eq_by_cmp fluent_cmp x) fs || b) (has-with_member fluent_cmp_total s f x)
    ∙ or_turned (list_any (eq_by_cmp fluent_cmp x) fs) (eq_by_cmp fluent_cmp x f) (has s x)

-- to add them one after the other, and then others, is to take their set
pub all_are_set : (fs es : List Fluent) → with_all (with_all none fs) es ≡ set_of (es ++ fs)
all_are_set fs es =
    fluents_are_sets.same _ _ (λ x.
    has-with_all (with_all none fs) es x
    ∙ ap (λ b. list_any (eq_by_cmp fluent_cmp x) es || b)
    (has-with_all none fs x ∙ ap (λ b. list_any (eq_by_cmp fluent_cmp x) fs || b) (has-none fluent_cmp x) ∙ or_false (list_any (eq_by_cmp fluent_cmp x) fs))
    ∙ sym (list_any-append (eq_by_cmp fluent_cmp x) es fs)
    ∙ sym (has-set_of fluent_cmp_total (es ++ fs) x))

-- one edge more is linked
pub edges_step : (n edges : ℕ) → n < edges → edges_from n (edges - n) ≡ fluents.Edge n ∷ edges_from (n + 1) (edges - (n + 1))
edges_step n edges h = subst (λ k. edges_from n k ≡ fluents.Edge n ∷ edges_from (n + 1) (edges - (n + 1))) (sym one_less) refl
  where
    one_less : edges - n ≡ suc (edges - (n + 1))
    one_less = omega (arith, h)

by_order : (x : Fluent) (fs : List Fluent) → list_any (fluent_eq x) fs ≡ list_any (eq_by_cmp fluent_cmp x) fs
by_order x fs = any_same _ _ (λ g. fluent_laws.matches_eq-law x g) fs

has-after : (es fs : List Fluent) (x : Fluent) → has (set_of {R = fluent_cmp} (es ++ fs)) x ≡ (list_any (fluent_eq x) es || list_any (fluent_eq x) fs)
has-after es fs x = has-set_of fluent_cmp_total (es ++ fs) x ∙ sym (by_order x (es ++ fs)) ∙ list_any-append (fluent_eq x) es fs

-- in another order their set, after others, is the same
pub reordered_set : (es fs gs : List Fluent) → ((x : Fluent) → list_any (fluent_eq x) gs ≡ list_any (fluent_eq x) fs) → ◌≡◌ {A = SetOf fluent_cmp} (set_of (es ++ gs)) (set_of (es ++ fs))
reordered_set es fs gs same =
    fluents_are_sets.same _ _ (λ x. has-after es gs x ∙ ap (λ b. list_any (fluent_eq x) es || b) (same x) ∙ sym (has-after es fs x))
