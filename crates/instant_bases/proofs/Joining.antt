-- One item more: in what is raised, and in a set.
use Rattle.std.proofs.Common.{◌≡◌, ℕ, ◌+◌, ◌<◌, Bool, true, false, ◌||◌, List, [], ◌∷◌, ◌++◌, length, take, get_or, flat_map, refl, sym, ◌∙◌, ap, arith, append_assoc, length-take}
use Rattle.std.specs.List.{list_any}
use Rattle.std.specs.Ordering.{eq_by_cmp}
use Rattle.std.specs.Cmp.{IsTotalOrder}
use Rattle.std.specs.declared.cmp.Ordering.{Ordering}
use Rattle.std.proofs.lemmas.List.{take_more}
use Rattle.std.proofs.lemmas.List.Concat.{flat_map-append}
use Rattle.std.proofs.lemmas.List.Folds.{list_any_more}
use Rattle.gt_base.specs.declared.events.Fluent.{Fluent}
use Rattle.gt_base.specs.declared.policies.LimitRule.{LimitRule}
use Rattle.gt_base.specs.Sets.{SetOf, has, with_member}
use Rattle.gt_base.proofs.SetLaws.{has-with_member}
use Rattle.gtrbac_model.specs.Base.{limited_from, is_ripe, when}
use Rattle.gtrbac_model.specs.Conflict.{Status}
use Rattle.gtrbac_model.specs.History.{is_some_item}
use Rattle.gtrbac_model.specs.Period.{Period}
use Rattle.instant_bases.specs.Nexts.{ending}

pub append_nil : {A : Type 0} (xs : List A) → xs ++ [] ≡ xs
append_nil [] = refl
append_nil (x ∷ xs) = ap (λ ys. x ∷ ys) (append_nil xs)

pub is_some-append : {A : Type 0} (xs ys : List A) → is_some_item (xs ++ ys) ≡ (is_some_item xs || is_some_item ys)
is_some-append [] ys = refl
is_some-append (x ∷ xs) ys = refl

-- one entry more
pub raised_more : {A B : Type 0} (f : A → List B) (xs : List A) (i : ℕ) (d : A) → i < length xs → flat_map f (take (i + 1) xs) ≡ flat_map f (take i xs) ++ f (get_or xs i d)
raised_more f xs i d lt =
    ap (flat_map f) (take_more xs i d lt) ∙ flat_map-append f (take i xs) (get_or xs i d ∷ []) ∙ ap (λ ys. flat_map f (take i xs) ++ ys) (append_nil (f (get_or xs i d)))

module _ (periods : List Period) (st : Status) (since : Fluent → ℕ) (t : ℕ) where
  limited-append : (k n : ℕ) (xs : List LimitRule) (x : LimitRule) → n ≡ k + length xs
      → limited_from periods st since k (xs ++ x ∷ []) t ≡ limited_from periods st since k xs t ++ when (is_ripe periods st since n x t) (ending x)
  limited-append k n [] x e =
      let same : k ≡ n = omega (arith, e) in
      append_nil (when (is_ripe periods st since k x t) (ending x)) ∙ ap (λ m. when (is_ripe periods st since m x t) (ending x)) same
  limited-append k n (y ∷ ys) x e =
      ap (λ zs. when (is_ripe periods st since k y t) (ending y) ++ zs) (limited-append (k + 1) n ys x (omega (arith, e)))
      ∙ sym (append_assoc (when (is_ripe periods st since k y t) (ending y)) (limited_from periods st since (k + 1) ys t) _)

  -- one limit more
  pub limited_more : (ls : List LimitRule) (i : ℕ) (d : LimitRule) → i < length ls
      → limited_from periods st since 0 (take (i + 1) ls) t ≡ limited_from periods st since 0 (take i ls) t ++ when (is_ripe periods st since i (get_or ls i d) t) (ending (get_or ls i d))
  limited_more ls i d lt =
      ap (λ xs. limited_from periods st since 0 xs t) (take_more ls i d lt)
      ∙ limited-append 0 i (take i ls) (get_or ls i d) (omega (arith, length-take i ls, lt))

at_end : (x b l : Bool) → (x || (b || l)) ≡ (b || (l || x))
at_end true true l = refl
at_end true false true = refl
at_end true false false = refl
at_end false true l = refl
at_end false false true = refl
at_end false false false = refl

-- one item more in a set
pub joined_more : {K : Type 0} {R : K → K → Ordering} → IsTotalOrder R → (s u : SetOf R) (ks : List K) (i : ℕ) (d : K) (e : K) (b : Bool) → u ≡ with_member s (get_or ks i d) → i < length ks
    → has s e ≡ (b || list_any (eq_by_cmp R e) (take i ks)) → has u e ≡ (b || list_any (eq_by_cmp R e) (take (i + 1) ks))
joined_more {K} {R} total s u ks i d e b is lt so_far =
    let tie : Bool = eq_by_cmp R e (get_or ks i d) in
    ap (λ v. has v e) is ∙ has-with_member total s (get_or ks i d) e ∙ ap (λ c. tie || c) so_far
    ∙ at_end tie b _ ∙ ap (λ c. b || c) (sym (list_any_more (eq_by_cmp R e) ks i d lt))
