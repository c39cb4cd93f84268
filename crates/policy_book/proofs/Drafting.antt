-- Policies in the making, part by part.
use Rattle.std.proofs.Common.{◌≡◌, ℕ, zero, suc, ◌<◌, ◌≤◌, cond, List, [], ◌∷◌, ◌++◌, length, Some, get_or, refl, ap, arith}
use Rattle.std.specs.Prelude.{slice_set}
use Rattle.std.specs.List.{list_any}
use Rattle.gt_base.specs.Orders.{fluent_eq}
use Rattle.gt_base.specs.declared.events.Fluent.{Fluent}
use Rattle.gt_base.specs.contracts.events.FluentOrd.TheImpl.Laws as fluent_laws
use Rattle.gtrbac_model.specs.Same.{lists, same_fluent}
use Rattle.indexmap.specs.IndexSet.{insert_key}
use Rattle.policy_book.proofs.SameNames.{any_same}
use Rattle.policy_words.specs.Making.{DraftView, changed_at, with_new}

-- drafts with the same parts are equal
pub same_draft : {a b : DraftView} → a.periods ≡ b.periods → a.limits ≡ b.limits → a.edges ≡ b.edges → a.caps ≡ b.caps → a.admins ≡ b.admins → a.on_at_first ≡ b.on_at_first
    → a.entries ≡ b.entries → a.triggers ≡ b.triggers → a ≡ b
same_draft p l e c u f n t =
    λ i. record { periods = p i; limits = l i; edges = e i; caps = c i; admins = u i; on_at_first = f i; entries = n i; triggers = t i }

-- a change at a place
pub changed_in : {A : Type 0} (f : A → A) (xs : List A) (k : ℕ) (d : A) → k < length xs → slice_set xs k (f (get_or xs k d)) ≡ changed_at f k xs
changed_in f [] k d h = absurd (omega arith)
changed_in f (x ∷ xs) zero d h = refl
changed_in f (x ∷ xs) (suc k) d h = ap (λ ys. x ∷ ys) (changed_in f xs k d (omega arith))

pub changed_out : {A : Type 0} (f : A → A) (xs : List A) (k : ℕ) → length xs ≤ k → xs ≡ changed_at f k xs
changed_out f [] zero h = refl
changed_out f [] (suc k) h = refl
changed_out f (x ∷ xs) zero h = absurd (omega arith)
changed_out f (x ∷ xs) (suc k) h = ap (λ ys. x ∷ ys) (changed_out f xs k (omega arith))

fluents_found : (fs : List Fluent) (f : Fluent) → list_any (fluent_eq f) fs ≡ lists same_fluent fs f
fluents_found fs f = any_same _ _ (λ g. fluent_laws.matches_eq-law f g) fs

pub fluent_added : (fs : List Fluent) (f : Fluent) → insert_key fluent_eq fs f ≡ with_new same_fluent (Some f) fs
fluent_added fs f = ap (λ b. cond b fs (fs ++ f ∷ [])) (fluents_found fs f)
