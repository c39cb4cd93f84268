-- Events among events.
use Rattle.std.proofs.Common.{◌≡◌, ℕ, zero, suc, ◌+◌, ◌≤◌, ◌⊎◌, inl, inr, Bool, true, false, ◌||◌, List, [], ◌∷◌, ◌++◌, length, Option, Some, None, MatchOption, refl, sym, ◌∙◌, ap, subst, arith, get_or, length-append}
use Rattle.std.specs.List.{list_any, position}
use Rattle.std.specs.Option.{is_some}
use Rattle.std.specs.Prelude.{if◌then◌else◌}
use Rattle.std.proofs.lemmas.List.Quantifiers.{position-Some}
use Rattle.std.proofs.lemmas.Option.{slice_get-get_or}
use Rattle.std.proofs.lemmas.Bool.{false≢true}
use Rattle.gt_base.specs.declared.events.Event.{Event}
use Rattle.gt_base.specs.contracts.events.EventPartialEq.TheImpl as equality
use Rattle.gt_base.specs.contracts.events.EventOrd.TheImpl.Laws as laws
use Rattle.indexmap.specs.IndexSet.{insert_key}
use Rattle.least_walk.proofs.Items.{item_get}
use Rattle.dependency_graph.specs.Making.{AreApart}
use Rattle.gtrbac_model.specs.Graph.{item_at}
use Rattle.gtrbac_model.specs.Same.{lists, same_event}
use Rattle.gtrbac_model.proofs.Uniqueness.{is_same_event, same_event_of}

-- what `==` answers
abbrev pub event_eq : Event → Event → Bool
event_eq = equality.ghosts.eq

alike : (a b : Bool) → (a ≡ true → b ≡ true) → (b ≡ true → a ≡ true) → a ≡ b
alike true true f g = refl
alike true false f g = absurd (false≢true (f refl))
alike false true f g = absurd (false≢true (g refl))
alike false false f g = refl

pub eq_same : (a b : Event) → event_eq a b ≡ same_event a b
eq_same a b = laws.matches_eq-law a b

any_alike : (e : Event) (xs : List Event) → list_any (event_eq e) xs ≡ lists same_event xs e
any_alike e [] = refl
any_alike e (x ∷ xs) = ap (λ b. b || list_any (event_eq e) xs) (eq_same e x) ∙ ap (λ b. same_event e x || b) (any_alike e xs)

-- what a look-up of the place says
pub place : (xs : List Event) (e : Event) (r : Option ℕ) → r ≡ position (event_eq e) xs → is_some r ≡ list_any (event_eq e) xs
    → MatchOption r (lists same_event xs e ≡ false) (λ n. item_at xs n ≡ Some e)
place xs e None at any = sym (any ∙ any_alike e xs)
place xs e (Some n) at any =
    let first = position-Some (event_eq e) xs n e (sym at) in
    item_get xs n ∙ slice_get-get_or xs n e first.0 ∙ ap Some (sym (is_same_event e (get_or xs n e) (sym (eq_same e (get_or xs n e)) ∙ first.1)))

pub same_sym : (a b : Event) → same_event a b ≡ same_event b a
same_sym a b = alike _ _ (λ h. same_event_of b a (sym (is_same_event a b h))) (λ h. same_event_of a b (sym (is_same_event b a h)))

or_false : (b : Bool) → (b || false) ≡ b
or_false true = refl
or_false false = refl

any_append : (p : Event → Bool) (xs ys : List Event) → list_any p (xs ++ ys) ≡ (list_any p xs || list_any p ys)
any_append p [] ys = refl
any_append p (x ∷ xs) ys = ap (λ b. p x || b) (any_append p xs ys) ∙ sym (or_assoc (p x) (list_any p xs) (list_any p ys))
  where
    or_assoc : (a b c : Bool) → ((a || b) || c) ≡ (a || (b || c))
    or_assoc true b c = refl
    or_assoc false b c = refl

-- after an insertion just one event more is there
pub inserted : (xs : List Event) (h e : Event) → lists same_event (insert_key event_eq xs h) e ≡ (lists same_event xs e || same_event e h)
inserted xs h e = go (list_any (event_eq h) xs) refl
  where
    there : (a b : Bool) → (b ≡ true → a ≡ true) → a ≡ (a || b)
    there true b f = refl
    there false true f = f refl
    there false false f = refl

    go : (b : Bool) → list_any (event_eq h) xs ≡ b → lists same_event (if b then xs else xs ++ h ∷ []) e ≡ (lists same_event xs e || same_event e h)
    go true q =
        there (lists same_event xs e) (same_event e h) (λ t. subst (λ x. lists same_event xs x ≡ true) (sym (is_same_event e h t)) (sym (any_alike h xs) ∙ q))
    go false q = any_append (same_event e) xs (h ∷ []) ∙ ap (λ b. lists same_event xs e || b) (or_false (same_event e h))

apart_push : (xs : List Event) (h : Event) → AreApart xs → lists same_event xs h ≡ false → AreApart (xs ++ h ∷ [])
apart_push xs h apart fresh i j e p q =
    elim (last_or xs h i e p) [
      | inl a ↦ elim (last_or xs h j e q) [
        | inl b ↦ apart i j e a b
        | inr b ↦ absurd (not_there i e a b.1)
      ]
      | inr a ↦ elim (last_or xs h j e q) [
        | inl b ↦ absurd (not_there j e b a.1)
        | inr b ↦ a.0 ∙ sym b.0
      ]
    ]
  where
    last_or : (xs : List Event) (h : Event) (i : ℕ) (e : Event) → item_at (xs ++ h ∷ []) i ≡ Some e → (item_at xs i ≡ Some e) ⊎ ((i ≡ length xs) × (e ≡ h))
    last_or [] h zero e p = let q : Some h ≡ Some e = p in inr (refl, cc)
    last_or [] h (suc i) e p = cc
    last_or (x ∷ xs) h zero e p = inl p
    last_or (x ∷ xs) h (suc i) e p = elim (last_or xs h i e p) [ inl k ↦ inl k | inr k ↦ inr (ap (λ n. suc n) k.0, k.1) ]

    is_there : (xs : List Event) (i : ℕ) (e : Event) → item_at xs i ≡ Some e → lists same_event xs e ≡ true
    is_there [] i e p = cc
    is_there (x ∷ xs) zero e p = let q : x ≡ e = cc in ap (λ b. b || lists same_event xs e) (same_event_of e x (sym q))
    is_there (x ∷ xs) (suc i) e p = right (same_event e x) _ (is_there xs i e p)
      where
        right : (a b : Bool) → b ≡ true → (a || b) ≡ true
        right true b h = refl
        right false b h = h

    not_there : (i : ℕ) (e : Event) → item_at xs i ≡ Some e → e ≡ h → ⊥
    not_there i e p q = false≢true (sym fresh ∙ ap (lists same_event xs) (sym q) ∙ is_there xs i e p)

-- an insertion keeps the events apart
pub apart_inserted : (xs : List Event) (h : Event) → AreApart xs → AreApart (insert_key event_eq xs h)
apart_inserted xs h apart = go (list_any (event_eq h) xs) refl
  where
    go : (b : Bool) → list_any (event_eq h) xs ≡ b → AreApart (if b then xs else xs ++ h ∷ [])
    go true q = apart
    go false q = apart_push xs h apart (sym (any_alike h xs) ∙ q)

pub one_longer : (xs : List Event) (h : Event) → length (insert_key event_eq xs h) ≤ length xs + 1
one_longer xs h = go (list_any (event_eq h) xs)
  where
    go : (b : Bool) → length (if b then xs else xs ++ h ∷ []) ≤ length xs + 1
    go true = omega arith
    go false = omega (arith, length-append xs (h ∷ []))
