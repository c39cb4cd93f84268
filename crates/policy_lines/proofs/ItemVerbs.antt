-- No verb is of two kinds of items.
use Rattle.std.proofs.Common.{◌≡◌, ℕ, Bool, true, false, cond, List, [], ◌∷◌, Some, None, refl, sym, ◌∙◌, ap}
use Rattle.std.specs.Prelude.{find, bytes_eq}
use Rattle.std.proofs.lemmas.Slice.Eq.{bytes_eq-Decides}
use Rattle.gtrbac_model.proofs.Elements.{split}
use Rattle.policy_words.specs.declared.parts.Sort.{Sort}
use Rattle.policy_words.specs.declared.parts.Sort.TheVariants.{Enabling, Assigning, Granting, Arming, Linking}
use Rattle.policy_words.specs.Wording.{event_verb, verb_in, all_verbs, fluent_at, item_at}
use Rattle.policy_lines.specs.Cursors.{other_item_at}

-- what is found passes
pub found_passes : {A : Type 0} (p : A → Bool) (xs : List A) (x : A) → find p xs ≡ Some x → p x ≡ true
found_passes p [] x e = absurd (none_is e)
  where
    none_is : None ≡ Some x → ⊥
    none_is e = cc
found_passes p (y ∷ ys) x e = split (p y)
    (λ t. let same : Some y ≡ Some x = sym (ap (λ b. cond b (Some y) (find p ys)) t) ∙ e in ap p (sym (inner same)) ∙ t)
    (λ f. found_passes p ys x (sym (ap (λ b. cond b (Some y) (find p ys)) f) ∙ e))
  where
    inner : Some y ≡ Some x → y ≡ x
    inner e = cc

-- a verb that is found spells the word
pub spelled : (verb : Bool → Sort → List ℕ) (word : List ℕ) (v : Bool × Sort) → verb_in verb word ≡ Some v → verb v.0 v.1 ≡ word
spelled verb word v e = (bytes_eq-Decides (verb v.0 v.1) word).0 (found_passes (λ v. bytes_eq (verb v.0 v.1) word) all_verbs v e)

no_other : (v : Bool × Sort) (ws : List (List ℕ)) → other_item_at (event_verb v.0 v.1 ∷ ws) ≡ None
no_other (true, Enabling) ws = refl
no_other (false, Enabling) ws = refl
no_other (true, Assigning) ws = refl
no_other (false, Assigning) ws = refl
no_other (true, Granting) ws = refl
no_other (false, Granting) ws = refl
no_other (true, Arming) ws = refl
no_other (false, Arming) ws = refl
no_other (true, Linking) ws = refl
no_other (false, Linking) ws = refl

-- where the names of an event fail no item is there
pub item_fails : (w : List ℕ) (ws : List (List ℕ)) (v : Bool × Sort) → verb_in event_verb w ≡ Some v → None ≡ fluent_at v.1 ws → None ≡ item_at (w ∷ ws)
item_fails w ws v e none =
    let others : other_item_at (w ∷ ws) ≡ None = ap (λ w. other_item_at (w ∷ ws)) (sym (spelled event_verb w v e)) ∙ no_other v ws in
    rw (others, e, ← none) refl
