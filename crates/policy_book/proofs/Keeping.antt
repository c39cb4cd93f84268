-- One more line after those that are kept.
use Rattle.std.proofs.Common.{◌≡◌, ℕ, ◌+◌, ◌<◌, ◌≤◌, true, List, [], ◌∷◌, ◌++◌, length, length-append, refl, ◌∙◌, arith, le-leb, lt-ltb, ltb-true}
use Rattle.std.proofs.lemmas.List.Folds.{list_all-append}
use Rattle.policy_words.specs.Sayings.{SaidView, is_saying}
use Rattle.policy_words.specs.Reading.{Numbered}
use Rattle.policy_book.specs.Said.{AreParts, are_before, rise_from, follows, is_placed, are_placed}
use Rattle.policy_book.proofs.Truth.{both, parted}

rise_added : (n : ℕ) (ss : List (Numbered SaidView)) (s : Numbered SaidView) → rise_from n ss ≡ true → are_before s.line ss ≡ true → n ≤ s.line → rise_from n (ss ++ s ∷ []) ≡ true
rise_added n [] s r b le = both _ _ (le-leb n s.line le) refl
rise_added n (x ∷ ss) s r b le =
    let rising = parted _ _ r in
    let before = parted _ _ b in
    both _ _ rising.0 (rise_added (x.line + 1) ss s rising.1 before.1 (let below = ltb-true x.line s.line before.0 in omega arith))

placed_added : (ss : List (Numbered SaidView)) (s : Numbered SaidView) → are_placed ss ≡ true → is_placed ss s.it ≡ true → are_placed (ss ++ s ∷ []) ≡ true
placed_added [] s all this = both _ _ this refl
placed_added (first ∷ more) s all this =
    let parts = parted _ _ all in
    both _ _ parts.0 (list_all-append (λ x. follows first.it x.it) more (s ∷ []) ∙ both _ _ parts.1 (both _ _ this refl))

pub one_more : (ss : List (Numbered SaidView)) (s : Numbered SaidView) → AreParts ss → is_saying s.it ≡ true → are_before s.line ss ≡ true → is_placed ss s.it ≡ true → length ss < 4_294_967_295
    → AreParts (ss ++ s ∷ [])
one_more ss s keeps said before placed few =
    record {
      said = list_all-append (λ x. is_saying x.it) ss (s ∷ []) ∙ both _ _ keeps.said (both _ _ said refl);
      rise = rise_added 0 ss s keeps.rise before (omega arith);
      placed = placed_added ss s keeps.placed placed;
      few = omega (arith, length-append ss (s ∷ []));
    }

-- the next number is above those so far
pub before_added : (n : ℕ) (ss : List (Numbered SaidView)) (s : Numbered SaidView) → are_before n ss ≡ true → s.line ≡ n → are_before (n + 1) (ss ++ s ∷ []) ≡ true
before_added n [] s before is = both _ _ (lt-ltb s.line (n + 1) (omega arith)) refl
before_added n (x ∷ ss) s before is =
    let parts = parted _ _ before in
    let below = ltb-true x.line n parts.0 in
    both _ _ (lt-ltb x.line (n + 1) (omega arith)) (before_added n ss s parts.1 is)
