-- Words that are written one after another.
use Rattle.std.proofs.Common.{◌≡◌, ℕ, List, [], ◌∷◌, ◌++◌, refl, sym, ◌∙◌, ap, append_assoc, flat_map, append-nil, length, get_or, take, drop, ◌+◌, ◌-◌, arith, ◌<◌, ◌≤◌, Result, Ok, Err, OnOk}
use Rattle.std.specs.Prelude.{codes}
use Rattle.std.proofs.lemmas.Grind.{flat_map-append}
use Rattle.std.proofs.lemmas.List.{take_all, take_more}
use Rattle.policy_words.specs.declared.parts.Item.{Item}
use Rattle.policy_words.specs.Wording.{item_words}
use Rattle.policy_words.specs.Sayings.{and_items}
use Rattle.gt_text.specs.Words.{spaced}
use Rattle.policy_lines.specs.Spaces.{behind_space, later, led, linked_item}

pub later-append : (a b : List (List ℕ)) → later (a ++ b) ≡ later a ++ later b
later-append a b = flat_map-append behind_space a b

pub later_items : (i : Item) (is : List Item) → later (item_words i) ++ flat_map linked_item is ≡ later (and_items (i ∷ is))
later_items i [] = append-nil (later (item_words i))
later_items i (j ∷ is) =
    ap (λ t. later (item_words i) ++ t) (append_assoc (later (codes "and" ∷ [])) (later (item_words j)) (flat_map linked_item is) ∙ ap (λ t. later (codes "and" ∷ []) ++ t) (later_items j is))
    ∙ sym (later-append (item_words i) (codes "and" ∷ and_items (j ∷ is)))

pub from_first : (items : List Item) (i : Item) → 1 ≤ length items → i ≡ get_or items 0 i
    → later (item_words i) ++ flat_map linked_item (take (length items - 1) (drop 1 items)) ≡ later (and_items items)
from_first [] i some is = absurd (omega (arith, some))
from_first (j ∷ js) i some is =
    let rest : take (length (j ∷ js) - 1) js ≡ js = take_all (length (j ∷ js) - 1) js (omega arith) in
    ap (λ js. later (item_words i) ++ flat_map linked_item js) rest ∙ ap (λ i. later (item_words i) ++ flat_map linked_item js) is ∙ later_items j js

-- two texts one after another are one
pub one_text : (old mid new a b c : List ℕ) → new ≡ mid ++ b → mid ≡ old ++ a → a ++ b ≡ c → new ≡ old ++ c
one_text old mid new a b c e f g = e ∙ ap (λ t. t ++ b) f ∙ append_assoc old a b ∙ ap (λ t. old ++ t) g

-- one item more is written behind those before it
pub linked_more : (old mid new : List ℕ) (items : List Item) (n : ℕ) (i : Item) → n < length items → i ≡ get_or items n i → new ≡ mid ++ linked_item i
    → mid ≡ old ++ flat_map linked_item (take n items) → new ≡ old ++ flat_map linked_item (take (n + 1) items)
linked_more old mid new items n i lt is e f =
    let before : List ℕ = flat_map linked_item (take n items) in
    let all : flat_map linked_item (take (n + 1) items) ≡ before ++ linked_item (get_or items n i) =
    ap (flat_map linked_item) (take_more items n i lt) ∙ flat_map-append linked_item (take n items) (get_or items n i ∷ []) ∙ ap (λ t. before ++ t) (append-nil (linked_item (get_or items n i)))
    in
    one_text old mid new before (linked_item i) (flat_map linked_item (take (n + 1) items)) e f (ap (λ j. before ++ linked_item j) is ∙ sym all)

pub map_ok : {T E : Type 0} {P Q : Type 0} (r : Result T E) → OnOk r P → (P → Q) → OnOk r Q
map_ok (Ok x) h f = f h
map_ok (Err e) h f = tt

pub led_is_spaced : (ws : List (List ℕ)) → led ws ≡ spaced ws
led_is_spaced [] = refl
led_is_spaced (w ∷ []) = append-nil w
led_is_spaced (w ∷ v ∷ vs) = ap (λ t. w ++ 32 ∷ t) (led_is_spaced (v ∷ vs)) ∙ sym (append_assoc w (32 ∷ []) (spaced (v ∷ vs)))
