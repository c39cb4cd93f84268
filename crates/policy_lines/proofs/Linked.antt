-- Items, one after another.
use Rattle.std.proofs.Common.{◌≡◌, ℕ, zero, suc, ◌<◌, ◌≤◌, Bool, true, false, cond, List, [], ◌∷◌, ◌++◌, length, Option, Some, None, refl, sym, ◌∙◌, ap, arith, append_assoc}
use Rattle.std.specs.Prelude.{codes, bytes_eq}
use Rattle.gtrbac_model.proofs.Elements.{split}
use Rattle.policy_words.specs.declared.parts.Item.{Item}
use Rattle.policy_words.specs.Wording.{◌>>=◌, item_at}
use Rattle.policy_words.specs.Reading.{items_at}
use Rattle.policy_lines.specs.Cursors.{link_at, items_of, onto}
use Rattle.policy_lines.proofs.Truths.{some_is, none_some}
use Rattle.policy_lines.proofs.FrontWords.{item_shorter}

-- items by their links
abbrev after_link : Item → Option (Bool × List (List ℕ)) → (List (List ℕ) → Option (List Item × List (List ℕ))) → Option (List Item × List (List ℕ))
after_link i None rest = None
after_link i (Some l) rest = cond l.0 (Some (i ∷ [], l.1)) (onto (i ∷ []) (rest l.1))

one_more : (i : Item) (r : Option (List Item × List (List ℕ))) → ◌>>=◌ {A = List Item × List (List ℕ)} r (λ rest. Some (i ∷ rest.0, rest.1)) ≡ onto (i ∷ []) r
one_more i None = refl
one_more i (Some r) = refl

by_words : (a b : Bool) (i : Item) (more : List (List ℕ)) (f : List (List ℕ) → Option (List Item × List (List ℕ)))
    → cond a (◌>>=◌ {A = List Item × List (List ℕ)} (f more) (λ rest. Some (i ∷ rest.0, rest.1))) (cond b (Some (i ∷ [], more)) None)
    ≡ after_link i (cond a (Some (false, more)) (cond b (Some (true, more)) None)) f
by_words true b i more f = one_more i (f more)
by_words false true i more f = refl
by_words false false i more f = refl

abbrev pub with_item : ℕ → Item × List (List ℕ) → Option (List Item × List (List ℕ))
with_item k i =
    elim i.1 [
      | [] ↦ None
      | w ∷ more ↦
          cond (bytes_eq w (codes "and")) (◌>>=◌ {A = List Item × List (List ℕ)} (items_at k more) (λ rest. Some (i.0 ∷ rest.0, rest.1))) (cond (bytes_eq w (codes "then")) (Some (i.0 ∷ [], more)) None)
    ]

by_link : (k : ℕ) (ws : List (List ℕ)) (i : Item) (rest : List (List ℕ)) → item_at ws ≡ Some (i, rest) → items_at (suc k) ws ≡ after_link i (link_at rest) (items_at k)
by_link k ws i [] is = ap (λ (r : Option (Item × List (List ℕ))). ◌>>=◌ {A = Item × List (List ℕ)} r (with_item k)) is
by_link k ws i (w ∷ more) is =
    ap (λ (r : Option (Item × List (List ℕ))). ◌>>=◌ {A = Item × List (List ℕ)} r (with_item k)) is
    ∙ by_words (bytes_eq w (codes "and")) (bytes_eq w (codes "then")) i more (items_at k)

no_item : (k : ℕ) (ws : List (List ℕ)) → item_at ws ≡ None → items_at k ws ≡ None
no_item zero ws is = refl
no_item (suc k) ws is = ap (λ (r : Option (Item × List (List ℕ))). ◌>>=◌ {A = Item × List (List ℕ)} r (with_item k)) is

link_shorter : (ws : List (List ℕ)) (l : Bool × List (List ℕ)) → link_at ws ≡ Some l → length l.1 < length ws
link_shorter [] l e = absurd (none_some e)
link_shorter (w ∷ ws) l e =
    split (bytes_eq w (codes "and")) (λ t. let is : (false, ws) ≡ l = some_is (rw (t, link_at) at e) in omega (arith, ap (λ (l : Bool × List (List ℕ)). length l.1) is))
    (λ n. split (bytes_eq w (codes "then")) (λ t. let is : (true, ws) ≡ l = some_is (rw (n, t, link_at) at e) in omega (arith, ap (λ (l : Bool × List (List ℕ)). length l.1) is)) (λ m. absurd (none_some (rw (n, m, link_at) at e))))

same_links : (k j : ℕ) (ws : List (List ℕ)) → length ws ≤ suc k → length ws ≤ suc j → ((ws : List (List ℕ)) → length ws ≤ k → length ws ≤ j → items_at k ws ≡ items_at j ws)
    → (i : Item) (rest : List (List ℕ)) → item_at ws ≡ Some (i, rest) → (l : Option (Bool × List (List ℕ))) → link_at rest ≡ l → after_link i l (items_at k) ≡ after_link i l (items_at j)
same_links k j ws a b again i rest is None e = refl
same_links k j ws a b again i rest is (Some (true, more)) e = refl
same_links k j ws a b again i rest is (Some (false, more)) e =
    let shorter = item_shorter ws (i, rest) is in
    let shorter2 = link_shorter rest (false, more) e in
    ap (onto (i ∷ [])) (again more (omega (arith, a, shorter, shorter2)) (omega (arith, b, shorter, shorter2)))

same_turns : (k j : ℕ) (ws : List (List ℕ)) → length ws ≤ suc k → length ws ≤ suc j → ((ws : List (List ℕ)) → length ws ≤ k → length ws ≤ j → items_at k ws ≡ items_at j ws)
    → (r : Option (Item × List (List ℕ))) → item_at ws ≡ r → items_at (suc k) ws ≡ items_at (suc j) ws
same_turns k j ws a b again None e = no_item (suc k) ws e ∙ sym (no_item (suc j) ws e)
same_turns k j ws a b again (Some (i, rest)) e = by_link k ws i rest e ∙ same_links k j ws a b again i rest e (link_at rest) refl ∙ sym (by_link j ws i rest e)

-- more turns than words change nothing
turns : (k j : ℕ) (ws : List (List ℕ)) → length ws ≤ k → length ws ≤ j → items_at k ws ≡ items_at j ws
turns zero zero ws a b = refl
turns zero (suc j) [] a b = refl
turns zero (suc j) (w ∷ ws) a b = absurd (omega (arith, a))
turns (suc k) zero [] a b = refl
turns (suc k) zero (w ∷ ws) a b = absurd (omega (arith, b))
turns (suc k) (suc j) ws a b = same_turns k j ws a b (turns k j) (item_at ws) refl

-- the items by their front and the rest

first_link : (ws : List (List ℕ)) (i : Item) (rest : List (List ℕ)) → item_at ws ≡ Some (i, rest) → items_of ws ≡ after_link i (link_at rest) (items_at (length ws))
unfolding items_of
first_link ws i rest is = turns (length ws) (suc (length ws)) ws (omega arith) (omega arith) ∙ by_link (length ws) ws i rest is

pub items_none : (ws : List (List ℕ)) → None ≡ item_at ws → items_of ws ≡ None
unfolding items_of
items_none ws is = no_item (length ws) ws (sym is)

pub items_cut : (ws rest : List (List ℕ)) (i : Item) → Some (i, rest) ≡ item_at ws → None ≡ link_at rest → items_of ws ≡ None
items_cut ws rest i is link = first_link ws i rest (sym is) ∙ ap (λ l. after_link i l (items_at (length ws))) (sym link)

pub items_last : (ws rest more : List (List ℕ)) (i : Item) → Some (i, rest) ≡ item_at ws → Some (true, more) ≡ link_at rest → items_of ws ≡ Some (i ∷ [], more)
items_last ws rest more i is link = first_link ws i rest (sym is) ∙ ap (λ l. after_link i l (items_at (length ws))) (sym link)

pub items_next : (ws rest more : List (List ℕ)) (i : Item) → Some (i, rest) ≡ item_at ws → Some (false, more) ≡ link_at rest → items_of ws ≡ onto (i ∷ []) (items_of more)
unfolding items_of
items_next ws rest more i is link =
    let shorter = item_shorter ws (i, rest) (sym is) in
    let shorter2 = link_shorter rest (false, more) (sym link) in
    first_link ws i rest (sym is) ∙ ap (λ l. after_link i l (items_at (length ws))) (sym link)
    ∙ ap (onto (i ∷ [])) (turns (length ws) (length more) more (omega (arith, shorter, shorter2)) (omega arith))

pub fewer_words : (ws rest more : List (List ℕ)) (i : Item) (b : Bool) → Some (i, rest) ≡ item_at ws → Some (b, more) ≡ link_at rest → length more < length ws
fewer_words ws rest more i b is link = omega (arith, item_shorter ws (i, rest) (sym is), link_shorter rest (b, more) (sym link))

pub onto-onto : (a b : List Item) (r : Option (List Item × List (List ℕ))) → onto a (onto b r) ≡ onto (a ++ b) r
onto-onto a b None = refl
onto-onto a b (Some r) = ap (λ is. Some (is, r.1)) (sym (append_assoc a b r.0))

-- the turns of the loop, after these items

pub turn_none : (items : List Item) (ws : List (List ℕ)) (all : Option (List Item × List (List ℕ))) → onto items (items_of ws) ≡ all → None ≡ item_at ws → None ≡ all
turn_none items ws all inv is = sym (ap (onto items) (items_none ws is)) ∙ inv

pub turn_cut : (items : List Item) (ws rest : List (List ℕ)) (i : Item) (all : Option (List Item × List (List ℕ))) → onto items (items_of ws) ≡ all → Some (i, rest) ≡ item_at ws → None ≡ link_at rest
    → None ≡ all
turn_cut items ws rest i all inv is link = sym (ap (onto items) (items_cut ws rest i is link)) ∙ inv

pub turn_last : (items items' : List Item) (ws rest more : List (List ℕ)) (i : Item) (all : Option (List Item × List (List ℕ))) → onto items (items_of ws) ≡ all → Some (i, rest) ≡ item_at ws
    → items' ≡ items ++ i ∷ [] → Some (true, more) ≡ link_at rest → Some (items', more) ≡ all
turn_last items items' ws rest more i all inv is added link =
    ap (λ is. Some (is, more)) added ∙ sym (ap (onto items) (items_last ws rest more i is link)) ∙ inv

pub turn_next : (items items' : List Item) (ws rest more : List (List ℕ)) (i : Item) (all : Option (List Item × List (List ℕ))) → onto items (items_of ws) ≡ all → Some (i, rest) ≡ item_at ws
    → items' ≡ items ++ i ∷ [] → Some (false, more) ≡ link_at rest → onto items' (items_of more) ≡ all
turn_next items items' ws rest more i all inv is added link =
    ap (λ is. onto is (items_of more)) added ∙ sym (onto-onto items (i ∷ []) (items_of more)) ∙ sym (ap (onto items) (items_next ws rest more i is link)) ∙ inv
