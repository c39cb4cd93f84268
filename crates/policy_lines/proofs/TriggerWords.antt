-- What is read from the words of a trigger is in range, and the words spell it.
use Rattle.std.proofs.Common.{◌≡◌, ◌⊎◌, inl, inr, ℕ, zero, suc, ◌≤◌, true, false, cond, ◌&&◌, List, [], ◌∷◌, ◌++◌, length, Some, None, refl, sym, ◌∙◌, ap, subst, arith, decimal, append_assoc}
use Rattle.std.specs.Prelude.{codes, bytes_eq, nat_le, nat_eq}
use Rattle.std.specs.List.{list_all}
use Rattle.std.proofs.lemmas.Slice.Eq.{bytes_eq-Decides}
use Rattle.std.proofs.lemmas.Bool.{false≢true, le-leb}
use Rattle.std.proofs.lemmas.Bool.Decides.{Decides-eqb}
use Rattle.std.proofs.lemmas.Fmt.{decimal_digit}
use Rattle.gtrbac_model.proofs.Elements.{split}
use Rattle.gt_base.specs.Names.{number_from}
use Rattle.gt_base.specs.declared.limits.TheConstants.{LAST_MINUTE}
use Rattle.gt_text.specs.Words.{words_of}
use Rattle.policy_words.specs.declared.parts.NamedHead.{NamedHead}
use Rattle.policy_words.specs.declared.parts.Item.{Item}
use Rattle.policy_words.specs.Wording.{item_at, item_words, head_at, head_words, delay_in, delay_words}
use Rattle.policy_words.specs.Sayings.{SaidView, trigger, and_items, is_formed, is_item, is_head}
use Rattle.gtrbac_model.specs.History.{is_some_item}
use Rattle.policy_words.specs.Reading.{items_at, trigger_in}
use Rattle.policy_words.specs.Spelling.{Spells}
use Rattle.policy_lines.proofs.Truths.{and_true, some_is, none_some, taken}
use Rattle.gt_text.proofs.Decimals.{number_from_is}
use Rattle.policy_lines.proofs.FrontWords.{item_at_is}
use Rattle.policy_lines.proofs.Linked.{with_item}
use Rattle.policy_lines.proofs.FormWords.{came, head_at_is}

record ItemsAt (ws : List (List ℕ)) (r : List Item × List (List ℕ)) : Type 0 where
  some : is_some_item r.0 ≡ true
  items : list_all is_item r.0 ≡ true
  words : ws ≡ and_items r.0 ++ codes "then" ∷ r.1

and_more : (i : Item) (is : List Item) → is_some_item is ≡ true → and_items (i ∷ is) ≡ item_words i ++ codes "and" ∷ and_items is
and_more i [] h = absurd (false≢true h)
and_more i (j ∷ js) h = refl

items_after : (k : ℕ) (i : Item) (rest : List (List ℕ)) (r : List Item × List (List ℕ)) → ((ws : List (List ℕ)) (r : List Item × List (List ℕ)) → items_at k ws ≡ Some r → ItemsAt ws r)
    → is_item i ≡ true → with_item k (i, rest) ≡ Some r → ItemsAt (item_words i ++ rest) r
items_after k i [] r again is e = absurd (none_some e)
items_after k i (w ∷ more) r again is e =
    elim (taken (bytes_eq w (codes "and")) _ _ (Some r) e) [
      | inl (t, go) ↦
          (let c = came (items_at k more) (λ rest. Some (i ∷ rest.0, rest.1)) r go in
          let rest = again more c.it c.was in
          subst (ItemsAt (item_words i ++ w ∷ more)) (some_is c.then)
          (record {
            some = refl;
            items = and_true (is_item i) (list_all is_item c.it.0) is rest.items;
            words = ap (λ w. item_words i ++ w ∷ more) ((bytes_eq-Decides w (codes "and")).0 t) ∙ ap (λ ws. item_words i ++ codes "and" ∷ ws) rest.words
                ∙ sym (append_assoc (item_words i) (codes "and" ∷ and_items c.it.0) (codes "then" ∷ c.it.1))
                ∙ ap (λ ws. ws ++ codes "then" ∷ c.it.1) (sym (and_more i c.it.0 rest.some));
          }))
      | inr (f, go) ↦ elim (taken (bytes_eq w (codes "then")) _ _ (Some r) go) [
        | inl (t, end) ↦
            subst (ItemsAt (item_words i ++ w ∷ more)) (some_is end)
            (record { some = refl; items = and_true (is_item i) true is refl; words = ap (λ w. item_words i ++ w ∷ more) ((bytes_eq-Decides w (codes "then")).0 t) })
        | inr (g, end) ↦ absurd (none_some end)
      ]
    ]

items_at_is : (k : ℕ) (ws : List (List ℕ)) (r : List Item × List (List ℕ)) → items_at k ws ≡ Some r → ItemsAt ws r
items_at_is zero ws r e = absurd (none_some e)
items_at_is (suc k) ws r e =
    let c = came (item_at ws) (with_item k) r e in
    let i_is = item_at_is ws c.it c.was in
    subst (λ ws. ItemsAt ws r) (sym i_is.words) (items_after k c.it.0 c.it.1 r (items_at_is k) i_is.names c.then)

-- a delay of 0 is spelled in two ways

abbrev pub SpellsDelay : ℕ → List (List ℕ) → Type 0
SpellsDelay d ws = (ws ≡ delay_words d) ⊎ ((d ≡ 0) × (ws ≡ codes "after" ∷ codes "0" ∷ []))

delay_of : (d : ℕ) (n : List ℕ) → n ≡ decimal d → SpellsDelay d (codes "after" ∷ n ∷ [])
delay_of d n e = split (nat_eq d 0)
    (λ t.
    let is : d ≡ 0 = (Decides-eqb d 0).0 t in inr (is, ap (λ n. codes "after" ∷ n ∷ []) (e ∙ ap decimal is ∙ decimal_digit 0 (omega arith))))
    (λ f. inl (ap (λ n. codes "after" ∷ n ∷ []) e ∙ sym (ap (λ b. cond b [] (codes "after" ∷ decimal d ∷ [])) f)))

pub delay_is : (ws : List (List ℕ)) (d : ℕ) → delay_in ws ≡ Some d → (d ≤ LAST_MINUTE) × SpellsDelay d ws
delay_is [] d e = let none : 0 ≡ d = some_is e in (omega (arith, none), inl (sym (ap delay_words (sym none))))
delay_is (w ∷ []) d e = absurd (none_some e)
delay_is (w ∷ n ∷ []) d e =
    elim (taken (bytes_eq w (codes "after")) (number_from 0 52_595_999 n) None (Some d) e) [
      | inl (t, go) ↦
          (let is = number_from_is 0 52_595_999 n d (omega arith) go in
          (is.1, subst (λ w. SpellsDelay d (w ∷ n ∷ [])) (sym ((bytes_eq-Decides w (codes "after")).0 t)) (delay_of d n is.2)))
      | inr (f, go) ↦ absurd (none_some go)
    ]
delay_is (w ∷ n ∷ v ∷ ws) d e = absurd (none_some e)

-- the whole

spells_trigger : (line : List ℕ) (items : List Item) (h : NamedHead) (d : ℕ) (ws : List (List ℕ)) → words_of line ≡ codes "when" ∷ (and_items items ++ codes "then" ∷ head_words h) ++ ws → SpellsDelay d ws
    → Spells (trigger items h d) line
spells_trigger line items h zero ws words (inl e) = inl (words ∙ ap (λ ws. codes "when" ∷ (and_items items ++ codes "then" ∷ head_words h) ++ ws) e)
spells_trigger line items h zero ws words (inr e) = inr (words ∙ ap (λ ws. codes "when" ∷ (and_items items ++ codes "then" ∷ head_words h) ++ ws) e.1)
spells_trigger line items h (suc d) ws words (inl e) = words ∙ ap (λ ws. codes "when" ∷ (and_items items ++ codes "then" ∷ head_words h) ++ ws) e
spells_trigger line items h (suc d) ws words (inr e) = absurd (omega (arith, e.0))

pub record TriggerAt (line : List ℕ) (s : SaidView) : Type 0 where
  pub items : List Item
  pub head : NamedHead
  pub delay : ℕ
  pub built : trigger items head delay ≡ s
  pub formed : is_formed (trigger items head delay) ≡ true
  pub spelled : Spells (trigger items head delay) line

pub trigger_is : (line : List ℕ) (ws : List (List ℕ)) (s : SaidView) → words_of line ≡ codes "when" ∷ ws → trigger_in ws ≡ Some s → TriggerAt line s
trigger_is line ws s words e =
    let items = came (items_at (length ws) ws) _ s e in
    let head = came (head_at 99 items.it.1) _ s items.then in
    let delay = came (delay_in head.it.1) _ s head.then in
    let i_is = items_at_is (length ws) ws items.it items.was in
    let h_is = head_at_is items.it.1 head.it head.was in
    let d_is = delay_is head.it.1 delay.it delay.was in
    record {
      items = items.it.0;
      head = head.it.0;
      delay = delay.it;
      built = some_is delay.then;
      formed = and_true (is_some_item items.it.0 && list_all is_item items.it.0 && is_head head.it.0) (nat_le delay.it LAST_MINUTE)
          (and_true (is_some_item items.it.0 && list_all is_item items.it.0) (is_head head.it.0) (and_true (is_some_item items.it.0) (list_all is_item items.it.0) i_is.some i_is.items) h_is.head)
          (le-leb delay.it LAST_MINUTE d_is.0);
      spelled = spells_trigger line items.it.0 head.it.0 delay.it head.it.1
          (words
          ∙ ap (λ ws. codes "when" ∷ ws)
          (i_is.words ∙ ap (λ ws. and_items items.it.0 ++ codes "then" ∷ ws) h_is.words ∙ sym (append_assoc (and_items items.it.0) (codes "then" ∷ head_words head.it.0) head.it.1)))
          d_is.1;
    }
