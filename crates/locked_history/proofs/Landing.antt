-- A turn at the lock, from its draw to its end.
use Rattle.std.proofs.Common.{◌≡◌, ◌⊎◌, ℕ, ◌+◌, ◌^◌, ◌<◌, ◌≤◌, List, [], ◌∷◌, ◌++◌, length, drop, false, None, Some, sym, ap, subst, ◌∙◌, arith, append_assoc, append-nil, Option, inl, inr}
use mathlib.Core.List.{IsPrefix}
use Rattle.gt_base.specs.declared.requests.Entry.{Entry}
use Rattle.gt_base.specs.declared.limits.TheConstants.{MAX_STEPS}
use Rattle.turn_lock.specs.Turns.{part}
use Rattle.turn_lock.specs.Holders.{Holder}
use Rattle.locked_history.specs.Fronts.{Lands, Refuses}

-- the machine's tick adds an entry before the bound alone
pub early_is : (a b m n upto : ℕ) → a < b → a ≡ m → m ≡ n → b ≡ upto → n < upto
early_is a b m n upto less a_is m_is b_is = omega (arith, less, a_is, m_is, b_is)

pub grown_when : (now upto : ℕ) (Q G : Type 0) → now < upto → ((upto ≤ now) × Q) ⊎ ((now < upto) × G) → G
grown_when now upto Q G early (inl p) = let late = p.0 in absurd (omega (arith, early, late))
grown_when now upto Q G early (inr p) = p.1

pub same_when : (a b m n upto : ℕ) (Q G : Type 0) → b ≤ a → a ≡ m → m ≡ n → b ≡ upto → ((upto ≤ n) × Q) ⊎ ((n < upto) × G) → (upto ≤ n) × Q
same_when a b m n upto Q G least a_is m_is b_is (inl p) = p
same_when a b m n upto Q G least a_is m_is b_is (inr p) = let early = p.0 in absurd (omega (arith, least, a_is, m_is, b_is, early))

-- a list that grew by one begins with what it began with
pub prefix_grown : (seen known front : List Entry) (e : Entry) → IsPrefix seen known → front ≡ known ++ e ∷ [] → IsPrefix seen front
prefix_grown seen known front e begins grown =
    (begins.0 ++ e ∷ [], sym (append_assoc seen begins.0 (e ∷ [])) ∙ ap (λ (l : List Entry). l ++ e ∷ []) begins.1 ∙ sym grown)

module _ {M : Type 0} where
  -- what the turn left of the pass
  pub drawn_site : (a b : Holder M) (known : List Entry) → b ≡ record a { draws = a.draws + 1; turn = Some known; keeps = false } → b.site ≡ a.site
  drawn_site a b known drawn = ap (λ (p : Holder M). p.site) drawn

  pub drawn_number : (a b : Holder M) (known : List Entry) → b ≡ record a { draws = a.draws + 1; turn = Some known; keeps = false } → b.number ≡ a.number
  drawn_number a b known drawn = ap (λ (p : Holder M). p.number) drawn

  pub drawn_turn : (a b : Holder M) (known : List Entry) → b ≡ record a { draws = a.draws + 1; turn = Some known; keeps = false } → b.turn ≡ Some known
  drawn_turn a b known drawn = ap (λ (p : Holder M). p.turn) drawn

  -- what the step left of the pass
  pub stepped_site : (b c : Holder M) (front : List Entry) (e : Entry) → c ≡ record b { seen = front; own = b.own ++ e ∷ []; turn = Some front } → c.site ≡ b.site
  stepped_site b c front e stepped = ap (λ (p : Holder M). p.site) stepped

  pub stepped_turn : (b c : Holder M) (front : List Entry) (e : Entry) → c ≡ record b { seen = front; own = b.own ++ e ∷ []; turn = Some front } → c.turn ≡ Some front
  stepped_turn b c front e stepped = ap (λ (p : Holder M). p.turn) stepped

  -- the pass with the turn drawn, and left again
  left_is : (a b d : Holder M) (known : List Entry) → b ≡ record a { draws = a.draws + 1; turn = Some known; keeps = false } → d ≡ record b { seen = known; turn = None; keeps = d.keeps }
      → d ≡ record a { draws = a.draws + 1; seen = known; turn = None; keeps = d.keeps }
  left_is a b d known drawn left = left ∙ ap (λ (p : Holder M). record p { seen = known; turn = None; keeps = d.keeps }) drawn

  pub idle : (first : List Entry) (a b d : Holder M) (known : List Entry) → a.turn ≡ None → a.draws < 2 ^ 40 → b ≡ record a { draws = a.draws + 1; turn = Some known; keeps = false } → IsPrefix a.seen known
      → d ≡ record b { seen = known; turn = None; keeps = d.keeps } → IsPrefix first known → d.own ≡ part d.number (drop (length first) known) → Lands first a d known []
  idle first a b d known free room drawn seen left first_is own =
      let whole = left_is a b d known drawn left in
      let draws = ap (λ (p : Holder M). p.draws) whole in
      let number = ap (λ (p : Holder M). p.number) whole in
      record {
        seen = seen;
        first_is = first_is;
        part_is = ap (λ (n : ℕ). part n (drop (length first) known)) (sym number) ∙ sym own ∙ ap (λ (p : Holder M). p.own) whole ∙ sym (append-nil a.own);
        after_is = whole ∙ ap (λ (n : ℕ). record a { draws = n; seen = known; turn = None; keeps = d.keeps }) (sym draws)
            ∙ ap (λ (t : Option (List Entry)). record a { draws = d.draws; seen = known; turn = t; keeps = d.keeps }) (sym free)
            ∙ ap (λ (own : List Entry). record a { draws = d.draws; seen = known; own = own; keeps = d.keeps }) (sym (append-nil a.own));
        draws = (room, draws);
      }

  pub landed : (first : List Entry) (a b c d : Holder M) (known front : List Entry) (e : Entry) → a.turn ≡ None → a.draws < 2 ^ 40 → b ≡ record a { draws = a.draws + 1; turn = Some known; keeps = false } → IsPrefix a.seen front
      → c ≡ record b { seen = front; own = b.own ++ e ∷ []; turn = Some front } → d ≡ record c { seen = front; turn = None; keeps = d.keeps } → IsPrefix first front → d.own ≡ part d.number (drop (length first) front) → Lands first a d front (e ∷ [])
  landed first a b c d known front e free room drawn seen stepped left first_is own =
      let whole : d ≡ record a { draws = a.draws + 1; seen = front; own = a.own ++ e ∷ []; turn = None; keeps = d.keeps } = left ∙ ap (λ (p : Holder M). record p { seen = front; turn = None; keeps = d.keeps }) stepped
      ∙ ap (λ (p : Holder M). record p { seen = front; own = p.own ++ e ∷ []; turn = None; keeps = d.keeps }) drawn in
      let draws = ap (λ (p : Holder M). p.draws) whole in
      let number = ap (λ (p : Holder M). p.number) whole in
      record {
        seen = seen;
        first_is = first_is;
        part_is = ap (λ (n : ℕ). part n (drop (length first) front)) (sym number) ∙ sym own ∙ ap (λ (p : Holder M). p.own) whole;
        after_is = whole ∙ ap (λ (n : ℕ). record a { draws = n; seen = front; own = a.own ++ e ∷ []; turn = None; keeps = d.keeps }) (sym draws)
            ∙ ap (λ (t : Option (List Entry)). record a { draws = d.draws; seen = front; own = a.own ++ e ∷ []; turn = t; keeps = d.keeps }) (sym free);
        draws = (room, draws);
      }

  pub refused : (a b d : Holder M) (known : List Entry) → a.turn ≡ None → b ≡ record a { draws = a.draws + 1; turn = Some known; keeps = false } → IsPrefix a.seen known → length known ≤ MAX_STEPS
      → d ≡ record b { seen = known; turn = None; keeps = d.keeps } → Refuses a d
  refused a b d known free drawn seen short left =
      let whole = left_is a b d known drawn left in
      let draws = ap (λ (p : Holder M). p.draws) whole in
      let seen_is = ap (λ (p : Holder M). p.seen) whole in
      record {
        seen = subst (IsPrefix a.seen) (sym seen_is) seen;
        long = inr (subst (λ (l : List Entry). length l ≤ MAX_STEPS) (sym seen_is) short);
        after_is = whole ∙ ap (λ (n : ℕ). record a { draws = n; seen = known; turn = None; keeps = d.keeps }) (sym draws)
            ∙ ap (λ (l : List Entry). record a { draws = d.draws; seen = l; turn = None; keeps = d.keeps }) (sym seen_is)
            ∙ ap (λ (t : Option (List Entry)). record a { draws = d.draws; seen = d.seen; turn = t; keeps = d.keeps }) (sym free);
        draws = (omega (arith, draws), omega (arith, draws));
      }
