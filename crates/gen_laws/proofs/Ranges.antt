-- Lists that are made of the numbers of a range.
use Rattle.std.proofs.Common.{◌≡◌, ℕ, zero, suc, ◌+◌, ◌≤◌, ◌<◌, Bool, true, false, ◌||◌, List, [], ◌∷◌, ◌++◌, map, Some, refl, ap, ◌∙◌, arith}
use Rattle.std.specs.List.{list_all, list_any, range_with_len, slice_get, flat_map}
use Rattle.std.proofs.lemmas.Bool.{or_from}
use Rattle.gtrbac_model.proofs.Elements.{and_true}

module _ {X : Type 0} where
  pub all_range : (p : X → Bool) (f : ℕ → X) (a n : ℕ) → ((i : ℕ) → a ≤ i → i < a + n → p (f i) ≡ true) → list_all p (map f (range_with_len a n)) ≡ true
  all_range p f a zero on = refl
  all_range p f a (suc n) on = and_true (p (f a)) _ (on a (omega arith) (omega arith)) (all_range p f (a + 1) n (λ i low high. on i (omega (arith, low)) (omega (arith, high))))

  none_range : (p : X → Bool) (f : ℕ → X) (a n : ℕ) → ((i : ℕ) → a ≤ i → i < a + n → p (f i) ≡ false) → list_any p (map f (range_with_len a n)) ≡ false
  none_range p f a zero on = refl
  none_range p f a (suc n) on = or_from (p (f a)) _ (on a (omega arith) (omega arith)) (none_range p f (a + 1) n (λ i low high. on i (omega (arith, low)) (omega (arith, high))))

  -- no two of them are the same, by any such test of a list
  pub apart_range : (same : X → X → Bool) (repeats : List X → Bool) → repeats [] ≡ false → ((x : X) (xs : List X) → repeats (x ∷ xs) ≡ (list_any (same x) xs || repeats xs))
      → (f : ℕ → X) (a n : ℕ) → ((i j : ℕ) → i < j → j < a + n → same (f i) (f j) ≡ false) → repeats (map f (range_with_len a n)) ≡ false
  apart_range same repeats none more f a zero on = none
  apart_range same repeats none more f a (suc n) on =
      more (f a) (map f (range_with_len (a + 1) n))
      ∙ or_from (list_any (same (f a)) (map f (range_with_len (a + 1) n))) _
      (none_range (same (f a)) f (a + 1) n (λ j low high. on a j (omega (arith, low)) (omega (arith, high))))
      (apart_range same repeats none more f (a + 1) n (λ i j lt high. on i j lt (omega (arith, high))))

  pub map_up : (f g : ℕ → X) (a n : ℕ) → ((i : ℕ) → a ≤ i → i < a + n → f i ≡ g (i + 1)) → map f (range_with_len a n) ≡ map g (range_with_len (a + 1) n)
  map_up f g a zero on = refl
  map_up f g a (suc n) on =
      ap (λ x. x ∷ map f (range_with_len (a + 1) n)) (on a (omega arith) (omega arith))
      ∙ ap (λ xs. g (a + 1) ∷ xs) (map_up f g (a + 1) n (λ i low high. on i (omega (arith, low)) (omega (arith, high))))

  pub flat_map_up : (f g : ℕ → List X) (a n : ℕ) → ((i : ℕ) → a ≤ i → i < a + n → f i ≡ g (i + 1)) → flat_map f (range_with_len a n) ≡ flat_map g (range_with_len (a + 1) n)
  flat_map_up f g a zero on = refl
  flat_map_up f g a (suc n) on =
      ap (λ x. x ++ flat_map f (range_with_len (a + 1) n)) (on a (omega arith) (omega arith))
      ∙ ap (λ xs. g (a + 1) ++ xs) (flat_map_up f g (a + 1) n (λ i low high. on i (omega (arith, low)) (omega (arith, high))))

  pub get_range : (f : ℕ → X) (a k i j : ℕ) → i < k → a + i ≡ j → slice_get (map f (range_with_len a k)) i ≡ Some (f j)
  get_range f a zero i j lt is = absurd (omega (arith, lt))
  get_range f a (suc k) zero j lt is = let e : a ≡ j = omega (arith, is) in ap (λ m. Some (f m)) e
  get_range f a (suc k) (suc i) j lt is = get_range f (a + 1) k i j (omega (arith, lt)) (omega (arith, is))
