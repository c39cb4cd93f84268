-- How many links are open where one was changed.
use Rattle.std.proofs.Common.{◌≡◌, ◌≢◌, ℕ, zero, suc, ◌+◌, ◌-◌, ◌≤◌, List, [], ◌∷◌, length, set, get_or, refl, sym, ap, subst, ◌∙◌, arith, Some, None}
use Rattle.std.specs.Prelude.{if◌then◌else◌}
use mathlib.Core.Logic.{dite}
use native.Mathlib.Decide.{ℕ_discrete}
use Rattle.gt_io.specs.Ports.{Port, is_none, open_among, told_at, told_in, unknown_but, open_in}
use Rattle.gt_io.proofs.PortLists.{in_set, in_away, in_get, one_opened}

abbrev pub one : Port → ℕ
one p = if is_none p.finished then 1 else 0

-- whether each of the first n links is open, and nothing else, is counted
pub count_same : (f g : ℕ → Port) (n : ℕ) → ((k : ℕ) → k ≤ n → (g k).finished ≡ (f k).finished) → open_among g n ≡ open_among f n
count_same f g zero same = refl
count_same f g (suc n) same =
    let before = count_same f g n (λ k low. same k (omega (arith, low))) in
    let last : one (g (n + 1)) ≡ one (f (n + 1)) = ap (λ o. if is_none o then 1 else 0) (same (n + 1) (omega arith)) in
    omega (arith, before, last)

-- one fewer where an open link is finished
pub count_less : (f g : ℕ → Port) (c m n : ℕ) → 1 ≤ c → c ≤ n → (f c).finished ≡ None → (g c).finished ≡ Some m → ((k : ℕ) → k ≢ c → (g k).finished ≡ (f k).finished) → open_among g n + 1 ≡ open_among f n
count_less f g c m zero first within unfinished over same = absurd (omega (arith, first, within))
count_less f g c m (suc n) first within unfinished over same =
    dite (ℕ_discrete c (n + 1)) (λ here.
    let before = count_same f g n (λ k low. same k (λ is. let e = is ∙ here in absurd (omega (arith, low, e)))) in
    let f1 : one (f (n + 1)) ≡ 1 = ap (λ o. if is_none o then 1 else 0) (subst (λ (k : ℕ). (f k).finished ≡ None) here unfinished) in
    let g1 : one (g (n + 1)) ≡ 0 = ap (λ o. if is_none o then 1 else 0) (subst (λ (k : ℕ). (g k).finished ≡ Some m) here over) in
    omega (arith, before, f1, g1)) (λ away.
    let low : c ≤ n = omega (arith, within, away) in
    let before = count_less f g c m n first low unfinished over same in
    let last : one (g (n + 1)) ≡ one (f (n + 1)) = ap (λ o. if is_none o then 1 else 0) (same (n + 1) (λ is. away (sym is))) in
    omega (arith, before, last))

-- no more than there are
pub count_most : (f : ℕ → Port) (n : ℕ) → open_among f n ≤ n
count_most f zero = omega arith
count_most f (suc n) =
    let before = count_most f n in
    let last = one_opened (f (n + 1)) in
    omega (arith, before, last)

module _ {A : Type 0} (tells : A → Port) (other : Port) (xs : List A) (c : ℕ) (first : 1 ≤ c) (last : c ≤ length xs) where
  -- as many where one is changed and stays as open as it was
  pub count_set : (n : ℕ) (x y : A) → x ≡ get_or xs (c - 1) x → (tells y).finished ≡ (tells x).finished → open_among (told_in tells other (set xs (c - 1) y)) n ≡ open_among (told_in tells other xs) n
  count_set n x y is same =
      count_same (told_in tells other xs) (told_in tells other (set xs (c - 1) y)) n (λ k low.
      dite (ℕ_discrete k c) (λ here.
      ap (λ (j : ℕ). (told_in tells other (set xs (c - 1) y) j).finished) here
      ∙ ap (λ (p : Port). p.finished) (in_set tells other xs c y first last)
      ∙ same
      ∙ ap (λ (z : A). (tells z).finished) is
      ∙ sym (ap (λ (p : Port). p.finished) (in_get tells other xs c x first last))
      ∙ ap (λ (j : ℕ). (told_in tells other xs j).finished) (sym here)) (λ away.
      ap (λ (p : Port). p.finished) (in_away tells other xs c k y first away)))

  -- one fewer where an open one is finished
  pub count_end : (n m : ℕ) (y : A) → c ≤ n → (told_in tells other xs c).finished ≡ None → (tells y).finished ≡ Some m → open_among (told_in tells other (set xs (c - 1) y)) n + 1 ≡ open_among (told_in tells other xs) n
  count_end n m y within unfinished over =
      count_less (told_in tells other xs) (told_in tells other (set xs (c - 1) y)) c m n first within unfinished
      (ap (λ (p : Port). p.finished) (in_set tells other xs c y first last) ∙ over)
      (λ k away. ap (λ (p : Port). p.finished) (in_away tells other xs c k y first away))

module _ {A : Type 0} (tells : A → Port) (other : Port) (none : other.finished ≡ None) where
  told_same : (xs : List A) (i : ℕ) → (told_at tells other xs i).finished ≡ (told_at (λ x. unknown_but (tells x).finished) (unknown_but None) xs i).finished
  told_same [] i = none
  told_same (x ∷ xs) zero = refl
  told_same (x ∷ xs) (suc i) = told_same xs i

  pub finished_same : (xs : List A) (k : ℕ) → (told_in tells other xs k).finished ≡ (told_in (λ x. unknown_but (tells x).finished) (unknown_but None) xs k).finished
  finished_same xs zero = none
  finished_same xs (suc i) = told_same xs i

  -- the count of a list is that of what is told of it
  pub open_is : (xs : List A) (n : ℕ) → open_in (λ x. (tells x).finished) xs n ≡ open_among (told_in tells other xs) n
  open_is xs n = sym (count_same (told_in (λ x. unknown_but (tells x).finished) (unknown_but None) xs) (told_in tells other xs) n (λ k low. finished_same xs k))
