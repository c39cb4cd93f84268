-- Texts that are cut at a byte which their front has not.
use Rattle.std.proofs.Common.{◌≡◌, ℕ, ◌<◌, ◌^◌, Bool, true, false, not, ◌&&◌, ◌||◌, List, [], ◌∷◌, ◌++◌, decimal, refl, sym, ◌∙◌, ap}
use Rattle.std.specs.Prelude.{nat_eq}
use Rattle.std.specs.List.{list_all}
use Rattle.std.proofs.lemmas.Bool.{false≢true}
use Rattle.std.proofs.lemmas.Bool.Decides.{Decides-eqb}
use Rattle.gt_base.specs.Names.{is_name, is_name_byte, is_letter, is_digit}
use Rattle.policy_lines.proofs.Truths.{both, and_true}
use Rattle.gt_text.proofs.Decimals.{all_digits}

abbrev pub differs : ℕ → ℕ → Bool
differs c b = not (nat_eq b c)

abbrev pub lacks : ℕ → List ℕ → Bool
lacks c text = list_all (differs c) text

not_self : (c b : ℕ) → b ≡ c → differs c b ≡ true → ⊥
not_self c b e h = false≢true (sym (ap (λ t. not t) ((Decides-eqb b c).1 e)) ∙ h)

head_is : {A : Type 0} (x y : A) (xs ys : List A) → x ∷ xs ≡ y ∷ ys → x ≡ y
head_is x y xs ys e = cc

tail_is : {A : Type 0} (x y : A) (xs ys : List A) → x ∷ xs ≡ y ∷ ys → xs ≡ ys
tail_is x y xs ys e = cc

pub cut : (c : ℕ) (a b rest more : List ℕ) → lacks c a ≡ true → lacks c b ≡ true → a ++ c ∷ rest ≡ b ++ c ∷ more → (a ≡ b) × (rest ≡ more)
cut c [] [] rest more h k e = (refl, tail_is c c rest more e)
cut c [] (y ∷ b) rest more h k e = absurd (not_self c y (sym (head_is c y rest (b ++ c ∷ more) e)) (both (differs c y) (lacks c b) k).0)
cut c (x ∷ a) [] rest more h k e = absurd (not_self c x (head_is x c (a ++ c ∷ rest) more e) (both (differs c x) (lacks c a) h).0)
cut c (x ∷ a) (y ∷ b) rest more h k e =
    let both_rest = cut c a b rest more (both (differs c x) (lacks c a) h).1 (both (differs c y) (lacks c b) k).1 (tail_is x y (a ++ c ∷ rest) (b ++ c ∷ more) e) in
    (ap (λ z. z ∷ a) (head_is x y (a ++ c ∷ rest) (b ++ c ∷ more) e) ∙ ap (λ zs. y ∷ zs) both_rest.0, both_rest.1)

apart : (p : ℕ → Bool) (c b : ℕ) → p c ≡ false → p b ≡ true → differs c b ≡ true
apart p c b free is = by (nat_eq b c) refl
  where
    by : (t : Bool) → nat_eq b c ≡ t → differs c b ≡ true
    by false e = ap (λ t. not t) e
    by true e = absurd (false≢true (sym free ∙ ap p (sym ((Decides-eqb b c).0 e)) ∙ is))

pub lacks_from : (p : ℕ → Bool) (c : ℕ) (text : List ℕ) → p c ≡ false → list_all p text ≡ true → lacks c text ≡ true
lacks_from p c [] free h = refl
lacks_from p c (b ∷ bs) free h = let parts = both (p b) (list_all p bs) h in and_true (differs c b) (lacks c bs) (apart p c b free parts.0) (lacks_from p c bs free parts.1)

letter_is : (b : ℕ) → is_letter b ≡ true → is_name_byte b ≡ true
letter_is b h = ap (λ t. t || is_digit b || nat_eq b 95 || nat_eq b 45 || nat_eq b 46) h

pub lacks_name : (c : ℕ) (n : List ℕ) → is_name_byte c ≡ false → is_name n ≡ true → lacks c n ≡ true
lacks_name c [] free h = refl
lacks_name c (b ∷ bs) free h =
    let parts = both (is_letter b) (list_all is_name_byte bs) (both (is_letter b && list_all is_name_byte bs) _ h).0 in
    and_true (differs c b) (lacks c bs) (apart is_name_byte c b free (letter_is b parts.0)) (lacks_from is_name_byte c bs free parts.1)

pub lacks_decimal : (c n : ℕ) → is_digit c ≡ false → n < 2 ^ 64 → lacks c (decimal n) ≡ true
lacks_decimal c n free small = lacks_from is_digit c (decimal n) free (all_digits n small)

pub lacks_append : (c : ℕ) (a b : List ℕ) → lacks c a ≡ true → lacks c b ≡ true → lacks c (a ++ b) ≡ true
lacks_append c [] b h k = k
lacks_append c (x ∷ a) b h k = let parts = both (differs c x) (lacks c a) h in and_true (differs c x) (lacks c (a ++ b)) parts.0 (lacks_append c a b parts.1 k)
