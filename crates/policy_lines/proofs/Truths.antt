-- Tests, and what they say.
use Rattle.std.proofs.Common.{◌≡◌, ◌⊎◌, inl, inr, Bool, true, false, cond, ◌&&◌, Some, None, refl, Option}

pub not_true : (b : Bool) → (b ≡ true → ⊥) → b ≡ false
not_true true h = absurd (h refl)
not_true false h = refl

pub both : (a b : Bool) → (a && b) ≡ true → (a ≡ true) × (b ≡ true)
both true b h = (refl, h)
both false b h = cc

pub and_true : (a b : Bool) → a ≡ true → b ≡ true → (a && b) ≡ true
and_true true b h k = k
and_true false b h k = h

pub some_is : {A : Type 0} {a b : A} → Some a ≡ Some b → a ≡ b
some_is e = cc

pub none_some : {A : Type 0} {a : A} → None ≡ Some a → ⊥
none_some e = cc

-- what is there only where a test holds
pub where_true : {A : Type 0} (b : Bool) (a x : A) → cond b (Some a) None ≡ Some x → (b ≡ true) × (a ≡ x)
where_true true a x e = (refl, some_is e)
where_true false a x e = absurd (none_some e)

-- what a test took
pub taken : {A : Type 0} (t : Bool) (x y r : A) → cond t x y ≡ r → ((t ≡ true) × (x ≡ r)) ⊎ ((t ≡ false) × (y ≡ r))
taken true x y r e = inl (refl, e)
taken false x y r e = inr (refl, e)
