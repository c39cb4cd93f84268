-- The next stop of two tests.
use Rattle.std.specs.Cmp.{nat_cmp_is}
use Rattle.std.specs.Ordering.{is_le, nat_cmp}
use Rattle.std.specs.declared.cmp.Ordering.TheVariants.{Less, Equal}
use Rattle.std.proofs.lemmas.Bool.{ltb-true, ltb-false, eqb-true, eqb-false}
use Rattle.std.proofs.Common.{◌≡◌, ℕ, ◌<◌, ◌≤◌, Bool, true, false, ◌||◌, nat_eq, nat_lt, inl, inr, sym, ◌∙◌, ap, arith}
use Rattle.gtrbac_model.specs.History.{IsNextStop}
use Rattle.gtrbac_model.proofs.Elements.{left_true, right_true, split}

pub both_stop : (f g : ℕ → Bool) (now upto mid to : ℕ) → IsNextStop f now upto mid → IsNextStop g now mid to → IsNextStop (λ t. f t || g t) now upto to
both_stop f g now upto mid to a b = record {
  later = b.later;
  bounded = omega (arith, a.bounded, b.bounded);
  none_before = λ t lo hi. (λ i. a.none_before t lo (omega (arith, hi, b.bounded)) i || g t) ∙ b.none_before t lo hi;
  stop = elim b.stop [
    | inl y ↦ inl (right_true (f to) (g to) y)
    | inr is ↦ elim a.stop [
      | inl y ↦ inl (left_true (f to) (g to) (ap f is ∙ y))
      | inr all ↦ inr (is ∙ all)
    ]
  ];
}

-- what is not at most is more
pub past : (a b : ℕ) → is_le (nat_cmp a b) ≡ false → b < a
past a b e =
    split (nat_lt b a) (λ y. ltb-true b a y)
    (λ n. let le : a ≤ b = ltb-false b a n in
    split (nat_eq a b)
    (λ y. let is : Equal ≡ nat_cmp a b = nat_cmp_is a b Equal (eqb-true a b y) in let holds : is_le (nat_cmp a b) ≡ true = sym (ap is_le is) in let clash : true ≡ false = sym holds ∙ e in cc)
    (λ y. let lt : a < b = less a b le (eqb-false a b y) in
    let is : Less ≡ nat_cmp a b = nat_cmp_is a b Less lt in let holds : is_le (nat_cmp a b) ≡ true = sym (ap is_le is) in let clash : true ≡ false = sym holds ∙ e in cc))
  where
    less : (a b : ℕ) → a ≤ b → (a ≡ b → ⊥) → a < b
    less a b le ne = split (nat_lt a b) (λ y. ltb-true a b y) (λ n. absurd (ne (omega (arith, le, ltb-false a b n))))
