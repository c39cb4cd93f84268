-- Edges by their numbers.
use Rattle.std.proofs.Common.{◌≡◌, ℕ, zero, suc, ◌+◌, ◌-◌, ◌≤◌, ◌<◌, Bool, true, false, refl, ap, sym, ◌∙◌, arith, nat_eq}
use Rattle.std.specs.List.{list_all}
use Rattle.std.proofs.lemmas.Bool.{eqb-true, eqb-false, false_from_ne_true}
use Rattle.gt_base.specs.declared.events.Fluent.{Fluent}
use Rattle.gt_base.specs.declared.events.Fluent.TheVariants.{Edge}
use Rattle.gtrbac_model.proofs.Elements.{both_true, and_true}
use Rattle.history_laws.proofs.Members.{clash}
use Rattle.policy_words.specs.Making.{edges_from}

all_edge : (test : Fluent → Bool) (from k n : ℕ) → list_all test (edges_from from k) ≡ true → from ≤ n → n < from + k → test (Edge n) ≡ true
all_edge test from zero n h low high = absurd (omega arith)
all_edge test from (suc k) n h low high = by (nat_eq n from) refl (λ above. all_edge test (from + 1) k n (both_true (test (Edge from)) _ h).1 above (omega arith))
  where
    by : (b : Bool) → nat_eq n from ≡ b → (from + 1 ≤ n → test (Edge n) ≡ true) → test (Edge n) ≡ true
    by true e later = ap (λ m. test (Edge m)) (eqb-true n from e) ∙ (both_true (test (Edge from)) _ h).0
    by false e later = later (omega (arith, low, eqb-false n from e))

-- where one of them fails the test, not all pass
pub not_all : (test : Fluent → Bool) (from k n : ℕ) → from ≤ n → n < from + k → test (Edge n) ≡ false → list_all test (edges_from from k) ≡ false
not_all test from k n low high off = false_from_ne_true _ (λ h. clash _ (all_edge test from k n h low high) off)

-- one more before them
pub one_down : (test : Fluent → Bool) (n m count : ℕ) → n ≡ m + 1 → n ≤ count → test (Edge m) ≡ true → list_all test (edges_from n (count - n)) ≡ true → list_all test (edges_from m (count - m)) ≡ true
one_down test n m count is le on all =
    let more : count - m ≡ suc (count - n) = omega (arith, is, le) in
    ap (λ k. list_all test (edges_from m k)) more ∙ and_true _ _ on (ap (λ j. list_all test (edges_from j (count - n))) (sym is) ∙ all)
