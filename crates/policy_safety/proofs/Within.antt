-- What the limits of a policy say of its triggers.
use Rattle.std.proofs.Common.{◌≡◌, ℕ, zero, suc, ◌+◌, ◌≤◌, Bool, true, nat_le, List, [], ◌∷◌, length, Some, arith}
use Rattle.std.specs.List.{list_all}
use Rattle.std.proofs.lemmas.Bool.{leb-true}
use Rattle.gt_base.specs.Held.{TriggerView}
use Rattle.gtrbac_model.specs.Policy.{Policy}
use Rattle.gtrbac_model.specs.Graph.{item_at}
use Rattle.gtrbac_model.proofs.Elements.{both_true}
use Rattle.gtrbac_model.specs.WholePolicy.{IsPolicy, is_rule}
use Rattle.dependency_graph.specs.Nets.{IsWithinLimits}

all_at : {A : Type 0} (p : A → Bool) (xs : List A) (n : ℕ) (x : A) → list_all p xs ≡ true → item_at xs n ≡ Some x → p x ≡ true
all_at p [] n x h e = cc
all_at p (y ∷ ys) zero x h e = let both = both_true (p y) (list_all p ys) h in cc (both.0, e)
all_at p (y ∷ ys) (suc n) x h e = all_at p ys n x (both_true (p y) (list_all p ys) h).1 e

few_items : (p : Policy) (r : TriggerView) → is_rule p r ≡ true → length r.events + length r.settled ≤ 16
few_items p r h = omega (arith, leb-true (length r.events + length r.signals + length r.conds + length r.settled) 16 (both_true _ _ h).1)

pub within : (p : Policy) → IsPolicy p → IsWithinLimits p.triggers
within p is =
    let both = both_true (nat_le (length p.triggers) 4_000) (list_all (is_rule p) p.triggers) is.triggers in
    record {
      few = leb-true (length p.triggers) 4_000 both.0;
      short = λ n r e. few_items p r (all_at (is_rule p) p.triggers n r both.1 e);
    }
