-- What the words of sets mean by membership alone.
use Rattle.std.specs.Prelude.{◌≡◌, false, not, ◌&&◌, ◌||◌}
use Rattle.std.specs.Ordering.{eq_by_cmp}
use Rattle.std.specs.declared.cmp.Ordering.{Ordering}
use Rattle.gt_base.specs.Sets.{SetOf, has, none, with_member, without}

-- sets with the same members are equal; nothing is in the empty set; adding and taking out change
-- one member alone
pub record AreSets {K : Type 0} (R : K → K → Ordering) : Type 0 where
  pub same : (s t : SetOf R) → ((x : K) → has s x ≡ has t x) → s ≡ t
  pub empty : (x : K) → has (none {R = R}) x ≡ false
  pub added : (s : SetOf R) (k x : K) → has (with_member s k) x ≡ (eq_by_cmp R x k || has s x)
  pub taken_out : (s : SetOf R) (k x : K) → has (without s k) x ≡ (has s x && not (eq_by_cmp R k x))
