-- The words of sets mean what they say, in every total order in which only equal values tie.
use Rattle.std.proofs.Common.{not, ap, sym}
use Rattle.std.specs.Ordering.{eq_by_cmp}
use Rattle.std.specs.Cmp.{IsTotalOrder}
use Rattle.std.specs.declared.cmp.Ordering.{Ordering}
use Rattle.std.specs.FinMap.{IsAntisymmetric}
use Rattle.gt_base.specs.SetWords.{AreSets}
use Rattle.gt_base.specs.Orders.{event_cmp, fluent_cmp, prioritised_cmp, signal_cmp}
use Rattle.gt_base.proofs.SetLaws.{same_sets, has-none, has-with_member, has-those}
use Rattle.gt_base.proofs.SetSteps.{event_cmp_total, fluent_cmp_total, prioritised_cmp_total, signal_cmp_total}
use Rattle.gt_base.proofs.OrderLaws.{event_cmp-IsAntisymmetric, fluent_cmp-IsAntisymmetric, prioritised_cmp-IsAntisymmetric, signal_cmp-IsAntisymmetric}

are_sets : {K : Type 0} {R : K → K → Ordering} → IsTotalOrder R → IsAntisymmetric R → AreSets R
are_sets {R = R} o tie =
    record {
      same = same_sets o tie;
      empty = has-none R;
      added = has-with_member o;
      taken_out = λ s k x. has-those o s (λ y. not (eq_by_cmp R k y)) x (λ y e. ap (λ z. not (eq_by_cmp R k z)) (sym (tie x y e)));
    }

pub events_are_sets : AreSets event_cmp
events_are_sets = are_sets event_cmp_total event_cmp-IsAntisymmetric

pub fluents_are_sets : AreSets fluent_cmp
fluents_are_sets = are_sets fluent_cmp_total fluent_cmp-IsAntisymmetric

pub prioritised_are_sets : AreSets prioritised_cmp
prioritised_are_sets = are_sets prioritised_cmp_total prioritised_cmp-IsAntisymmetric

pub signals_are_sets : AreSets signal_cmp
signals_are_sets = are_sets signal_cmp_total signal_cmp-IsAntisymmetric
