-- Only equal pairs tie in their order.
pub use Rattle.delay_agenda.specs.Order.{pending_cmp_total}
use Rattle.std.proofs.Common.{◌≡◌, sym}
use Rattle.std.specs.FinMap.{IsAntisymmetric, nat_cmp-IsAntisymmetric}
use Rattle.std.specs.Ordering.{nat_cmp}
use Rattle.std.specs.declared.cmp.Ordering.TheVariants.{Equal}
use Rattle.gt_base.specs.Orders.{prioritised_cmp}
use Rattle.gt_base.proofs.OrderLaws.{both_tie, prioritised_cmp-IsAntisymmetric}
use Rattle.delay_agenda.specs.Due.{pending_cmp}

pub pending_cmp-IsAntisymmetric : IsAntisymmetric pending_cmp
pending_cmp-IsAntisymmetric a b e =
    let t : (nat_cmp b.due a.due ≡ Equal) × (prioritised_cmp a.event b.event ≡ Equal) = both_tie _ _ e in
    let p : b.due ≡ a.due = nat_cmp-IsAntisymmetric _ _ t.0 in
    let q : a.event ≡ b.event = prioritised_cmp-IsAntisymmetric _ _ t.1 in
    λ i. record { due = sym p i; event = q i }
