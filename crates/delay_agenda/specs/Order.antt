-- The laws of the order of pairs.
use Rattle.std.specs.Prelude.{◌≡◌}
use Rattle.std.proofs.Common.{refl, ◌∙◌}
use Rattle.std.specs.Cmp.{IsTotalOrder, IsPartialOrder, then_total, back_total, on_total, nat_cmp_total, nat_eq_equiv, unsigned_ties, both_tied, partial_order_from_agreeing_total}
use Rattle.std.specs.Ordering.{as_partial_cmp, eq_by_cmp, nat_cmp}
use Rattle.gt_base.specs.Orders.{prioritised_cmp}
use Rattle.gt_base.specs.contracts.events.PrioritisedOrd.TheImpl.Laws as prioritised_laws
use Rattle.delay_agenda.specs.declared.pairs.Pending.{Pending}
use Rattle.delay_agenda.specs.contracts.pairs.PendingPartialEq.TheImpl as equality
use Rattle.delay_agenda.specs.Due.{pending_cmp}

-- it is total
pub pending_cmp_total : IsTotalOrder pending_cmp
pending_cmp_total =
    then_total (back_total (on_total (λ (p : Pending). p.due) nat_cmp_total))
    (on_total (λ (p : Pending). p.event) prioritised_laws.total-law)

-- equal pairs tie in it, and no others
pub pending_ties : (p q : Pending) → equality.ghosts.eq p q ≡ eq_by_cmp pending_cmp p q
pending_ties p q =
    both_tied _ _ (nat_cmp q.due p.due) (prioritised_cmp p.event q.event)
    (nat_eq_equiv.symm p.due q.due ∙ unsigned_ties q.due p.due)
    (prioritised_laws.matches_eq-law p.event q.event)

-- what `<` and the like rest on
pub pending_order : IsPartialOrder equality.ghosts.eq (as_partial_cmp pending_cmp)
pending_order =
    partial_order_from_agreeing_total pending_cmp pending_cmp_total (λ _ _. refl) pending_ties
