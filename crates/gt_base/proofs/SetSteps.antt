-- The orders of the sets are total, and a set is what its members are.
use Rattle.std.specs.Cmp.{IsTotalOrder}
use Rattle.gt_base.specs.Orders.{event_cmp, fluent_cmp, prioritised_cmp, signal_cmp}
use Rattle.gt_base.specs.contracts.events.EventOrd.TheImpl.Laws as event_laws
use Rattle.gt_base.specs.contracts.events.FluentOrd.TheImpl.Laws as fluent_laws
use Rattle.gt_base.specs.contracts.events.PrioritisedOrd.TheImpl.Laws as prioritised_laws
use Rattle.gt_base.specs.contracts.events.SignalOrd.TheImpl.Laws as signal_laws

pub event_cmp_total : IsTotalOrder event_cmp
event_cmp_total = event_laws.total-law

pub fluent_cmp_total : IsTotalOrder fluent_cmp
fluent_cmp_total = fluent_laws.total-law

pub prioritised_cmp_total : IsTotalOrder prioritised_cmp
prioritised_cmp_total = prioritised_laws.total-law

pub signal_cmp_total : IsTotalOrder signal_cmp
signal_cmp_total = signal_laws.total-law
