use Rattle.std.proofs.Common.{◌≡◌, ◌+◌, ◌||◌, sym, ◌∙◌, ap, arith}
use Rattle.std.specs.List.{list_any}
use Rattle.std.specs.Ordering.{eq_by_cmp}
use Rattle.gt_base.specs.Orders.{signal_cmp}
use Rattle.gt_base.specs.Sets.{has}
use Rattle.time_engine.proofs.SignalSets.{listed, for_next}
use Rattle.time_engine.proofs.dues.add_waiting.Goals as goal

pub returns-in_ok-reserve-clause-signals : goal.returns-in_ok-reserve-clause-signals
returns-in_ok-reserve-clause-signals c = λ x.
    let at : c.args.t ≡ c.args.s.now.present + 1 = omega arith in
    c.add_signals.ensures.signals x
    ∙ (λ i. has (c.in_ok-reserve.ensures.set i).signals x || listed c.as_slice-signals.result.now c.args.s.now.signals.set c.as_slice-signals.ensures x i)
    ∙ ap (λ xs. has c.args.base.now.set.signals x || list_any (eq_by_cmp signal_cmp x) xs) (sym (for_next c.args.s.now.present c.args.t c.args.s.now.signals.set at))
