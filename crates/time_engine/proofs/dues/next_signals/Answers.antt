use Rattle.std.proofs.Common.{sym, ◌∙◌}
use Rattle.time_engine.proofs.SignalSets.{some_listed, signals_next, none_next}
use Rattle.time_engine.proofs.dues.next_signals.Goals as goal

pub returns-then-has_item-clause-next : goal.returns-then-has_item-clause-next
returns-then-has_item-clause-next g c =
    signals_next c.args.s.now.present c.args.s.now.signals.set c.minute_after.result
    (sym (some_listed c.as_slice.result.now c.args.s.now.signals.set c.as_slice.ensures) ∙ sym c.has_item.ensures ∙ c.if-has_item.true) c.minute_after.ensures.some c.minute_after.ensures.none

pub returns-else-has_item-clause-next : goal.returns-else-has_item-clause-next
returns-else-has_item-clause-next g c = λ u low high.
    none_next c.args.s.now.present c.args.s.now.signals.set u (sym (some_listed c.as_slice.result.now c.args.s.now.signals.set c.as_slice.ensures) ∙ sym c.has_item.ensures ∙ c.if-has_item.false)
