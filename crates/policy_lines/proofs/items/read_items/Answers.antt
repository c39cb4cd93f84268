use Rattle.policy_lines.proofs.Linked.{turn_none, turn_cut, turn_last, turn_next, fewer_words}
use Rattle.policy_lines.proofs.items.read_items.Goals as goal

pub returns-in-None : goal.returns-in-None
returns-in-None c = turn_cut c.loop-item.items.items _ _ _ _ c.loop-item.invariant c.in-Some.ensures c.in-None.ensures

pub returns-in-Some-true : goal.returns-in-Some-true
returns-in-Some-true c = turn_last c.loop-item.items.items c.add.new.items.items _ _ _ _ _ c.loop-item.invariant c.in-Some.ensures c.in_ok-add.ensures (rw c.in-Some-true.field-0-test at c.in-Some-true.ensures)

pub loop-item-smaller : goal.loop-item-smaller
loop-item-smaller c = fewer_words _ _ _ _ _ c.in-Some.ensures c.in-Some-false.ensures

pub loop-item-preserved : goal.loop-item-preserved
loop-item-preserved c = turn_next c.loop-item.items.items c.add.new.items.items _ _ _ _ _ c.loop-item.invariant c.in-Some.ensures c.in_ok-add.ensures (rw c.in-Some-false.field-0-test at c.in-Some-false.ensures)

pub returns : goal.returns
returns c = turn_none c.loop-item.items.items _ _ c.loop-item.invariant c.in_default.ensures
