use Rattle.std.proofs.Common.{◌≤◌, length, drop, sym, ap, ◌∙◌, arith, None, ◌≡◌, ◌-◌, List, [], All, subst}
use Rattle.std.proofs.lemmas.List.{length-set, drop-set-lt}
use Rattle.gt_io.specs.MemoryPorts.{port_of, no_port, woken}
use Rattle.gt_io.proofs.PortLists.{happens_ready}
use Rattle.gt_io.specs.Ports.{Port, unknown_but}
use Rattle.gt_io.specs.declared.memory_ports.MemPort.{MemPort}
use Rattle.gt_io.proofs.Counting.{count_set}
use Rattle.gt_io.proofs.Plans.{wires, one_changed, wire_at}
use Rattle.gt_io.proofs.memory_ports.MemPorts.wake.Goals as goal

pub returns-clause-happens : goal.returns-clause-happens
returns-clause-happens c =
    let s = c.args.self.now in
    let some = c.if-link-eq0.false in
    let low = c.if-link-self.false in
    let within = s.within in
    happens_ready port_of no_port s.told s.nexts s.opened s.faults s.ends c.args.link s.ports.items c.index_mut.result.now c.wake.new.self (omega (arith, some)) (omega (arith, low)) (omega (arith, low, within)) c.index_mut.ensures.value c.wake.ensures.port

pub returns-clause-plan : goal.returns-clause-plan
returns-clause-plan c =
    let s = c.args.self.now in
    let xs = s.ports.items in
    let k = c.args.link in
    let x = c.index_mut.result.now in
    let some = c.if-link-eq0.false in
    let low = c.if-link-self.false in
    let within = s.within in
    let first : 1 ≤ k = omega (arith, some) in
    let last : k ≤ length xs = omega (arith, low, within) in
    one_changed (drop s.at s.events.items) s.bad_nexts.items xs k c.wake.new.self (woken (wires xs k)) first last (c.wake.ensures.wire ∙ ap woken (sym (wire_at xs k x first last c.index_mut.ensures.value)))

pub invariant_of-self-clause-counted : goal.invariant_of-self-clause-counted
invariant_of-self-clause-counted c =
    let s = c.args.self.now in
    let some = c.if-link-eq0.false in
    let low = c.if-link-self.false in
    let within = s.within in
    s.counted ∙ sym (count_set (λ (z : MemPort). unknown_but z.finished) (unknown_but None) s.ports.items c.args.link (omega (arith, some)) (omega (arith, low, within)) s.opened c.index_mut.result.now c.wake.new.self c.index_mut.ensures.value (ap (λ (p : Port). p.finished) c.wake.ensures.port))

pub invariant_of-self-clause-within : goal.invariant_of-self-clause-within
invariant_of-self-clause-within c =
    let s = c.args.self.now in
    let within = s.within in
    let same = length-set s.ports.items (c.args.link - 1) c.wake.new.self in
    omega (arith, within, same)

pub invariant_of-self-clause-unused : goal.invariant_of-self-clause-unused
invariant_of-self-clause-unused c =
    let s = c.args.self.now in
    let first = c.if-link-eq0.false in
    let last = c.if-link-self.false in
    subst (λ (ps : List MemPort). All (λ (p : MemPort). (p.at ≡ 0) × (p.given.items ≡ [])) ps) (sym (drop-set-lt s.opened s.ports.items (c.args.link - 1) c.wake.new.self (omega (arith, first, last)))) s.unused
