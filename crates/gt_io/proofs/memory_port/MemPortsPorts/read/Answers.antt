use Rattle.std.proofs.Common.{drop, length, arith, sym, ap, ◌∙◌, None, ◌≡◌, ◌-◌, List, [], All, subst}
use Rattle.std.proofs.lemmas.List.{length-set, drop-set-lt}
use Rattle.gt_io.specs.MemoryPorts.{port_of, no_port}
use Rattle.gt_io.proofs.PortLists.{reads_port}
use Rattle.gt_io.specs.Ports.{Port, unknown_but}
use Rattle.gt_io.specs.declared.memory_ports.MemPort.{MemPort}
use Rattle.gt_io.proofs.Counting.{count_set}
use Rattle.gt_io.proofs.Plans.{gives_got}
use Rattle.gt_io.proofs.memory_port.MemPortsPorts.read.Goals as goal

pub returns-clause-reads : goal.returns-clause-reads
returns-clause-reads c =
    let s = c.args.self.now in
    let last = c.requires.open.last in
    let within = s.within in
    reads_port port_of no_port s.told s.nexts s.opened s.faults c.count_fault-self.result s.ends c.count_finished-self.result s.ports.items c.args.link c.index_mut.result.now c.read-answer.new.self c.read-answer.new.buf c.read-answer.result
    c.requires.open.first (omega (arith, last, within)) c.index_mut.ensures.value c.read-answer.ensures.bound c.read-answer.ensures.port c.count_fault-self.ensures c.count_finished-self.ensures

pub returns-clause-gives : goal.returns-clause-gives
returns-clause-gives c =
    let s = c.args.self.now in
    let last = c.requires.open.last in
    let within = s.within in
    gives_got (drop s.at s.events.items) s.bad_nexts.items s.ports.items c.args.link (length c.args.buf.now) c.index_mut.result.now c.read-answer.new.self c.read-answer.result c.requires.open.first (omega (arith, last, within)) c.index_mut.ensures.value
    c.read-answer.ensures.answer c.read-answer.ensures.wire

pub invariant_of-self-clause-counted : goal.invariant_of-self-clause-counted
invariant_of-self-clause-counted c =
    let s = c.args.self.now in
    let last = c.requires.open.last in
    let within = s.within in
    s.counted ∙ sym (count_set (λ (z : MemPort). unknown_but z.finished) (unknown_but None) s.ports.items c.args.link c.requires.open.first (omega (arith, last, within)) s.opened c.index_mut.result.now c.read-answer.new.self c.index_mut.ensures.value (ap (λ (p : Port). p.finished) c.read-answer.ensures.port.rest))

pub invariant_of-self-clause-within : goal.invariant_of-self-clause-within
invariant_of-self-clause-within c =
    let s = c.args.self.now in
    let within = s.within in
    let same = length-set s.ports.items (c.args.link - 1) c.read-answer.new.self in
    omega (arith, within, same)

pub invariant_of-self-clause-unused : goal.invariant_of-self-clause-unused
invariant_of-self-clause-unused c =
    let s = c.args.self.now in
    let first = c.requires.open.first in
    let last = c.requires.open.last in
    subst (λ (ps : List MemPort). All (λ (p : MemPort). (p.at ≡ 0) × (p.given.items ≡ [])) ps) (sym (drop-set-lt s.opened s.ports.items (c.args.link - 1) c.read-answer.new.self (omega (arith, first, last)))) s.unused
