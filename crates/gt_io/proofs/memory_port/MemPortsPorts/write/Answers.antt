use Rattle.std.proofs.Common.{drop, arith, sym, ap, ◌∙◌, None, ◌≡◌, ◌-◌, List, [], All, subst}
use Rattle.std.proofs.lemmas.List.{length-set, drop-set-lt}
use Rattle.gt_io.specs.MemoryPorts.{port_of, no_port}
use Rattle.gt_io.proofs.PortLists.{writes_port}
use Rattle.gt_io.specs.Ports.{Port, unknown_but}
use Rattle.gt_io.specs.declared.memory_ports.MemPort.{MemPort}
use Rattle.gt_io.proofs.Counting.{count_set}
use Rattle.gt_io.proofs.Plans.{gives_took}
use Rattle.gt_io.proofs.memory_port.MemPortsPorts.write.Goals as goal

pub returns-clause-writes : goal.returns-clause-writes
returns-clause-writes c =
    let s = c.args.self.now in
    let last = c.requires.open.last in
    let within = s.within in
    writes_port port_of no_port s.told s.nexts s.opened s.faults c.count_fault-self.result s.ends s.ports.items c.args.link c.index_mut.result.now c.write-answer.new.self c.args.piece.now c.write-answer.result
    c.requires.open.first (omega (arith, last, within)) c.index_mut.ensures.value c.write-answer.ensures.bound c.write-answer.ensures.port c.count_fault-self.ensures

pub returns-clause-takes : goal.returns-clause-takes
returns-clause-takes c =
    let s = c.args.self.now in
    let last = c.requires.open.last in
    let within = s.within in
    gives_took (drop s.at s.events.items) s.bad_nexts.items s.ports.items c.args.link c.args.piece.now c.index_mut.result.now c.write-answer.new.self c.write-answer.result c.requires.open.first (omega (arith, last, within)) c.index_mut.ensures.value
    c.write-answer.ensures.answer c.write-answer.ensures.wire

pub invariant_of-self-clause-counted : goal.invariant_of-self-clause-counted
invariant_of-self-clause-counted c =
    let s = c.args.self.now in
    let last = c.requires.open.last in
    let within = s.within in
    s.counted ∙ sym (count_set (λ (z : MemPort). unknown_but z.finished) (unknown_but None) s.ports.items c.args.link c.requires.open.first (omega (arith, last, within)) s.opened c.index_mut.result.now c.write-answer.new.self c.index_mut.ensures.value (ap (λ (p : Port). p.finished) c.write-answer.ensures.port.rest))

pub invariant_of-self-clause-within : goal.invariant_of-self-clause-within
invariant_of-self-clause-within c =
    let s = c.args.self.now in
    let within = s.within in
    let same = length-set s.ports.items (c.args.link - 1) c.write-answer.new.self in
    omega (arith, within, same)

pub invariant_of-self-clause-unused : goal.invariant_of-self-clause-unused
invariant_of-self-clause-unused c =
    let s = c.args.self.now in
    let first = c.requires.open.first in
    let last = c.requires.open.last in
    subst (λ (ps : List MemPort). All (λ (p : MemPort). (p.at ≡ 0) × (p.given.items ≡ [])) ps) (sym (drop-set-lt s.opened s.ports.items (c.args.link - 1) c.write-answer.new.self (omega (arith, first, last)))) s.unused
