use Rattle.std.proofs.Common.{drop, arith, sym, ap, ◌∙◌, None, refl, ◌≡◌, ◌-◌, List, [], All, subst}
use Rattle.std.proofs.lemmas.List.{length-set, drop-set-lt}
use Rattle.gt_io.specs.MemoryPorts.{port_of, no_port}
use Rattle.gt_io.proofs.PortLists.{finishes_port}
use Rattle.gt_io.specs.Ports.{Port, unknown_but}
use Rattle.gt_io.specs.declared.memory_ports.MemPort.{MemPort}
use Rattle.gt_io.proofs.Counting.{count_end, finished_same}
use Rattle.gt_io.proofs.Plans.{none_changed}
use Rattle.gt_io.proofs.memory_port.MemPortsPorts.finish.Goals as goal

pub returns-clause-finished : goal.returns-clause-finished
returns-clause-finished c =
    let s = c.args.self.now in
    let last = c.requires.last in
    let within = s.within in
    finishes_port port_of no_port s.told s.nexts s.opened s.faults s.ends s.ports.items c.args.link c.index_mut.result.now c.end.new.self c.requires.first (omega (arith, last, within)) c.index_mut.ensures.value c.end.ensures.port

pub returns-clause-plan : goal.returns-clause-plan
returns-clause-plan c =
    let s = c.args.self.now in
    let last = c.requires.last in
    let within = s.within in
    none_changed (drop s.at s.events.items) s.bad_nexts.items s.ports.items c.args.link c.index_mut.result.now c.end.new.self c.requires.first (omega (arith, last, within)) c.index_mut.ensures.value c.end.ensures.wire

pub overflow_sub-self : goal.overflow_sub-self
overflow_sub-self c =
    let s = c.args.self.now in
    let last = c.requires.last in
    let within = s.within in
    let counted = s.counted in
    let less = count_end (λ (z : MemPort). unknown_but z.finished) (unknown_but None) s.ports.items c.args.link c.requires.first (omega (arith, last, within)) s.opened s.nexts c.end.new.self last (sym (finished_same port_of no_port refl s.ports.items c.args.link) ∙ c.requires.unfinished) (ap (λ (p : Port). p.finished) c.end.ensures.port) in
    omega (arith, counted, less)

pub invariant_of-self-clause-counted : goal.invariant_of-self-clause-counted
invariant_of-self-clause-counted c =
    let s = c.args.self.now in
    let last = c.requires.last in
    let within = s.within in
    let counted = s.counted in
    let less = count_end (λ (z : MemPort). unknown_but z.finished) (unknown_but None) s.ports.items c.args.link c.requires.first (omega (arith, last, within)) s.opened s.nexts c.end.new.self last (sym (finished_same port_of no_port refl s.ports.items c.args.link) ∙ c.requires.unfinished) (ap (λ (p : Port). p.finished) c.end.ensures.port) in
    omega (arith, counted, less)

pub invariant_of-self-clause-within : goal.invariant_of-self-clause-within
invariant_of-self-clause-within c =
    let s = c.args.self.now in
    let within = s.within in
    let same = length-set s.ports.items (c.args.link - 1) c.end.new.self in
    omega (arith, within, same)

pub invariant_of-self-clause-unused : goal.invariant_of-self-clause-unused
invariant_of-self-clause-unused c =
    let s = c.args.self.now in
    let first = c.requires.first in
    let last = c.requires.last in
    subst (λ (ps : List MemPort). All (λ (p : MemPort). (p.at ≡ 0) × (p.given.items ≡ [])) ps) (sym (drop-set-lt s.opened s.ports.items (c.args.link - 1) c.end.new.self (omega (arith, first, last)))) s.unused
