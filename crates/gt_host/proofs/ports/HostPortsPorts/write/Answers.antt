use Rattle.std.proofs.Common.{◌-◌, sym, ap, ◌∙◌, length}
use Rattle.gt_io.specs.Ports.{Port, Harbour, WritesPort}
use Rattle.gt_io.proofs.PortLists.{writes_port}
use Rattle.gt_host.specs.HostPorts.{host_port, no_host_port, host_harbour}
use Rattle.gt_host.proofs.HostLists.{count_set, resized}
use Rattle.gt_host.proofs.ports.HostPortsPorts.write.Goals as goal

pub invariant_of-self-clause-counted : goal.invariant_of-self-clause-counted
invariant_of-self-clause-counted g c =
    let s = c.args.self.now in
    s.counted ∙ sym (count_set s.ports.items c.args.link c.index_mut.result.now c.write-answer.new.self c.requires.open.first c.requires.open.last c.index_mut.ensures.value (ap (λ (p : Port). p.finished) c.write-answer.ensures.port.rest))

pub returns : goal.returns
returns g c =
    let s = c.args.self.now in
    resized (λ (h : Harbour). WritesPort (host_harbour s.told s.nexts s.ports.items s.faults s.ends) h c.args.link c.args.piece.now c.write-answer.result) s.told s.nexts c.count_fault-self.result s.ends s.ports.items (c.args.link - 1) c.write-answer.new.self
    (writes_port host_port no_host_port s.told s.nexts (length s.ports.items) s.faults c.count_fault-self.result s.ends s.ports.items c.args.link c.index_mut.result.now c.write-answer.new.self c.args.piece.now c.write-answer.result
    c.requires.open.first c.requires.open.last c.index_mut.ensures.value c.write-answer.ensures.bound c.write-answer.ensures.port c.count_fault-self.ensures)
