use Rattle.std.proofs.Common.{◌-◌, sym, ap, ◌∙◌, length}
use Rattle.gt_io.specs.Ports.{Port, Harbour, ReadsPort}
use Rattle.gt_io.proofs.PortLists.{reads_port}
use Rattle.gt_host.specs.HostPorts.{host_port, no_host_port, host_harbour}
use Rattle.gt_host.proofs.HostLists.{count_set, resized}
use Rattle.gt_host.proofs.ports.HostPortsPorts.read.Goals as goal

pub invariant_of-self-clause-counted : goal.invariant_of-self-clause-counted
invariant_of-self-clause-counted g c =
    let s = c.args.self.now in
    s.counted ∙ sym (count_set s.ports.items c.args.link c.index_mut.result.now c.read-answer.new.self c.requires.open.first c.requires.open.last c.index_mut.ensures.value (ap (λ (p : Port). p.finished) c.read-answer.ensures.port.rest))

pub returns : goal.returns
returns g c =
    let s = c.args.self.now in
    resized (λ (h : Harbour). ReadsPort (host_harbour s.told s.nexts s.ports.items s.faults s.ends) h c.args.link c.read-answer.new.buf c.read-answer.result) s.told s.nexts c.count_fault-self.result c.count_finished-self.result s.ports.items (c.args.link - 1) c.read-answer.new.self
    (reads_port host_port no_host_port s.told s.nexts (length s.ports.items) s.faults c.count_fault-self.result s.ends c.count_finished-self.result s.ports.items c.args.link c.index_mut.result.now c.read-answer.new.self c.read-answer.new.buf c.read-answer.result
    c.requires.open.first c.requires.open.last c.index_mut.ensures.value c.read-answer.ensures.bound c.read-answer.ensures.port c.count_fault-self.ensures c.count_finished-self.ensures)
