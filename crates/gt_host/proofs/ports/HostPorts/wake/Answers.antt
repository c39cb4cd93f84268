use Rattle.std.proofs.Common.{◌-◌, sym, ap, ◌∙◌, length, Ok}
use Rattle.gt_io.specs.declared.port.PortEvent.TheVariants.{Ready}
use Rattle.gt_io.specs.Ports.{Port, Harbour, Happens}
use Rattle.gt_io.proofs.PortLists.{happens_ready}
use Rattle.gt_host.specs.HostPorts.{host_port, no_host_port, host_harbour}
use Rattle.gt_host.proofs.HostLists.{count_set, resized}
use Rattle.gt_host.proofs.ports.HostPorts.wake.Goals as goal

pub invariant_of-self-clause-counted : goal.invariant_of-self-clause-counted
invariant_of-self-clause-counted g c =
    let s = c.args.self.now in
    s.counted ∙ sym (count_set s.ports.items c.args.link c.index_mut.result.now c.wake.new.self c.requires.known.0 c.requires.known.1 c.index_mut.ensures.value (ap (λ (p : Port). p.finished) c.wake.ensures))

pub returns-clause-happens : goal.returns-clause-happens
returns-clause-happens g c =
    let s = c.args.self.now in
    resized (λ (h : Harbour). Happens (host_harbour s.told s.nexts s.ports.items s.faults s.ends) h (Ok (Ready c.args.link))) s.told s.nexts s.faults s.ends s.ports.items (c.args.link - 1) c.wake.new.self
    (happens_ready host_port no_host_port s.told s.nexts (length s.ports.items) s.faults s.ends c.args.link s.ports.items c.index_mut.result.now c.wake.new.self c.requires.known.0 c.requires.known.1 c.requires.known.1 c.index_mut.ensures.value c.wake.ensures)
