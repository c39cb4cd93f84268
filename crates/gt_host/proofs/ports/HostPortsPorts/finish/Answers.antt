use Rattle.std.proofs.Common.{◌-◌, ap, length, arith}
use Rattle.gt_io.specs.Ports.{Port, Harbour, Finishes}
use Rattle.gt_io.proofs.PortLists.{finishes_port}
use Rattle.gt_host.specs.HostPorts.{host_port, no_host_port, host_harbour}
use Rattle.gt_host.proofs.HostLists.{count_end, resized}
use Rattle.gt_host.proofs.ports.HostPortsPorts.finish.Goals as goal

pub invariant_of-self-clause-counted : goal.invariant_of-self-clause-counted
invariant_of-self-clause-counted g c =
    let s = c.args.self.now in
    let counted = s.counted in
    let less = c.saturating_sub-self.ensures in
    let end = count_end s.ports.items c.args.link s.nexts c.end.new.self c.requires.first c.requires.last c.requires.unfinished (ap (λ (p : Port). p.finished) c.end.ensures) in
    omega (arith, counted, less, end)

pub returns : goal.returns
returns g c =
    let s = c.args.self.now in
    resized (λ (h : Harbour). Finishes (host_harbour s.told s.nexts s.ports.items s.faults s.ends) h c.args.link) s.told s.nexts s.faults s.ends s.ports.items (c.args.link - 1) c.end.new.self
    (finishes_port host_port no_host_port s.told s.nexts (length s.ports.items) s.faults s.ends s.ports.items c.args.link c.index_mut.result.now c.end.new.self c.requires.first c.requires.last c.index_mut.ensures.value c.end.ensures)
