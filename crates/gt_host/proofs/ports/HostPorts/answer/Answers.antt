use Rattle.std.proofs.Common.{ℕ, sym, ap, subst, Ok, Err, length}
use Rattle.gt_io.specs.Causes.{FailsOnce}
use Rattle.gt_io.specs.declared.port.PortEvent.{PortEvent}
use Rattle.gt_io.specs.Ports.{Harbour, Happens}
use Rattle.gt_io.specs.declared.port.PortEvent.TheVariants.{Stop}
use Rattle.gt_io.proofs.PortLists.{happens_stop, happens_fault}
use Rattle.gt_host.specs.HostPorts.{host_port, no_host_port, host_harbour}
use Rattle.gt_host.proofs.ports.HostPorts.answer.Goals as goal

pub returns-in-Ok-Stop-clause-happens : goal.returns-in-Ok-Stop-clause-happens
returns-in-Ok-Stop-clause-happens g c =
    let s = c.args.self.now in
    subst (λ (h : Harbour). Happens (host_harbour s.told s.nexts s.ports.items s.faults s.ends) h (Ok Stop)) (sym c.found.ensures.same)
    (happens_stop host_port no_host_port s.told s.nexts (length s.ports.items) s.faults s.ends s.ports.items)

pub returns-in-Err-clause-happens : goal.returns-in-Err-clause-happens
returns-in-Err-clause-happens g c =
    let s = c.args.self.now in
    let same = c.found.ensures.same in
    let cause = subst (λ (n : ℕ). FailsOnce {T = PortEvent} n c.count_fault-self.result (Err (record {}))) (ap (λ (h : Harbour). h.faults) same) c.count_fault-self.ensures in
    subst (λ (h : Harbour). Happens (host_harbour s.told s.nexts s.ports.items s.faults s.ends) h (Err (record {}))) (sym (ap (λ (h : Harbour). record h { faults = c.count_fault-self.result }) same))
    (happens_fault host_port no_host_port s.told s.nexts (length s.ports.items) s.faults c.count_fault-self.result s.ends s.ports.items (record {}) cause)
