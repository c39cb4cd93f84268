use Rattle.std.proofs.Common.{List, length, subst}
use Rattle.std.specs.Prelude.{IfOk, IfSome}
use Rattle.gt_host.specs.declared.port.HostPort.{HostPort}
use Rattle.gt_host.specs.Lookouts.{FitsTask, MayOpen}
use Rattle.gt_host.proofs.FoundLinks.{step_fits}
use Rattle.gt_host.proofs.ports.HostPorts.step.Goals as goal

pub returns-clause-fits : goal.returns-clause-fits
returns-clause-fits g c =
    let s = c.is_free-free.new.self in
    subst (λ (xs : List HostPort). IfOk c.step.result (λ o. IfSome o (FitsTask (MayOpen (length s.ports.items) s.busy s.ports.cap) (length xs)))) c.deref.ensures.value
    (step_fits c.is_free-free.ensures.free (length c.deref.result.now) c.step.result c.step.ensures)
