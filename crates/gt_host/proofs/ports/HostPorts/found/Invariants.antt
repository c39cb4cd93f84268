use Rattle.std.proofs.Common.{◌≡◌}
use Rattle.gt_host.specs.HostPorts.{host_harbour}
use Rattle.gt_host.proofs.ports.HostPorts.found.Given as goal

abbrev pub invariant-loop : goal.invariant-loop
invariant-loop g l =
    let before = l.fn.self in
    let now = l.self in
    host_harbour now.told now.nexts now.ports.items now.faults now.ends ≡ host_harbour before.told before.nexts before.ports.items before.faults before.ends
