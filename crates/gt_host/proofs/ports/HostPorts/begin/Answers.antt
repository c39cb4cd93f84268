use Rattle.std.proofs.Common.{◌≡◌, ap, refl, length, arith, List, Some, None, false}
use Rattle.gt_io.specs.declared.port.Called.TheVariants.{Nothing}
use Rattle.gt_io.specs.Ports.{open_among}
use Rattle.gt_host.specs.declared.port.HostPort.{HostPort}
use Rattle.gt_host.specs.HostPorts.{host_port_in}
use Rattle.gt_io.proofs.Counting.{count_most}
use Rattle.gt_host.proofs.HostLists.{count_push, opens}
use Rattle.gt_host.proofs.ports.HostPorts.begin.Goals as goal

pub invariant_of-self-clause-counted : goal.invariant_of-self-clause-counted
invariant_of-self-clause-counted g c =
    let s = c.args.self.now in
    let xs = s.ports.items in
    let y : HostPort = record { conn = Some c.args.conn; last = Nothing; owed = false; others = s.busy; finished = None } in
    let most = count_most (host_port_in xs) (length xs) in
    let few = c.requires.free.0 in
    let counted = s.counted in
    let more = c.saturating_add-self.ensures in
    let push = count_push xs y refl in
    let e = ap (λ (ys : List HostPort). open_among (host_port_in ys) (length ys)) c.push_reserved.ensures.items in
    omega (arith, most, few, counted, more, push, e)

pub returns-clause-happens : goal.returns-clause-happens
returns-clause-happens g c =
    let s = c.args.self.now in
    let y : HostPort = record { conn = Some c.args.conn; last = Nothing; owed = false; others = s.busy; finished = None } in
    let len = c.len.ensures in
    let same : c.len.result ≡ length c.push_reserved.new.self.items = omega (arith, len) in
    opens s.told s.nexts s.faults s.ends s.busy c.len.result s.ports.items c.push_reserved.new.self.items y c.push_reserved.ensures.items same s.counted refl
