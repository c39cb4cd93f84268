use Rattle.std.proofs.Common.{◌≡◌, ◌≤◌, length, false, not, ℕ, Option, Some, None, ap, ◌∙◌, sym, refl, arith}
use Rattle.std.specs.Option.{is_some}
use Rattle.gt_io.specs.Ports.{Port}
use Rattle.gt_io.proofs.PortLists.{in_get}
use Rattle.gt_host.specs.declared.port.HostPort.{HostPort}
use Rattle.gt_host.specs.HostPorts.{host_port, no_host_port}
use Rattle.gt_host.proofs.tests.is_open.Goals as goal

none_of : (o : Option ℕ) → is_some o ≡ false → o ≡ None
none_of None e = refl
none_of (Some n) e = absurd cc

pub returns : goal.returns
returns g c =
    λ is.
    let xs = c.args.ports.now.ports.items in
    let x = c.index.result.now in
    let some = c.if-n-eq0.false in
    let low = c.if-n-len.false in
    let len = c.len.ensures in
    let first : 1 ≤ c.args.link = omega (arith, some) in
    let last : c.args.link ≤ length xs = omega (arith, low, len) in
    record {
      first = first;
      last = last;
      unfinished = ap (λ (p : Port). p.finished) (in_get host_port no_host_port xs c.args.link x first last) ∙ ap (λ (z : HostPort). z.finished) (sym c.index.ensures) ∙ none_of x.finished (c.is_none.ensures ∙ ap not is);
    }
