use Rattle.std.proofs.Common.{◌≡◌, sym, ap, ◌∙◌, arith}
use Rattle.gt_io.specs.MemoryPorts.{Wire}
use Rattle.gt_io.proofs.Plans.{wire_at}
use Rattle.gt_io.proofs.memory_ports.MemPorts.given.Goals as goal

pub returns-clause-given : goal.returns-clause-given
returns-clause-given c =
    let xs = c.args.self.now.ports.items in
    let k = c.args.link in
    let x = c.index.result.now in
    let some = c.if-link-eq0.false in
    let low = c.if-link-len.false in
    let len = c.len.ensures in
    let text : c.given.result.now ≡ x.given.items = cc (c.given.ensures) in
    text ∙ ap (λ (w : Wire). w.given) (sym (wire_at xs k x (omega (arith, some)) (omega (arith, low, len)) c.index.ensures))
