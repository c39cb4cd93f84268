use Rattle.std.proofs.Common.{◌+◌, ◌<◌, length, drop, sym, arith}
use Rattle.gt_io.specs.declared.memory_ports.MemEvent.TheVariants.{Open, Ready}
use Rattle.gt_io.specs.MemoryPorts.{plan_of}
use Rattle.gt_io.proofs.Plans.{gives_event, left_from, at_place}
use Rattle.gt_io.proofs.memory_ports.MemPorts.answer.Goals as goal

pub returns-in-Open-clause-event : goal.returns-in-Open-clause-event
returns-in-Open-clause-event c =
    let s = c.args.self.now in
    let xs = s.events.items in
    let out = c.if-self-len.false in
    let len = c.len.ensures in
    let low : s.at < length xs = omega (arith, out, len) in
    gives_event (plan_of s) (plan_of c.open.new.self) c.args.made s.opened Open (drop (s.at + 1) xs) c.open.result (sym c.if-is_listed.ensures) (left_from xs s.at Open low (at_place _ xs s.at _ Open c.as_slice.ensures low c.in-Open.is)) c.open.ensures.answer c.open.ensures.plan

pub returns-in-Ready-clause-event : goal.returns-in-Ready-clause-event
returns-in-Ready-clause-event c =
    let s = c.args.self.now in
    let xs = s.events.items in
    let k = c.in-Ready.link in
    let out = c.if-self-len.false in
    let len = c.len.ensures in
    let low : s.at < length xs = omega (arith, out, len) in
    gives_event (plan_of s) (plan_of c.wake.new.self) c.args.made s.opened (Ready k) (drop (s.at + 1) xs) c.wake.result (sym c.if-is_listed.ensures) (left_from xs s.at (Ready k) low (at_place _ xs s.at _ (Ready k) c.as_slice.ensures low c.in-Ready.is)) c.wake.ensures.answer c.wake.ensures.plan
