use Rattle.std.proofs.Common.{◌-◌, ap, refl, sym, arith, Ok, Err}
use Rattle.gt_io.specs.Ports.{Port, is_over}
use Rattle.poll_front.specs.declared.ends.PollEnd.TheVariants.{Ended, ReadFault}
use Rattle.poll_front.specs.declared.states.LinkState.{LinkState}
use Rattle.poll_front.specs.declared.states.Yield.TheVariants.{Later, End}
use Rattle.poll_front.proofs.Calls.{fills_up}
use Rattle.poll_front.proofs.Standing.{waits_none}
use Rattle.poll_front.proofs.bytes.fill.Goals as goal

pub returns-in-Ok-Bytes-clause-fills : goal.returns-in-Ok-Bytes-clause-fills
returns-in-Ok-Bytes-clause-fills g c =
    let r = rw c.in-Ok-Bytes.field-0-is at c.in-Ok-Bytes.ensures.reads in
    let s : LinkState = c.args.state.now in
    let n = c.in-Ok-Bytes.n in
    let few = c.in-Ok-Bytes.ensures.few n (ap Ok c.in-Ok-Bytes.field-0-is) in
    let high = r.bound.1 in
    fills_up s (record s { chunk = c.read_some.new.buf; from = 0; upto = n; left = s.left - n }) (Ok tt) r (ap (λ (q : Port). is_over q.last) r.port.rest) (λ is. absurd cc) refl (n, r.bound.0, few, omega (arith, high), refl)

pub returns-in-Ok-Finished-clause-fills : goal.returns-in-Ok-Finished-clause-fills
returns-in-Ok-Finished-clause-fills g c =
    let r = rw c.in-Ok-Finished.field-0-is at c.in-Ok-Finished.ensures.reads in
    let s : LinkState = c.args.state.now in
    let s' : LinkState = record s { chunk = c.read_some.new.buf } in
    fills_up s s' (Err (End Ended)) r tt (λ is. absurd cc) (sym (waits_none s' c.requires.none)) (refl, ap (λ (q : Port). q.last) r.port.rest, r.port.end refl)

pub returns-in-Ok-NotYet-clause-fills : goal.returns-in-Ok-NotYet-clause-fills
returns-in-Ok-NotYet-clause-fills g c =
    let r = rw c.in-Ok-NotYet.field-0-is at c.in-Ok-NotYet.ensures.reads in
    let s : LinkState = c.args.state.now in
    let s' : LinkState = record s { chunk = c.read_some.new.buf } in
    fills_up s s' (Err Later) r tt (λ is. ap (λ (q : Port). q.owed) r.port.rest) (sym (waits_none s' c.requires.none)) (refl, ap (λ (q : Port). is_over q.last) r.port.rest)

pub returns-in-Err-clause-fills : goal.returns-in-Err-clause-fills
returns-in-Err-clause-fills g c =
    let r = c.in-Err.ensures.reads in
    let s : LinkState = c.args.state.now in
    let s' : LinkState = record s { chunk = c.read_some.new.buf } in
    fills_up s s' (Err (End ReadFault)) r tt (λ is. absurd cc) (sym (waits_none s' c.requires.none)) (refl, (_, ap (λ (q : Port). q.last) r.port.rest))
