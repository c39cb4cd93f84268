use Rattle.std.proofs.Common.{◌≡◌, ◌+◌, ℕ, List, length, sym, subst, arith}
use Rattle.poll_front.specs.declared.ends.Polled.{Polled}
use Rattle.poll_front.specs.Tables.{LetsGo}
use Rattle.poll_front.proofs.Ending.{lets_none, lets_next, open_next}
use Rattle.poll_front.proofs.front.let_go.Goals as goal

pub loop-i-init : goal.loop-i-init
loop-i-init g c =
    let room = c.requires.room in
    record { lets = lets_none (g.P.Ports.harbour c.args.ports.now) c.args.seats.now c.args.ends.now.items c.requires.none; behind = c.requires.open; room = omega (arith, room) }

pub loop-i-preserved : goal.loop-i-preserved
loop-i-preserved g c =
    let inv = c.loop-i.invariant in
    let h = g.P.Ports.harbour in
    let a = h c.args.ports.now in
    let b = h c.loop-i.ports in
    let d = h c.end_of-polled.new.ports in
    let low = c.loop-i-test.true in
    let room = inv.room in
    let spare = c.push.ensures.spare in
    let seats = c.args.seats.now in
    let next = lets_next a b d seats c.loop-i.ends.items c.loop-i.i c.index-seats-i.result c.end_of-polled.result inv.lets (omega (arith, low)) c.index-seats-i.is c.end_of-polled.ensures in
    record {
      lets = subst (λ (l : List Polled). LetsGo a d seats (c.loop-i.i + 1) l) (sym c.push.ensures.items) next;
      behind = open_next b d seats c.loop-i.i inv.behind c.end_of-polled.ensures.rest;
      room = omega (arith, room, spare);
    }

pub returns : goal.returns
returns g c =
    let h = g.P.Ports.harbour in
    let done = c.loop-i-test.false in
    let end = c.loop-i.auto.i-end in
    let all : c.loop-i.i ≡ length c.args.seats.now = omega (arith, done, end) in
    subst (λ (n : ℕ). LetsGo (h c.args.ports.now) (h c.loop-i.ports) c.args.seats.now n c.loop-i.ends.items) all c.loop-i.invariant.lets
