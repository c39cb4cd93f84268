use Rattle.std.proofs.Common.{◌≡◌, ◌∙◌, ◌-◌, List, [], length, sym, ap, subst, refl, arith}
use Rattle.connection_laws.specs.Services.{service_at}
use Rattle.std.proofs.lemmas.List.{length-set}
use Rattle.std.proofs.lemmas.Option.{slice_get_within}
use Rattle.poll_front.specs.declared.seats.LinkRow.{LinkRow}
use Rattle.poll_front.specs.Fronts.{FrontSpot}
use Rattle.poll_front.specs.Tables.{first_spot, MayGoOn, faults_told}
use Rattle.poll_front.proofs.Serving.{are_finished}
use Rattle.poll_front.proofs.Tabling.{tabled_none}
use Rattle.poll_front.proofs.Looping.{tabled_told, opened_next, tabled_ready, ready_served, kept_seats, served_next, unworn_ends, worn_next, over_unworn, still_unworn, some_busy}
use Rattle.poll_front.proofs.front.serve_all.Goals as goal

pub loop-init : goal.loop-init
loop-init g c =
    let m = g.M.Machine in
    let sv = c.args.server.now in
    let start = g.P.Ports.harbour c.args.ports.now in
    let o : FrontSpot g.row.M.Denot = first_spot c.args.pass.now (g.C.Clock.readings c.args.clock.now) in
    let empty = c.requires.none in
    let none = ap (λ (l : List LinkRow). length l) empty in
    let opened = c.requires.ports.1 in
    record {
      held = record {
        turns = [];
        tabled = tabled_none (service_at g.M.Keeps.list m.legal m.now_of sv.desk.now sv.policy.now) o start c.args.seats.now.items opened empty;
        unworn = λ i s at. let within = slice_get_within c.args.seats.now.items i s at in absurd (omega (arith, within, none));
        unowed = λ j q. let last = q.last in let one = q.first in absurd (omega (arith, last, one, opened));
        sound = subst MayGoOn (sym c.requires.ports.0) tt;
        low = omega arith;
      };
      few = omega (arith, none);
      ready = ((c.requires.ready.idle, refl), tt);
      room = c.requires.room;
    }

pub next-requires-in-loop-clause-finished : goal.next-requires-in-loop-clause-finished
next-requires-in-loop-clause-finished g c = are_finished c.loop.invariant.held.tabled

pub next-requires-in-loop-clause-unowed : goal.next-requires-in-loop-clause-unowed
next-requires-in-loop-clause-unowed g c = c.loop.invariant.held.unowed

pub returns-then-len-eq-MAX_LINKS-clause-went : goal.returns-then-len-eq-MAX_LINKS-clause-went
returns-then-len-eq-MAX_LINKS-clause-went g c =
    let h = g.P.Ports.harbour in
    let n = rw c.in-Ok-Opened.field-0-is at c.in-Ok-Opened.ensures in
    let t = opened_next c.loop.invariant.held n (h c.seat_next.new.ports) c.seat_next.new.seats.items c.seat_next.new.busy c.seat_next.ensures.full (λ few. let q = c.seat_next.ensures.seated few in (ap h q.0, q.1, q.2)) in
    let count = c.len.ensures in
    let ok = c.seat_next.new.seats.ok.0 in
    let all = c.if-len-eq-MAX_LINKS.true in
    let opened = t.0.tabled.opened in
    record { counters = c.loop.counters; busy = c.seat_next.new.busy; turns = t.0.turns; tabled = t.0.tabled; runs = ((c.in-Ok-Opened.link, t.2), omega (arith, all, count, ok, opened), unworn_ends c.seat_next.new.seats.items t.0.unworn) }

pub loop-preserved-else-len-eq-MAX_LINKS : goal.loop-preserved-else-len-eq-MAX_LINKS
loop-preserved-else-len-eq-MAX_LINKS g c =
    let inv = c.loop.invariant in
    let h = g.P.Ports.harbour in
    let n = rw c.in-Ok-Opened.field-0-is at c.in-Ok-Opened.ensures in
    let t = opened_next inv.held n (h c.seat_next.new.ports) c.seat_next.new.seats.items c.seat_next.new.busy c.seat_next.ensures.full (λ few. let q = c.seat_next.ensures.seated few in (ap h q.0, q.1, q.2)) in
    let count = c.len.ensures in
    let ok = c.seat_next.new.seats.ok.0 in
    let all = c.if-len-eq-MAX_LINKS.false in
    let long = t.1 in
    let few = inv.few in
    let same = c.seat_next.ensures.room in
    let room = inv.room in
    record { held = t.0; few = omega (arith, all, count, ok, long, few); ready = inv.ready; room = omega (arith, same, room) }

pub serve_seat-requires-clause-seat : goal.serve_seat-requires-clause-seat
serve_seat-requires-clause-seat g c =
    let inv = c.loop.invariant in
    let n = rw c.in-Ok-Ready.field-0-is at c.in-Ok-Ready.ensures in
    ready_served inv.held n c.index_mut-seat.ensures.value c.fill_seat.new.seat c.in_default.ensures.taken refl inv.few

pub overflow_sub-busy : goal.overflow_sub-busy
overflow_sub-busy g c =
    let n = rw c.in-Ok-Ready.field-0-is at c.in-Ok-Ready.ensures in
    some_busy c.loop.invariant.held n c.index_mut-seat.ensures.value c.in_default.ensures.taken c.in-Some-serve_seat.ensures.served c.in-Some-serve_seat.end refl

pub returns-then-is_worn-clause-went : goal.returns-then-is_worn-clause-went
returns-then-is_worn-clause-went g c =
    let n = rw c.in-Ok-Ready.field-0-is at c.in-Ok-Ready.ensures in
    let w = worn_next c.loop.invariant.held n c.index_mut-seat.ensures.value c.in_default.ensures.taken c.in-Some-serve_seat.ensures.served c.in-Some-serve_seat.end refl (sym c.is_worn.ensures ∙ c.if-is_worn.true) in
    record { counters = c.serve_seat.new.counters; busy = c.loop.busy - 1; turns = _; tabled = w.0; runs = w.1 }

pub loop-preserved-else-is_worn : goal.loop-preserved-else-is_worn
loop-preserved-else-is_worn g c =
    let inv = c.loop.invariant in
    let n = rw c.in-Ok-Ready.field-0-is at c.in-Ok-Ready.ensures in
    let value = c.index_mut-seat.ensures.value in
    let taken = c.in_default.ensures.taken in
    let end = c.in-Some-serve_seat.end in
    let e = c.in-Some-serve_seat.ensures in
    let some = some_busy inv.held n value taken e.served end refl in
    let calm = over_unworn inv.held n value taken e.served end refl (sym c.is_worn.ensures ∙ c.if-is_worn.false) in
    let few = inv.few in
    record {
      held = served_next inv.held n value taken e.served (c.loop.busy - 1) (omega (arith, some)) (omega arith) calm;
      few = omega (arith, few, length-set c.loop.seats.items (c.in-Ok-Ready.link - 1) c.serve_seat.new.seat);
      ready = ((e.ready.0.0, e.ready.0.1 ∙ inv.ready.0.1), e.ready.1);
      room = inv.room;
    }

pub loop-preserved : goal.loop-preserved
loop-preserved g c =
    let inv = c.loop.invariant in
    let n = rw c.in-Ok-Ready.field-0-is at c.in-Ok-Ready.ensures in
    let value = c.index_mut-seat.ensures.value in
    let taken = c.in_default.ensures.taken in
    let e = c.in_default-serve_seat.ensures in
    let few = inv.few in
    record {
      held = served_next inv.held n value taken e.served c.loop.busy refl (omega arith) (still_unworn inv.held n value taken e.served refl);
      few = omega (arith, few, length-set c.loop.seats.items (c.in-Ok-Ready.link - 1) c.serve_seat.new.seat);
      ready = ((e.ready.0.0, e.ready.0.1 ∙ inv.ready.0.1), e.ready.1);
      room = inv.room;
    }

pub returns-in-Ok-Stop-clause-went : goal.returns-in-Ok-Stop-clause-went
returns-in-Ok-Stop-clause-went g c =
    let inv = c.loop.invariant in
    let n = rw c.in-Ok-Stop.field-0-is at c.in-Ok-Stop.ensures in
    let kept = n.happens.cause.kept in
    let opened = n.happens.opened in
    let seats = inv.held.tabled.opened in
    let few = inv.few in
    record { counters = c.loop.counters; busy = c.loop.busy; turns = inv.held.turns; tabled = tabled_told inv.held n.happens opened (omega (arith, kept)) n.happens.ports; runs = (n.told, omega (arith, opened, seats, few), unworn_ends c.loop.seats.items inv.held.unworn) }

pub returns-in-Err-clause-went : goal.returns-in-Err-clause-went
returns-in-Err-clause-went g c =
    let inv = c.loop.invariant in
    let n = c.in-Err.ensures in
    let once = n.happens.cause.once in
    let one : faults_told (g.P.Ports.harbour c.next-in-loop.new.self).told ≡ 1 = ap faults_told n.told in
    let later = inv.held.tabled.later in
    let opened = n.happens.opened in
    let seats = inv.held.tabled.opened in
    let few = inv.few in
    record {
      counters = c.loop.counters;
      busy = c.loop.busy;
      turns = inv.held.turns;
      tabled = tabled_told inv.held n.happens opened (omega (arith, once, one)) n.happens.ports;
      runs = ((_, n.told), omega (arith, once, later), omega (arith, opened, seats, few), unworn_ends c.loop.seats.items inv.held.unworn);
    }

pub returns-in-Err-fill_seat-clause-went : goal.returns-in-Err-fill_seat-clause-went
returns-in-Err-fill_seat-clause-went g c =
    let inv = c.loop.invariant in
    let n = rw c.in-Ok-Ready.field-0-is at c.in-Ok-Ready.ensures in
    let opened = n.happens.opened in
    let seats = inv.held.tabled.opened in
    let few = inv.few in
    rw (kept_seats inv.held n c.index_mut-seat.ensures.value c.fill_seat.new.seat c.in-Err-fill_seat.ensures.same)
    (record { counters = c.loop.counters; busy = c.loop.busy; turns = inv.held.turns; tabled = tabled_ready inv.held n; runs = (subst MayGoOn (sym n.told) tt, omega (arith, opened, seats, few), unworn_ends c.loop.seats.items inv.held.unworn) })
