use Rattle.std.proofs.Common.{◌≡◌, ◌++◌, ◌∷◌, [], List, length, reverse, sym, ap, ◌∙◌, arith}
use Rattle.snapshot_readers.specs.declared.viewers.Viewer.{Viewer}
use Rattle.snapshot_readers.specs.Seats.{viewers_of}
use Rattle.snapshot_readers.proofs.Moving.{moved_on, one_longer}
use Rattle.snapshot_readers.proofs.seats.leave_seats.Goals as goal

pub loop-seat-init : goal.loop-seat-init
loop-seat-init g c =
    let none = ap (λ (l : List (Viewer g.row.D.Denot g.row.G.Denot g.row.D-L.Denot)). length l) c.requires.empty in
    record {
      viewers = ap (λ (l : List (Viewer g.row.D.Denot g.row.G.Denot g.row.D-L.Denot)). l ++ reverse (viewers_of c.args.seats.items)) c.requires.empty;
      room = omega (arith, none, c.args.viewers.now.ok.0, c.requires.room);
    }

pub loop-seat-preserved : goal.loop-seat-preserved
loop-seat-preserved g c =
    let inv = c.loop-seat.invariant in
    let popped : c.loop-seat.seats.items ≡ c.pop.new.self.items ++ c.in-Some.seat ∷ [] = c.in-Some.ensures.items in
    let seats = one_longer c.pop.new.self.items c.loop-seat.seats.items c.in-Some.seat popped in
    let viewers = one_longer c.loop-seat.viewers.items c.push_reserved.new.self.items _ c.push_reserved.ensures.items in
    let had = c.loop-seat.seats.ok.0 in
    let left = c.pop.new.self.ok.0 in
    let were = c.loop-seat.viewers.ok.0 in
    let are = c.push_reserved.new.self.ok.0 in
    record {
      viewers = sym (moved_on (λ s. s.viewer) c.push_reserved.new.self.items c.loop-seat.viewers.items c.pop.new.self.items c.loop-seat.seats.items c.in-Some.seat c.push_reserved.ensures.items popped) ∙ inv.viewers;
      room = omega (arith, seats, viewers, had, left, were, are, c.push_reserved.ensures.capacity, inv.room);
    }
