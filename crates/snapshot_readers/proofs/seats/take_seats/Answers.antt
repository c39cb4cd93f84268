use Rattle.std.proofs.Common.{◌≡◌, ◌≤◌, ◌++◌, ◌∷◌, [], List, length, reverse, refl, ap, ◌∙◌, arith, append-nil}
use Rattle.snapshot_readers.specs.declared.seats.ViewerSeat.{ViewerSeat}
use Rattle.snapshot_readers.specs.Seats.{glasses_of, viewers_of}
use Rattle.snapshot_readers.proofs.Moving.{moved_on, one_longer, all_pushed}
use Rattle.snapshot_readers.proofs.seats.take_seats.Goals as goal

pub loop-glass-init : goal.loop-glass-init
loop-glass-init g c =
    let none = ap (λ (l : List (ViewerSeat g.row.D.Denot g.row.G.Denot g.row.D-L.Denot)). length l) c.requires.empty in
    record {
      glasses = ap (λ (l : List (ViewerSeat g.row.D.Denot g.row.G.Denot g.row.D-L.Denot)). c.args.glasses.now.items ++ reverse (glasses_of l)) c.requires.empty ∙ append-nil c.args.glasses.now.items;
      viewers = ap (λ (l : List (ViewerSeat g.row.D.Denot g.row.G.Denot g.row.D-L.Denot)). c.args.viewers.now.items ++ reverse (viewers_of l)) c.requires.empty ∙ append-nil c.args.viewers.now.items;
      pairs = c.requires.pairs;
      few = c.requires.few;
      room = omega (arith, none, c.args.seats.now.ok.0, c.requires.room);
      kept = refl;
      numbers = λ k d low. absurd (omega (arith, low, none));
    }

pub loop-glass-preserved : goal.loop-glass-preserved
loop-glass-preserved g c =
    let inv = c.loop-glass.invariant in
    let took : c.loop-glass.glasses.items ≡ c.take.new.self.items ++ c.in-Some.glass ∷ [] = c.in-Some.ensures.last in
    let popped : c.loop-glass.viewers.items ≡ c.pop-last.new.self.items ++ c.in-Some-last.viewer ∷ [] = c.in-Some-last.ensures.items in
    let glasses = one_longer c.take.new.self.items c.loop-glass.glasses.items c.in-Some.glass took in
    let viewers = one_longer c.pop-last.new.self.items c.loop-glass.viewers.items c.in-Some-last.viewer popped in
    let seats = one_longer c.loop-glass.seats.items c.push_reserved.new.self.items _ c.push_reserved.ensures.items in
    let were = c.loop-glass.seats.ok.0 in
    let are = c.push_reserved.new.self.ok.0 in
    let left = c.pop-last.new.self.ok.0 in
    record {
      glasses = moved_on (λ s. s.glass) c.loop-glass.glasses.items c.take.new.self.items c.loop-glass.seats.items c.push_reserved.new.self.items _ took c.push_reserved.ensures.items ∙ inv.glasses;
      viewers = moved_on (λ s. s.viewer) c.loop-glass.viewers.items c.pop-last.new.self.items c.loop-glass.seats.items c.push_reserved.new.self.items _ popped c.push_reserved.ensures.items ∙ inv.viewers;
      pairs = omega (arith, glasses, viewers, inv.pairs);
      few = omega (arith, viewers, inv.few);
      room = omega (arith, viewers, seats, were, are, c.push_reserved.ensures.capacity, inv.room);
      kept = c.pop-last.ensures.capacity ∙ inv.kept;
      numbers =
          all_pushed (λ (s : ViewerSeat g.row.D.Denot g.row.G.Denot g.row.D-L.Denot). s.number ≤ 7) c.loop-glass.seats.items c.push_reserved.new.self.items _ c.push_reserved.ensures.items inv.numbers
          (omega (arith, viewers, inv.few, left, c.len-number.ensures));
    }
