use Rattle.std.proofs.Common.{◌≡◌, ◌+◌, ℕ, List, length}
use Rattle.std.specs.Io.KnownBytes.{Appends, Consumes}
use Rattle.connection_laws.specs.Desks.{IsNamedActor}
use Rattle.connection_laws.specs.Lines.{Acted}
use Rattle.connection_laws.specs.Acting.{CountsUp}
use Rattle.connection_laws.specs.Attending.{spot, HasReplied}
use Rattle.connection_laws.proofs.service.take_all.Given as goal

abbrev pub invariant-loop-left : goal.invariant-loop-left
invariant-loop-left g l =
    let v = g.A.Answerer in
    let np = v.named l.fn.answerer in
    let t = g.L.Link in
    let a = t.traffic l.fn.link in
    let b = t.traffic l.link in
    record {
      fed : List ℕ;
      acted : List Acted;
      serving : HasReplied np v.asks (spot (v.rested l.fn.answerer) l.fn.hearing.talk a.given) (spot (v.rested l.answerer) l.hearing.talk b.given) l.hearing.framer fed acted;
      taken : Appends a.taken b.taken fed;
      consumed : Consumes a.left b.left fed;
      counted : length fed + l.left ≡ 67_108_864;
      ready : v.ready l.answerer;
      named : v.named l.answerer ≡ np;
      actor : IsNamedActor np l.hearing.talk.actor;
      counts : CountsUp l.fn.hearing.talk l.hearing.talk (length fed);
      reads : b.read_faults ≡ a.read_faults;
      writes : b.write_faults ≡ a.write_faults;
      ends : b.ends ≡ a.ends;
      held : b.finished ≡ a.finished;
      rests : v.rested l.fn.answerer ≡ l.fn.answerer → v.rested l.answerer ≡ l.answerer;
    }

abbrev pub decreases-loop-left : goal.decreases-loop-left
decreases-loop-left g l = l.left
