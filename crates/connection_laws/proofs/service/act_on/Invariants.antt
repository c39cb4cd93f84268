use Rattle.std.proofs.Common.{Ok}
use Rattle.connection_laws.specs.Attending.{spot, StaysReady}
use Rattle.connection_laws.proofs.LineDoneBy.{Tells}
use Rattle.connection_laws.proofs.service.act_on.Given as goal

abbrev pub invariant-loop-line : goal.invariant-loop-line
invariant-loop-line g l =
    let v = g.A.Answerer in
    let t = g.L.Link in
    let a = t.traffic l.fn.link in
    let b = t.traffic l.link in
    record {
      tells : Tells (v.named l.fn.answerer) v.asks v.wears (spot (v.rested l.fn.answerer) l.fn.talk a.given) (spot (v.rested l.answerer) l.talk b.given) l.said l.line-index;
      stays : StaysReady v.ready v.named l.fn.answerer l.answerer l.fn.talk l.talk l.fn.room l.room a b l.line-index {T = Unit {0}} (Ok tt);
    }
