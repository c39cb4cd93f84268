use Rattle.connection_laws.specs.Attending.{spot}
use Rattle.connection_laws.proofs.EndsBy.{attends_kept}
use Rattle.connection_laws.proofs.Stepping.{steps_keep}
use Rattle.connection_laws.proofs.service.attend.Goals as goal

pub returns-clause-attends : goal.returns-clause-attends
returns-clause-attends g c =
    let v = g.A.Answerer in
    let t = g.L.Link in
    attends_kept (v.named c.args.answerer.now) v.asks v.wears (spot (v.rested c.args.answerer.now) c.args.hearing.now.talk (t.traffic c.args.link.now).given) (v.rested c.take_all-end.new.answerer) c.take_all-end.new.hearing.talk
    (t.traffic c.args.link.now) (t.traffic c.take_all-end.new.link) (t.traffic c.finish.new.self) c.take_all-end.result c.finish.ensures.reads c.finish.ensures.writes c.take_all-end.ensures.attends

pub returns-clause-keeps : goal.returns-clause-keeps
returns-clause-keeps g c =
    let v = g.A.Answerer in
    let x = c.take_all-end.ensures.attends in
    v.rested_keep c.args.answerer.now c.take_all-end.new.answerer
    (steps_keep v.keeps v.keeps_refl v.keeps_trans (v.named c.args.answerer.now) v.asks v.asks_keep (v.rested c.args.answerer.now) (v.rested c.take_all-end.new.answerer) x.acted x.going.steps)
