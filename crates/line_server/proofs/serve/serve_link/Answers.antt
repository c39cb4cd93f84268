use Rattle.locked_history.specs.Fronts.{by}
use Rattle.line_server.proofs.Ends.{reported}
use Rattle.line_server.proofs.serve.serve_link.Goals as goal

pub returns-clause-serves : goal.returns-clause-serves
returns-clause-serves g c =
    let m = g.M.Machine in
    let k = g.C.Clock in
    let t = g.L.Link in
    let root = c.args.desk.now.root in
    let x = reported {M = g.row.M.Denot} c.args.policy.now (g.M.Keeps.list root) (m.legal root) (m.now_of root) (by c.args.pass.now.number c.args.conn) c.args.pass.now c.attend_at-outcome.new.pass
    c.new-hearing.result.talk c.attend_at-outcome.new.hearing.talk (k.readings c.args.clock.now) (k.readings c.attend_at-outcome.new.clock)
    (t.traffic c.args.link.now) (t.traffic c.attend_at-outcome.new.link) c.attend_at-outcome.result
    c.attend_at-outcome.ensures.attends c.attend_at-outcome.ensures.finished in
    rw c.new-hearing.ensures.calls at x
