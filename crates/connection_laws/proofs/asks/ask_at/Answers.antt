use Rattle.std.proofs.Common.{◌∙◌, [], arith, ap, Err}
use Rattle.turn_lock.specs.Holders.{Holder}
use Rattle.connection_laws.proofs.Asking.{is_replied, is_refused}
use Rattle.connection_laws.proofs.Growing.{grown_none, grown_within, grown_refused}
use Rattle.connection_laws.proofs.asks.ask_at.Goals as goal

pub ask-requires-clause-pass : goal.ask-requires-clause-pass
ask-requires-clause-pass g c =
    let after_is = c.in_default.ensures.grows.after_is in
    (ap (λ (p : Holder g.row.M.Denot). p.site) after_is ∙ c.requires.idle.0, ap (λ (p : Holder g.row.M.Denot). p.turn) after_is ∙ c.requires.idle.1)

pub returns-in-Err-clause-asked : goal.returns-in-Err-clause-asked
returns-in-Err-clause-asked g c =
    let r = c.in-Err.ensures in
    let m = g.M.Machine in
    let p = c.reach.new.pass in
    is_refused (g.M.Keeps.list c.args.server.now.desk.now.root) (m.legal c.args.server.now.desk.now.root) (m.now_of c.args.server.now.desk.now.root) c.args.server.now.conn c.args.reading c.args.actor c.args.request
    c.args.pass.now p p r.ticks c.in-Err.fault r.each r.grows (grown_within p p [] 0 1 (omega arith) (grown_none p)) (λ is. r.full (ap Err is)) (λ n is. r.worn_out n (ap Err is))

pub returns-in-Ok-clause-asked : goal.returns-in-Ok-clause-asked
returns-in-Ok-clause-asked g c =
    let r = c.in_default.ensures in
    let a = c.in-Ok.ensures in
    let m = g.M.Machine in
    let t = is_replied (g.M.Keeps.list c.args.server.now.desk.now.root) (m.legal c.args.server.now.desk.now.root) (m.now_of c.args.server.now.desk.now.root) c.args.server.now.conn c.args.reading c.args.actor c.args.request
    c.args.pass.now c.reach.new.pass c.ask.new.pass r.ticks c.in-Ok.asked.reply c.in-Ok.asked.front a.last.0 r.each r.grows r.reached.0 r.reached.1 a.ok a.last.1 a.legal.0 in
    rw c.into_reply.ensures t

pub returns-in-Err-ask-clause-asked : goal.returns-in-Err-ask-clause-asked
returns-in-Err-ask-clause-asked g c =
    let r = c.in_default.ensures in
    let a = c.in-Err-ask.ensures in
    let m = g.M.Machine in
    is_refused (g.M.Keeps.list c.args.server.now.desk.now.root) (m.legal c.args.server.now.desk.now.root) (m.now_of c.args.server.now.desk.now.root) c.args.server.now.conn c.args.reading c.args.actor c.args.request
    c.args.pass.now c.reach.new.pass c.ask.new.pass r.ticks c.in-Err-ask.fault r.each r.grows (grown_refused c.reach.new.pass c.ask.new.pass a.refused)
    (λ is. let f = a.full (ap Err is) in omega (arith, f.0)) (λ n is. let w = a.worn n (ap Err is) in (w.0, ap (λ (p : Holder g.row.M.Denot). p.draws) w.2 ∙ w.1))
