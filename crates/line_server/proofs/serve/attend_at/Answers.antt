use Rattle.std.proofs.Common.{◌≡◌, refl, subst, sym}
use Rattle.turn_lock.specs.Holders.{Holder, site_of}
use Rattle.locked_history.specs.Fronts.{by}
use Rattle.connection_laws.specs.Services.{service_at}
use Rattle.connection_laws.specs.Turns.{IsIdle, IsRested}
use Rattle.connection_laws.specs.Attending.{spot, Attends}
use Rattle.connection_laws.specs.Clerks.{rested_clerk, clerk_view, ClerkAsks, WearsClerk}
use Rattle.connection_laws.proofs.Lent.{lent_attends, lent_rests}
use Rattle.line_server.proofs.serve.attend_at.Goals as goal

pub returns-clause-attends : goal.returns-clause-attends
returns-clause-attends g c =
    let pass_is = sym (c.pass-1.given.1 (sym c.attend.ensures.keeps.1)) in
    let clock_is = sym (c.clock-1.given.1 (sym c.attend.ensures.keeps.2)) in
    let m = g.M.Machine in
    let k = g.C.Clock in
    let t = g.L.Link in
    let s = c.args.server.now in
    let clerk = c.attend.new.answerer in
    let asks = ClerkAsks {M = g.row.M.Denot} (service_at g.M.Keeps.list m.legal m.now_of s.desk.now s.policy.now) (by c.args.pass.now.number s.conn) in
    let o = spot (clerk_view c.args.pass.now (k.readings c.args.clock.now)) c.args.hearing.now.talk (t.traffic c.args.link.now).given in
    let x = (lent_attends g.M.Keeps.list m.legal m.now_of k.readings s.policy.now _ (rested_clerk clerk) c.args.hearing.now.talk c.attend.new.hearing.talk (t.traffic c.args.link.now).given (t.traffic c.attend.new.link).given (t.traffic c.args.link.now) (t.traffic c.attend.new.link) c.attend.result c.attend.ensures.attends).1 in
    subst (λ (p : Holder g.row.M.Denot). Attends s.policy.now asks WearsClerk o (spot (clerk_view p (k.readings c.clock-1.given.0)) c.attend.new.hearing.talk (t.traffic c.attend.new.link).given) (t.traffic c.args.link.now) (t.traffic c.attend.new.link) c.attend.result) pass_is
    (subst (λ (q : g.row.C.Denot). Attends s.policy.now asks WearsClerk o (spot (clerk_view clerk.pass.now (k.readings q)) c.attend.new.hearing.talk (t.traffic c.attend.new.link).given) (t.traffic c.args.link.now) (t.traffic c.attend.new.link) c.attend.result) clock_is x)

pub returns-clause-pass : goal.returns-clause-pass
returns-clause-pass g c =
    let pass_is = sym (c.pass-1.given.1 (sym c.attend.ensures.keeps.1)) in
    let m = g.M.Machine in
    let k = g.C.Clock in
    let t = g.L.Link in
    let s = c.args.server.now in
    let clerk = c.attend.new.answerer in
    let same = (lent_attends g.M.Keeps.list m.legal m.now_of k.readings s.policy.now _ (rested_clerk clerk) c.args.hearing.now.talk c.attend.new.hearing.talk (t.traffic c.args.link.now).given (t.traffic c.attend.new.link).given (t.traffic c.args.link.now) (t.traffic c.attend.new.link) c.attend.result c.attend.ensures.attends).0 in
    subst (λ (p : Holder g.row.M.Denot). IsIdle (site_of s.desk.now) p × (p.number ≡ c.args.pass.now.number)) pass_is
    (subst (λ v. IsIdle (site_of v.now.desk.now) clerk.pass.now) same.0 c.attend.ensures.ready.asks.idle, same.1)

pub returns-clause-rests : goal.returns-clause-rests
returns-clause-rests g c =
    let pass_is = sym (c.pass-1.given.1 (sym c.attend.ensures.keeps.1)) in
    let m = g.M.Machine in
    λ rests. subst (λ (p : Holder g.row.M.Denot). IsRested p) pass_is
    (lent_rests g.M.Keeps.list m.legal m.now_of g.C.Clock.readings c.args.server.now.policy.now _ c.attend.new.answerer c.attend.ensures.rests refl rests)
