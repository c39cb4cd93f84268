use Rattle.std.proofs.Common.{ℕ, subst, rules, Err}
use Rattle.connection_laws.specs.Attending.{spot, TakesOn}
use Rattle.connection_laws.proofs.LineDoneBy.{tells_more, tells_all, tells_cut}
use Rattle.connection_laws.proofs.service.act_on.Goals as goal

pub loop-line-preserved : goal.loop-line-preserved
loop-line-preserved g c =
    let v = g.A.Answerer in
    let np = v.named c.args.answerer.now in
    let t = g.L.Link in
    let inv = c.loop-line.invariant in
    record {
      tells = tells_more np v.asks v.wears (spot (v.rested c.args.answerer.now) c.args.talk.now (t.traffic c.args.link.now).given) (v.rested c.loop-line.answerer) (v.rested c.act_by-told.new.answerer) (v.rested c.before_reply.new.self) c.loop-line.talk c.act_by-told.new.talk c.settle.new.talk
          (t.traffic c.loop-line.link) (t.traffic c.settle.new.link) c.args.said.now c.loop-line.line-index c.line-item.result c.act_by-told.result c.loop-line-test.true c.line-item.is inv.tells
          (v.named c.loop-line.answerer) inv.stays.named c.before_reply.ensures.paced.same c.act_by-told.ensures.acts (c.settle.ensures.talk np) c.in_default.field-0 (c.in_default.ensures.sent np);
      stays = search rules;
    }

pub returns-clause-goes : goal.returns-clause-goes
returns-clause-goes g c =
    let v = g.A.Answerer in
    let t = g.L.Link in
    tells_all (v.named c.args.answerer.now) v.asks v.wears (spot (v.rested c.args.answerer.now) c.args.talk.now (t.traffic c.args.link.now).given) (spot (v.rested c.loop-line.answerer) c.loop-line.talk (t.traffic c.loop-line.link).given)
    c.args.said.now c.loop-line.line-index c.loop-line-test.false c.loop-line.invariant.tells

pub returns-in-Err-clause-goes : goal.returns-in-Err-clause-goes
returns-in-Err-clause-goes g c =
    let v = g.A.Answerer in
    let np = v.named c.args.answerer.now in
    let t = g.L.Link in
    let inv = c.loop-line.invariant in
    λ o text bytes acted frame frame' s read.
    subst (λ (n : ℕ). TakesOn np v.asks v.wears o (spot (v.rested c.before_reply.new.self) c.settle.new.talk (t.traffic c.settle.new.link).given) frame' text bytes n (t.traffic c.settle.new.link).write_faults {T = Unit {0}} (Err c.in-Err.end)) inv.stays.faults
    (tells_cut np v.asks v.wears (spot (v.rested c.args.answerer.now) c.args.talk.now (t.traffic c.args.link.now).given) (v.rested c.loop-line.answerer) (v.rested c.act_by-told.new.answerer) (v.rested c.before_reply.new.self) c.loop-line.talk c.act_by-told.new.talk c.settle.new.talk
    (t.traffic c.loop-line.link) (t.traffic c.settle.new.link) c.args.said.now c.loop-line.line-index c.line-item.result c.act_by-told.result c.loop-line-test.true c.line-item.is inv.tells
    (v.named c.loop-line.answerer) inv.stays.named c.before_reply.ensures.paced.same c.act_by-told.ensures.acts (c.settle.ensures.talk np) c.in-Err.end (c.in-Err.ensures.sent np) c.in-Err.ensures.worn o text bytes acted frame frame' s read)
