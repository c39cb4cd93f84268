use Rattle.std.proofs.Common.{◌+◌, List, ℕ, take, sym, subst, ◌∙◌, arith, rules, Result, Ok, Err}
use Rattle.request_text.specs.declared.lines.Line.{Line}
use Rattle.request_text.specs.declared.lines.LineFault.{LineFault}
use Rattle.connection_laws.specs.Attending.{AreRead, spot, TakesBytes}
use Rattle.connection_laws.proofs.Framing.{piece_on, begins_piece}
use Rattle.connection_laws.proofs.ChunksBy.{go_on, cut_behind, takes_read}
use Rattle.connection_laws.proofs.service.take_bytes.Goals as goal

pub loop-at-preserved : goal.loop-at-preserved
loop-at-preserved g c =
    let v = g.A.Answerer in
    let np = v.named c.args.answerer.now in
    let t = g.L.Link in
    let inv = c.loop-at.invariant in
    let old = t.traffic c.loop-at.link in
    let new = t.traffic c.act_on-acted.new.link in
    let front = take c.read_ahead-ahead.result.bytes c.split_at.result.1.now in
    let frame = c.read_ahead-ahead.new.framer in
    let goes =
    takes_read np v.asks v.wears (v.named c.begin_piece.new.self) c.policy.result.now (v.rested c.loop-at.answerer) (v.rested c.begin_piece.new.self) (v.rested c.act_on-acted.new.answerer) (v.rested c.end_piece.new.self) c.loop-at.hearing.talk c.act_on-acted.new.talk
    old.given new.given c.loop-at.hearing.framer frame front c.split_at-in-loop-at.result.0.now old.write_faults new.write_faults (Unit {0}) (Ok c.in_default.field-0) (c.policy.ensures ∙ inv.stays.named) (c.begin_piece.ensures.paced.named ∙ inv.stays.named) c.begin_piece.ensures.paced.same c.end_piece.ensures.paced.same
    (λ text fits. subst (λ (ls : List (Result Line LineFault)). AreRead c.policy.result.now text front frame ls) (sym c.split_at-in-loop-at.ensures.front) (c.read_ahead-ahead.ensures.read text fits)) c.in_default.ensures.goes in
    let on = piece_on c.args.piece.now c.split_at.result.1.now c.loop-at.at c.read_ahead-ahead.result.bytes c.split_at.ensures.back in
    record {
      within = omega arith;
      goes =
          subst (λ (x : List ℕ). TakesBytes np v.asks v.wears (spot (v.rested c.args.answerer.now) c.args.hearing.now.talk (t.traffic c.args.link.now).given) (spot (v.rested c.end_piece.new.self) c.act_on-acted.new.talk new.given) c.args.hearing.now.framer frame x 0 0 {T = Unit {0}} (Ok tt)) on
          (go_on np v.asks v.wears (spot (v.rested c.args.answerer.now) c.args.hearing.now.talk (t.traffic c.args.link.now).given) (spot (v.rested c.loop-at.answerer) c.loop-at.hearing.talk old.given) (spot (v.rested c.end_piece.new.self) c.act_on-acted.new.talk new.given) c.args.hearing.now.framer c.loop-at.hearing.framer frame
          (take c.loop-at.at c.args.piece.now) front inv.goes goes);
      stays = search rules;
      rests = λ is. c.end_piece.ensures.rests;
    }

pub returns-in-Err-clause-goes : goal.returns-in-Err-clause-goes
returns-in-Err-clause-goes g c =
    let v = g.A.Answerer in
    let np = v.named c.args.answerer.now in
    let t = g.L.Link in
    let inv = c.loop-at.invariant in
    let old = t.traffic c.loop-at.link in
    let new = t.traffic c.act_on-acted.new.link in
    let front = take c.read_ahead-ahead.result.bytes c.split_at.result.1.now in
    let frame = c.read_ahead-ahead.new.framer in
    let goes =
    takes_read np v.asks v.wears (v.named c.begin_piece.new.self) c.policy.result.now (v.rested c.loop-at.answerer) (v.rested c.begin_piece.new.self) (v.rested c.act_on-acted.new.answerer) (v.rested c.end_piece.new.self) c.loop-at.hearing.talk c.act_on-acted.new.talk
    old.given new.given c.loop-at.hearing.framer frame front c.split_at-in-loop-at.result.0.now old.write_faults new.write_faults (Unit {0}) (Err c.in-Err.end) (c.policy.ensures ∙ inv.stays.named) (c.begin_piece.ensures.paced.named ∙ inv.stays.named) c.begin_piece.ensures.paced.same c.end_piece.ensures.paced.same
    (λ text fits. subst (λ (ls : List (Result Line LineFault)). AreRead c.policy.result.now text front frame ls) (sym c.split_at-in-loop-at.ensures.front) (c.read_ahead-ahead.ensures.read text fits)) c.in-Err.ensures.goes in
    let on = piece_on c.args.piece.now c.split_at.result.1.now c.loop-at.at c.read_ahead-ahead.result.bytes c.split_at.ensures.back in
    cut_behind np v.asks v.wears (spot (v.rested c.args.answerer.now) c.args.hearing.now.talk (t.traffic c.args.link.now).given) (spot (v.rested c.loop-at.answerer) c.loop-at.hearing.talk old.given) (spot (v.rested c.end_piece.new.self) c.act_on-acted.new.talk new.given) c.args.hearing.now.framer c.loop-at.hearing.framer frame
    (take c.loop-at.at c.args.piece.now) front c.args.piece.now (t.traffic c.args.link.now).write_faults old.write_faults new.write_faults (Unit {0}) c.in-Err.end (begins_piece c.args.piece.now (c.loop-at.at + c.read_ahead-ahead.result.bytes) on) inv.stays.faults inv.goes goes
