use Rattle.std.proofs.Common.{◌∙◌, ◌++◌, [], ap, refl, arith, List, ℕ}
use Rattle.request_text.specs.Replies.{reply_line}
use Rattle.gt_base.specs.Roomy.{Roomy}
use Rattle.connection_laws.specs.Lines.{accepted, no_memory}
use Rattle.connection_laws.proofs.Growing.{grown_none, grown_within}
use Rattle.locked_history.specs.Fronts.{by}
use Rattle.connection_laws.proofs.acts.decide.Goals as goal

-- the reply that was asked for ends a legal list
pub reply_fits-requires : goal.reply_fits-requires
reply_fits-requires g c =
    let stands = c.in-Ok.ensures.asked.ends c.in-Ok.reply refl in
    (c.requires.replies stands.0 (by c.args.pass.now.number c.args.server.now.conn) c.args.actor c.args.request c.in-Ok.reply stands.1).brief

pub put_reply-requires-clause-named : goal.put_reply-requires-clause-named
put_reply-requires-clause-named g c =
    let stands = c.in-Ok.ensures.asked.ends c.in-Ok.reply refl in
    (c.requires.replies stands.0 (by c.args.pass.now.number c.args.server.now.conn) c.args.actor c.args.request c.in-Ok.reply stands.1).named

pub returns-then-is_err-clause-decides : goal.returns-then-is_err-clause-decides
returns-then-is_err-clause-decides g c =
    let p = c.args.pass.now in
    record {
      answer = no_memory;
      entries = [];
      told_is = refl;
      asks = λ birth timed. (c.args.reading, [], refl, tt, refl);
      mine = tt;
      grows = grown_within p p [] 0 2 (omega arith) (grown_none p);
      worn_out = λ n same. absurd cc;
    }

pub returns-in-Ok-clause-decides : goal.returns-in-Ok-clause-decides
returns-in-Ok-clause-decides g c =
    let r = c.in-Ok.ensures.asked in
    let text = ap (λ (r : Roomy ℕ). r.items) c.replace.ensures.value ∙ c.put_reply.ensures.items ∙ ap (λ (l : List ℕ). l ++ reply_line c.args.server.now.policy.now c.in-Ok.reply) (c.reserve.ensures.items ∙ c.clear.ensures.items) in
    record {
      answer = accepted c.in-Ok.reply;
      entries = r.entries;
      told_is = (record { replied = refl; granted = refl; unworn = refl }, text);
      asks = r.asks;
      mine = r.mine;
      grows = r.grows;
      worn_out = λ n same. absurd cc;
    }
