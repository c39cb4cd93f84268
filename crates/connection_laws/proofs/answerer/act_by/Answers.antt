use Rattle.std.proofs.Common.{◌∙◌, ap, Ok}
use Rattle.connection_laws.proofs.ActingBy.{acts_ask, acts_silent, acts_be, acts_bad}
use Rattle.connection_laws.proofs.NoMinutes.{no_minute}
use Rattle.connection_laws.proofs.answerer.act_by.Goals as goal

pub returns-in-Ok-Ask-clause-acts : goal.returns-in-Ok-Ask-clause-acts
returns-in-Ok-Ask-clause-acts g c = λ line is.
    let w = g.A.Answerer in
    acts_ask (w.named c.args.answerer.now) w.asks (w.wears (w.rested c.answer.new.self)) line c.args.talk.now (w.rested c.args.answerer.now) (w.rested c.answer.new.self) c.in-Ok-Ask.request c.answer.result
    (is ∙ (c.in-Ok-Ask.is ∙ ap Ok c.in-Ok-Ask.field-0-is)) c.requires.actor c.answer.ensures.answers

-- a connection has no line for a minute
pub unreachable-requires : goal.unreachable-requires
unreachable-requires g c = no_minute (g.A.Answerer.named c.args.answerer.now) c.requires.read.line _ (c.requires.read.said_is ∙ (c.in-Ok-At.is ∙ ap Ok c.in-Ok-At.field-0-is))

pub returns-in-Ok-Be-clause-acts : goal.returns-in-Ok-Be-clause-acts
returns-in-Ok-Be-clause-acts g c = λ line is.
    let w = g.A.Answerer in
    let k = w.rested c.args.answerer.now in
    acts_be (w.named c.args.answerer.now) w.asks (w.wears k) line c.args.talk.now k c.in-Ok-Be.actor (is ∙ (c.in-Ok-Be.is ∙ ap Ok c.in-Ok-Be.field-0-is)) (rw c.in-Ok-Be.field-0-is at (rw c.in-Ok-Be.is at c.requires.read.named))

pub returns-in-Ok-Silent-clause-acts : goal.returns-in-Ok-Silent-clause-acts
returns-in-Ok-Silent-clause-acts g c = λ line is.
    let w = g.A.Answerer in
    let k = w.rested c.args.answerer.now in
    acts_silent (w.named c.args.answerer.now) w.asks (w.wears k) line c.args.talk.now k (is ∙ (c.in-Ok-Silent.is ∙ ap Ok c.in-Ok-Silent.field-0-is)) c.requires.actor

pub returns-in-Err-clause-acts : goal.returns-in-Err-clause-acts
returns-in-Err-clause-acts g c = λ line is.
    let w = g.A.Answerer in
    let k = w.rested c.args.answerer.now in
    acts_bad (w.named c.args.answerer.now) w.asks (w.wears k) line c.args.talk.now k c.in-Err.fault (is ∙ c.in-Err.is) c.requires.actor

pub returns-in-Ok-Ask-clause-keeps : goal.returns-in-Ok-Ask-clause-keeps
returns-in-Ok-Ask-clause-keeps g c =
    let x = c.answer.ensures.answers in
    let v = g.A.Answerer in
    v.rested_keep c.args.answerer.now c.answer.new.self (v.asks_keep (v.rested c.args.answerer.now) (v.rested c.answer.new.self) _ c.in-Ok-Ask.request x.answer x.readings x.entries x.asks)

pub returns-in-Ok-Be-clause-keeps : goal.returns-in-Ok-Be-clause-keeps
returns-in-Ok-Be-clause-keeps g c = g.A.Answerer.keeps_refl c.args.answerer.now

pub returns-in-Ok-Silent-clause-keeps : goal.returns-in-Ok-Silent-clause-keeps
returns-in-Ok-Silent-clause-keeps g c = g.A.Answerer.keeps_refl c.args.answerer.now

pub returns-in-Err-clause-keeps : goal.returns-in-Err-clause-keeps
returns-in-Err-clause-keeps g c = g.A.Answerer.keeps_refl c.args.answerer.now
