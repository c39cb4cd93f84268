use Rattle.std.proofs.Common.{◌≡◌, None, Option, sym, subst}
use Rattle.std.specs.Prelude.{⊤}
use Rattle.gt_text.specs.Lines.{lines_of}
use Rattle.gtrbac_tool.specs.declared.ahead.Inquiry.{Inquiry}
use Rattle.gtrbac_tool.specs.Script.{start_of, EndsFrom}
use Rattle.gtrbac_tool.specs.Late.{AnswersFrom}
use Rattle.gtrbac_tool.specs.Ends.{PlaysTo}
use Rattle.gtrbac_tool.proofs.Limits.{plain, answering}
use Rattle.gtrbac_tool.proofs.Writing.{tells_so}
use Rattle.gtrbac_tool.proofs.starting.play.Goals as goal

pub returns-in-None : goal.returns-in-None
returns-in-None g c =
    let np = c.args.safe in
    let script = c.args.script.now in
    tells_so c.play_and_reply.result (g.K.Sink.output c.args.out.now) (g.K.Sink.output c.play_and_reply.new.out) ⊤ (c.args.asked ≡ None) (EndsFrom np (start_of np 1 (lines_of script))) (PlaysTo np c.args.asked script) (λ _. c.in-None.is)
    (λ end ends. subst (λ (o : Option Inquiry). PlaysTo np o script end) (sym c.in-None.is) (plain np script c.requires end ends)) c.play_and_reply.ensures

pub returns-in-Some : goal.returns-in-Some
returns-in-Some g c =
    let np = c.args.safe in
    let script = c.args.script.now in
    tells_so c.play_and_answer.result (g.K.Sink.output c.args.out.now) (g.K.Sink.output c.play_and_answer.new.out) ⊥ (c.args.asked ≡ None) (AnswersFrom np c.in-Some.asked (start_of np 1 (lines_of script))) (PlaysTo np c.args.asked script) (λ no. absurd no)
    (λ end ends. subst (λ (o : Option Inquiry). PlaysTo np o script end) (sym c.in-Some.is) (answering np script c.requires c.in-Some.asked end ends)) c.play_and_answer.ensures
