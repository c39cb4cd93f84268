use Rattle.std.proofs.Common.{◌≡◌, None, refl, sym, subst}
use Rattle.std.specs.Prelude.{⊤, Result, Ok}
use Rattle.gt_io.specs.Causes.{Rose}
use Rattle.policy_words.specs.Naming.{NamedPolicy}
use Rattle.policy_commands.specs.Admitting.{IsAdmitted, IsEnded}
use Rattle.policy_commands.specs.Ends.{EndView, seen_end}
use Rattle.policy_commands.specs.Policies.{safe_in}
use Rattle.gtrbac_tool.specs.Causes.{IsAskedOf}
use Rattle.gtrbac_tool.specs.Late.{asks_of}
use Rattle.gtrbac_tool.specs.Ends.{AskedEnds, JudgedEnds}
use Rattle.std.specs.Prelude.{IsSome}
use Rattle.gtrbac_tool.proofs.Exactness.{safe_of}
use Rattle.gtrbac_tool.proofs.Reading.{ended_run, starved, told_first, works_so}
use Rattle.gtrbac_tool.proofs.top.run.Goals as goal

pub returns-in-Ok-Safe : goal.returns-in-Ok-Safe
returns-in-Ok-Safe g c =
    let np = c.in-Ok-Safe.safe in
    let text = c.args.text.now in
    let question = c.args.question in
    let old = g.I.Source.intake c.args.input.now in
    let new = g.I.Source.intake c.run_safe.new.input in
    let is : safe_in text ≡ Ok np = subst (IsAdmitted text) c.in-Ok-Safe.field-0-is c.in-Ok-Safe.ensures in
    works_so g.I.Source.intake (question ≡ None) ⊤ (IsSome (asks_of np question)) (λ failed. AskedEnds failed np (asks_of np question)) (question ≡ None) ⊤ (IsAskedOf question text) (λ failed. JudgedEnds failed question (safe_in text))
    c.args.input.now c.run_safe.new.input c.run_safe.result (g.K.Sink.output c.args.out.now) (g.K.Sink.output c.run_safe.new.out) (λ p. p) (λ p. p) (λ known. (np, safe_of text np is, known))
    (λ end ends. subst (λ (o : Result NamedPolicy EndView). JudgedEnds (Rose old.faults new.faults) question o old.left end) (sym is) ends) c.run_safe.ensures

pub returns-in-Ok-Ended : goal.returns-in-Ok-Ended
returns-in-Ok-Ended g c =
    let text = c.args.text.now in
    let question = c.args.question in
    let old = g.I.Source.intake c.args.input.now in
    let end = c.in-Ok-Ended.end in
    let is : IsEnded text end = subst (IsAdmitted text) c.in-Ok-Ended.field-0-is c.in-Ok-Ended.ensures in
    told_first g.I.Source.intake (question ≡ None) ⊤ (IsAskedOf question text) (λ failed. JudgedEnds failed question (safe_in text)) c.args.input.now c.show.result (g.K.Sink.output c.args.out.now) (g.K.Sink.output c.show.new.out)
    (seen_end end) (subst (λ (o : Result NamedPolicy EndView). JudgedEnds (Rose old.faults old.faults) question o old.left (seen_end end)) (sym is.told) refl) (ended_run text end is) c.show.ensures

pub returns-in-Err : goal.returns-in-Err
returns-in-Err g c = starved g.I.Source.intake (c.args.question ≡ None) ⊤ (IsAskedOf c.args.question c.args.text.now) (λ failed. JudgedEnds failed c.args.question (safe_in c.args.text.now)) c.args.input.now (g.K.Sink.output c.args.out.now)
