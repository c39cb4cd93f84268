use Rattle.std.proofs.Common.{◌≡◌, None, Some, Option, refl, ◌∙◌, sym, ap, subst}
use Rattle.std.specs.Prelude.{⊤, IsSome}
use Rattle.policy_words.specs.Naming.{NamedPolicy}
use Rattle.gt_io.specs.Causes.{Rose}
use Rattle.gtrbac_tool.specs.declared.ahead.Inquiry.{Inquiry}
use Rattle.gtrbac_tool.specs.EndTexts.{unknown_name}
use Rattle.gtrbac_tool.specs.Late.{asks_of}
use Rattle.gtrbac_tool.specs.Ends.{ScriptEnds, AskedEnds}
use Rattle.gtrbac_tool.proofs.Reading.{no_run, none_asked, told_first, works_so}
use Rattle.gtrbac_tool.proofs.top.run_safe.Goals as goal

pub returns-in-Some : goal.returns-in-Some
returns-in-Some g c =
    let np = c.args.safe in
    let question = c.args.question in
    let asked = c.in-Some.asked in
    let old = g.I.Source.intake c.args.input.now in
    let new = g.I.Source.intake c.run_script.new.input in
    let is : asks_of np question ≡ Some asked = ◌∙◌ {b = c.asks_of.result} (sym (c.asks_of.ensures ∙ ap (λ (p : NamedPolicy). asks_of p question) c.policy.ensures.value)) c.in-Some.is in
    works_so g.I.Source.intake (asked ≡ None) ⊤ ⊤ (λ failed. ScriptEnds failed np asked) (question ≡ None) ⊤ (IsSome (asks_of np question)) (λ failed. AskedEnds failed np (asks_of np question))
    c.args.input.now c.run_script.new.input c.run_script.result (g.K.Sink.output c.args.out.now) (g.K.Sink.output c.run_script.new.out)
    (none_asked np question asked is) (λ p. p) (λ _. subst (λ (o : Option (Option Inquiry)). IsSome o) (sym is) refl)
    (λ end ends. subst (λ (o : Option (Option Inquiry)). AskedEnds (Rose old.faults new.faults) np o old.left end) (sym is) ends) c.run_script.ensures

pub returns-in-None : goal.returns-in-None
returns-in-None g c =
    let np = c.args.safe in
    let question = c.args.question in
    let old = g.I.Source.intake c.args.input.now in
    let is : asks_of np question ≡ None = ◌∙◌ {b = c.asks_of.result} (sym (c.asks_of.ensures ∙ ap (λ (p : NamedPolicy). asks_of p question) c.policy.ensures.value)) c.in-None.is in
    told_first g.I.Source.intake (question ≡ None) ⊤ (IsSome (asks_of np question)) (λ failed. AskedEnds failed np (asks_of np question)) c.args.input.now c.print.result (g.K.Sink.output c.args.out.now) (g.K.Sink.output c.print.new.out)
    unknown_name (subst (λ (o : Option (Option Inquiry)). AskedEnds (Rose old.faults old.faults) np o old.left unknown_name) (sym is) refl) (no_run 13 13 refl refl) c.print.ensures
