use Rattle.std.proofs.Common.{◌≡◌, None, true, sym, subst}
use Rattle.std.specs.Prelude.{⊤, IfOk, IsTrue}
use Rattle.gt_io.specs.Causes.{Rose}
use Rattle.policy_commands.specs.Ends.{seen_end}
use Rattle.policy_commands.specs.Policies.{safe_in}
use Rattle.gtrbac_tool.specs.declared.commands.Command.{Command}
use Rattle.gtrbac_tool.specs.Commands.{seen_command, plays_script, IsPlainRun}
use Rattle.gtrbac_tool.specs.Causes.{AsksForScript, IsAskedOf}
use Rattle.gtrbac_tool.specs.Ends.{JudgedEnds, TextEnds}
use Rattle.gtrbac_tool.specs.Reading.{Works}
use Rattle.gtrbac_tool.proofs.Reading.{shown_only, works_so}
use Rattle.gtrbac_tool.proofs.top.run_over.Goals as goal

pub returns-in-Check : goal.returns-in-Check
returns-in-Check g c =
    let text = c.args.text.now in
    let k = seen_command c.args.command.now in
    let i = g.I.Source.intake c.args.input.now in
    shown_only g.I.Source.intake (IsPlainRun k) (IsTrue (plays_script k)) (AsksForScript k text) (λ failed. TextEnds failed k text) c.args.input.now c.show.result (g.K.Sink.output c.args.out.now) (g.K.Sink.output c.show.new.out) c.check.result
    (subst (λ (d : Command). IsTrue (plays_script (seen_command d)) → ⊥) (sym c.in-Check.is) (λ e. cc (e)))
    (subst (λ (d : Command). IfOk c.check.result (λ e. TextEnds (Rose i.faults i.faults) (seen_command d) text i.left (seen_end e))) (sym c.in-Check.is) c.check.ensures.end) c.show.ensures

pub returns-in-Fmt : goal.returns-in-Fmt
returns-in-Fmt g c =
    let text = c.args.text.now in
    let k = seen_command c.args.command.now in
    let i = g.I.Source.intake c.args.input.now in
    shown_only g.I.Source.intake (IsPlainRun k) (IsTrue (plays_script k)) (AsksForScript k text) (λ failed. TextEnds failed k text) c.args.input.now c.show-in-Fmt.result (g.K.Sink.output c.args.out.now) (g.K.Sink.output c.show-in-Fmt.new.out) c.lay_out.result
    (subst (λ (d : Command). IsTrue (plays_script (seen_command d)) → ⊥) (sym c.in-Fmt.is) (λ e. cc (e)))
    (subst (λ (d : Command). IfOk c.lay_out.result (λ e. TextEnds (Rose i.faults i.faults) (seen_command d) text i.left (seen_end e))) (sym c.in-Fmt.is) c.lay_out.ensures.end) c.show-in-Fmt.ensures

pub returns-in-Run : goal.returns-in-Run
returns-in-Run g c =
    let text = c.args.text.now in
    let question = c.in-Run.question in
    let old = c.args.input.now in
    let new = c.run.new.input in
    let a = g.K.Sink.output c.args.out.now in
    let b = g.K.Sink.output c.run.new.out in
    subst
    (λ (d : Command). Works g.I.Source.intake (IsPlainRun (seen_command d)) (IsTrue (plays_script (seen_command d))) (AsksForScript (seen_command d) text) (λ failed. TextEnds failed (seen_command d) text) old new c.run.result a b)
    (sym c.in-Run.is)
    (works_so g.I.Source.intake (question ≡ None) ⊤ (IsAskedOf question text) (λ failed. JudgedEnds failed question (safe_in text)) (question ≡ None) (IsTrue true) (IsAskedOf question text) (λ failed. JudgedEnds failed question (safe_in text))
    old new c.run.result a b (λ p. p) (λ _. tt) (λ p. p) (λ end ends. ends) c.run.ensures)
