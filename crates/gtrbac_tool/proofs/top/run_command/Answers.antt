use Rattle.std.proofs.Common.{◌≡◌, List, ℕ, map, sym, refl, subst}
use Rattle.std.specs.Prelude.{string_bytes}
use Rattle.gt_io.specs.Causes.{Rose}
use Rattle.policy_commands.specs.declared.finding.FoundText.{FoundText}
use Rattle.policy_commands.specs.Ends.{seen_end}
use Rattle.policy_commands.specs.Finding.{IsStoredText, IsFoundText, IsFailure, IsSteady}
use Rattle.gtrbac_tool.specs.Commands.{seen_command}
use Rattle.gtrbac_tool.proofs.Calls.{usage_runs, over_text, missed, unfound}
use Rattle.gtrbac_tool.proofs.top.run_command.Goals as goal

pub returns-in_default : goal.returns-in_default
returns-in_default g c =
    usage_runs g.S.Shelf.stock g.I.Source.intake g.K.Sink.output (map string_bytes c.args.words.now) c.print.result c.args.shelf.now c.args.input.now c.args.out.now c.print.new.out (sym c.in_default.ensures, c.requires) c.print.ensures

pub returns-in-Ok-Text : goal.returns-in-Ok-Text
returns-in-Ok-Text g c =
    let s = g.S.Shelf.stock in
    let i = g.I.Source.intake in
    let o = g.K.Sink.output in
    let words = map string_bytes c.args.words.now in
    let k = seen_command c.in-Some.command in
    let old = c.args.shelf.now in
    let new = c.find_text.new.shelf in
    let status = c.run_over.result in
    let stored = subst (λ (t : List ℕ). IsStoredText (s old).contents c.name.result.now t) (sym c.deref.ensures.value)
    (subst (λ (f : FoundText). IsFoundText (Rose (s old).hard_faults (s new).hard_faults) (s old).contents c.name.result.now f) c.in-Ok-Text.field-0-is c.in-Ok-Text.ensures.found) in
    let hard = subst (λ (f : FoundText). IsSteady ((s new).hard_faults ≡ (s old).hard_faults) f) c.in-Ok-Text.field-0-is c.in-Ok-Text.ensures.steady in
    over_text s i o words status old new c.args.input.now c.run_over.new.input c.args.out.now c.run_over.new.out k (sym c.in-Some.ensures) c.name.result.now c.name.ensures c.deref.result.now stored hard
    c.find_text.ensures.once c.find_text.ensures.same c.run_over.ensures

pub returns-in-Ok-Ended : goal.returns-in-Ok-Ended
returns-in-Ok-Ended g c =
    let s = g.S.Shelf.stock in
    let i = g.I.Source.intake in
    let o = g.K.Sink.output in
    let words = map string_bytes c.args.words.now in
    let k = seen_command c.in-Some.command in
    let old = c.args.shelf.now in
    let new = c.find_text.new.shelf in
    let input = c.args.input.now in
    let status = c.show.result in
    missed s i o words status old new input input c.args.out.now c.show.new.out k (sym c.in-Some.ensures) c.name.result.now c.name.ensures c.find_text.ensures.once c.find_text.ensures.same refl (seen_end c.in-Ok-Ended.end)
    (subst (λ (f : FoundText). IsFoundText (Rose (s old).hard_faults (s new).hard_faults) (s old).contents c.name.result.now f) c.in-Ok-Ended.field-0-is c.in-Ok-Ended.ensures.found)
    (subst (λ (f : FoundText). IsSteady ((s new).hard_faults ≡ (s old).hard_faults) f) c.in-Ok-Ended.field-0-is c.in-Ok-Ended.ensures.steady)
    (subst (λ (f : FoundText). IsFailure (Rose (s old).faults (s new).faults) f) c.in-Ok-Ended.field-0-is c.in-Ok-Ended.ensures.failed) c.show.ensures

pub returns-in-Err : goal.returns-in-Err
returns-in-Err g c =
    unfound g.S.Shelf.stock g.I.Source.intake g.K.Sink.output (map string_bytes c.args.words.now) 8 c.args.shelf.now c.find_text.new.shelf c.args.input.now c.args.input.now c.args.out.now c.args.out.now (seen_command c.in-Some.command) (sym c.in-Some.ensures)
    c.name.result.now c.name.ensures c.find_text.ensures.once c.find_text.ensures.same refl refl refl
