use Rattle.std.proofs.Common.{◌≡◌, ℕ, List, [], sym, ◌∙◌, ap, subst}
use Rattle.std.specs.Prelude.{MatchResult, codes}
use Rattle.gt_text.specs.Lines.{lines_of}
use Rattle.policy_commands.specs.declared.ends.End.{End}
use Rattle.policy_commands.specs.Ends.{ending, seen_end}
use Rattle.request_text.specs.Replies.{fault_word}
use Rattle.gtrbac_tool.specs.declared.starting.Start.{Start as Found}
use Rattle.gtrbac_tool.specs.declared.script.Ran.TheVariants.{Unborn}
use Rattle.gtrbac_tool.specs.Script.{ScriptStart, start_of}
use Rattle.gtrbac_tool.specs.Started.{started_so, RanFrom, Leads}
use Rattle.gtrbac_tool.specs.EndTexts.{script_fault}
use Rattle.gtrbac_tool.proofs.Pieces.{failed_first}
use Rattle.gtrbac_tool.proofs.Writing.{hands_none}
use Rattle.gtrbac_tool.proofs.starting.begin.Goals as goal

pub returns-in-Never : goal.returns-in-Never
returns-in-Never g c =
    let is = ((λ i. start_of (sym c.policy.ensures.value i) 1 (sym c.new-lines.ensures.value i)) ∙ c.find_start.ensures.start ∙ ap (λ (f : Found). started_so f c.find_start.new.lines) c.in-Never.is) in
    ([], subst (λ (s : ScriptStart). RanFrom c.args.safe s [] (Unborn (record { status = 0; text = c.new.result }))) (sym is) (ap (ending 0) c.new.ensures), hands_none c.args.pieces (g.K.Sink.output c.args.out.now))

pub returns-in-Born : goal.returns-in-Born
returns-in-Born g c =
    let is = ((λ i. start_of (sym c.policy.ensures.value i) 1 (sym c.new-lines.ensures.value i)) ∙ c.find_start.ensures.start ∙ ap (λ (f : Found). started_so f c.find_start.new.lines) c.in-Born.is) in
    subst (λ (s : ScriptStart). Leads c.args.safe s c.args.pieces c.from_birth.result (g.K.Sink.output c.args.out.now) (g.K.Sink.output c.from_birth.new.out)) (sym is) c.from_birth.ensures

pub returns-in-Bad : goal.returns-in-Bad
returns-in-Bad g c =
    let is = ((λ i. start_of (sym c.policy.ensures.value i) 1 (sym c.new-lines.ensures.value i)) ∙ c.find_start.ensures.start ∙ ap (λ (f : Found). started_so f c.find_start.new.lines) c.in-Bad.is) in
    failed_first c.args.safe (start_of c.args.safe 1 (lines_of c.args.script.now)) (script_fault c.in-Bad.number (fault_word c.in-Bad.fault)) c.args.pieces (g.K.Sink.output c.args.out.now) is c.unborn_at.result
    (subst (λ (w : List ℕ). MatchResult c.unborn_at.result (λ ran. (end : End) × (ran ≡ Unborn end) × (seen_end end ≡ script_fault c.in-Bad.number w)) (λ s. s ≡ 8)) c.fault_word.ensures c.unborn_at.ensures)

pub returns-in-Unborn : goal.returns-in-Unborn
returns-in-Unborn g c =
    let is = ((λ i. start_of (sym c.policy.ensures.value i) 1 (sym c.new-lines.ensures.value i)) ∙ c.find_start.ensures.start ∙ ap (λ (f : Found). started_so f c.find_start.new.lines) c.in-Unborn.is) in
    failed_first c.args.safe (start_of c.args.safe 1 (lines_of c.args.script.now)) (script_fault c.in-Unborn.number (codes "birth")) c.args.pieces (g.K.Sink.output c.args.out.now) is c.unborn_at-in-Unborn.result c.unborn_at-in-Unborn.ensures
