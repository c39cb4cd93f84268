use Rattle.std.proofs.Common.{inl}
use Rattle.std.specs.Prelude.{Result, Ok}
use Rattle.gt_text.specs.Lines.{lines_of}
use Rattle.policy_commands.specs.declared.ends.End.{End}
use Rattle.gtrbac_tool.specs.declared.script.Ran.TheVariants.{Unborn, Born}
use Rattle.gtrbac_tool.specs.Script.{start_of}
use Rattle.gtrbac_tool.specs.Summary.{SummedFrom}
use Rattle.gtrbac_tool.specs.Counted.{seen_recipe}
use Rattle.gtrbac_tool.proofs.Pieces.{unsent}
use Rattle.gtrbac_tool.proofs.Ran.{unborn_sums, born_result}
use Rattle.gtrbac_tool.proofs.Writing.{shown, prints_from}
use Rattle.gtrbac_tool.proofs.summing.play_and_sum.Goals as goal

pub returns-in-Ok-Unborn : goal.returns-in-Ok-Unborn
returns-in-Ok-Unborn g c =
    let start = start_of c.args.safe 1 (lines_of c.args.script.now) in
    let a = g.K.Sink.output c.args.out.now in
    let b = g.K.Sink.output c.begin.new.out in
    let d = g.K.Sink.output c.show.new.out in
    let ran = c.in-Ok-Unborn.ensures in
    let end : Result End ⊥ = Ok c.in-Ok-Unborn.end in
    shown c.show.result a d ⊥ (SummedFrom c.args.safe (seen_recipe c.args.recipe) start) end (prints_from end c.show.result a b d ran.0 ran.2 c.show.ensures)
    (unborn_sums c.args.safe (seen_recipe c.args.recipe) start c.in-Ok-Unborn.end (unsent c.args.safe start c.in-Ok-Unborn.field-0 (Unborn c.in-Ok-Unborn.end) a b c.in-Ok-Unborn.field-0-is ran))

pub returns-in-Ok-Born : goal.returns-in-Ok-Born
returns-in-Ok-Born g c =
    let start = start_of c.args.safe 1 (lines_of c.args.script.now) in
    let a = g.K.Sink.output c.args.out.now in
    let b = g.K.Sink.output c.begin.new.out in
    let d = g.K.Sink.output c.show-in-Ok-Born.new.out in
    let ran = c.in-Ok-Born.ensures in
    shown c.show-in-Ok-Born.result a d ⊥ (SummedFrom c.args.safe (seen_recipe c.args.recipe) start) c.sum_up.result (prints_from c.sum_up.result c.show-in-Ok-Born.result a b d ran.0 ran.2 c.show-in-Ok-Born.ensures)
    (born_result c.args.safe (seen_recipe c.args.recipe) start c.in-Ok-Born.book c.in-Ok-Born.end c.sum_up.result
    (unsent c.args.safe start c.in-Ok-Born.field-0 (Born c.in-Ok-Born.book c.in-Ok-Born.end) a b c.in-Ok-Born.field-0-is ran) c.sum_up.ensures)

pub returns-in-Err : goal.returns-in-Err
returns-in-Err g c = inl c.in-Err.ensures
