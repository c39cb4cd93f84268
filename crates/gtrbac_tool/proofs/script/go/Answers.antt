use Rattle.std.proofs.Common.{◌<◌, Err, inl, inr, sym, ap, subst, arith}
use Rattle.core_machine.specs.Books.{BookView, SameRoot, now_in}
use Rattle.gtrbac_tool.specs.Script.{IsFilled}
use Rattle.gtrbac_tool.proofs.Steps.{no_ticks, tick_more, fills, arrives}
use Rattle.gtrbac_tool.proofs.script.go.Goals as goal

pub loop-minute-init : goal.loop-minute-init
loop-minute-init c = no_ticks c.args.minute c.args.book.now

pub loop-minute-preserved : goal.loop-minute-preserved
loop-minute-preserved c =
    let early : now_in c.loop-minute.book < c.args.minute = omega arith in
    elim c.in-Ok.ensures.ok [
      | inl idle ↦ absurd (omega (arith, idle.0, early))
      | inr step ↦ tick_more c.args.minute c.in-Ok.field-0 c.args.book.now c.loop-minute.book c.tick.new.self c.loop-minute.invariant step.1
    ]

pub returns-in-Err-StepsFull-clause-root : goal.returns-in-Err-StepsFull-clause-root
returns-in-Err-StepsFull-clause-root c = subst (λ (b : BookView). SameRoot c.args.book.now b) (sym c.in-Err-StepsFull.ensures.err) c.loop-minute.invariant.root

pub returns-in-Err-StepsFull-clause-way : goal.returns-in-Err-StepsFull-clause-way
returns-in-Err-StepsFull-clause-way c =
    let full = c.in-Err-StepsFull.ensures.full (ap Err c.in-Err-StepsFull.field-0-is) in
    subst (λ (b : BookView). IsFilled c.args.book.now.birth c.args.minute c.args.book.now.entries b.entries) (sym c.in-Err-StepsFull.ensures.err)
    (fills c.args.minute c.args.book.now c.loop-minute.book c.loop-minute.invariant full.0 full.1)

pub returns-clause-root : goal.returns-clause-root
returns-clause-root c = c.loop-minute.invariant.root

pub returns-clause-way : goal.returns-clause-way
returns-clause-way c = arrives c.args.minute c.args.book.now c.loop-minute.book c.loop-minute.invariant (omega arith) c.keeps.ensures.kept.short
