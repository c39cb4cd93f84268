use Rattle.std.proofs.Common.{Some, cond, ◌∙◌, ◌&&◌, ap}
use Rattle.std.specs.List.{list_any}
use Rattle.std.proofs.lemmas.List.{take_all}
use Rattle.gtrbac_model.specs.Conflict.{beats}
use Rattle.gtrbac_model.specs.Same.{same_event}
use Rattle.priority_conflict.proofs.OverLaws.{read_more}
use Rattle.why_check.specs.Peaks.{beaten_from, peak_in, peak_with, sides_in}
use Rattle.why_check.proofs.Peaking.{peaks_more}
use Rattle.why_check.proofs.blocking.sides_of.Goals as goal

pub loop-o-init : goal.loop-o-init
loop-o-init c = λ e on p. ap (beaten_from on p) (c.in_ok-sides.ensures e)

pub loop-o-preserved : goal.loop-o-preserved
loop-o-preserved c = λ e on p.
    let o = c.o-item.result in
    let old = peak_in (sides_in c.loop-o.sides) e in
    peaks_more e on p c.args.events.now c.loop-o.o-index o old (peak_in (sides_in c.note.new.self) e)
    (read_more _ _ o c.loop-o-test.true c.o-item.is)
    (c.in_ok-note.ensures e ∙ ap (λ q. cond (same_event o.event e) (Some (peak_with old q)) old) c.get.ensures.value)
    (c.loop-o.invariant e on p)

pub returns : goal.returns
returns c = λ e on p.
    c.loop-o.invariant e on p
    ∙ ap (list_any (λ o. same_event o.event e && beats on o.prio p)) (take_all c.loop-o.o-index c.args.events.now c.loop-o-test.false)
