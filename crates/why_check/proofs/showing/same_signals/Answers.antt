use Rattle.std.proofs.Common.{◌&&◌, sym, refl, ap, ◌∙◌}
use Rattle.std.specs.List.{list_all}
use Rattle.gt_base.specs.Sets.{has, members}
use Rattle.why_check.proofs.Shown.{same_by_tests}
use Rattle.why_check.proofs.showing.same_signals.Goals as goal

pub returns-then-all_signalled : goal.returns-then-all_signalled
returns-then-all_signalled c =
    let a = c.args.x.now.set.signals in
    let b = c.args.base.now.set.signals in
    same_by_tests a b c.all_signalled.result c.all_signalled-then-all_signalled.result _ (ap (λ t. t && c.all_signalled-then-all_signalled.result) (sym c.if-all_signalled.true))
    (c.all_signalled.ensures ∙ ap (list_all (has b)) c.signals.ensures)
    (c.all_signalled-then-all_signalled.ensures ∙ ap (list_all (has a)) c.signals-then-all_signalled.ensures)

pub returns-else-all_signalled : goal.returns-else-all_signalled
returns-else-all_signalled c =
    let a = c.args.x.now.set.signals in
    let b = c.args.base.now.set.signals in
    same_by_tests a b c.all_signalled.result (list_all (has a) (members b)) c.all_signalled.result
    (c.if-all_signalled.false ∙ ap (λ t. t && list_all (has a) (members b)) (sym c.if-all_signalled.false))
    (c.all_signalled.ensures ∙ ap (list_all (has b)) c.signals.ensures) refl
