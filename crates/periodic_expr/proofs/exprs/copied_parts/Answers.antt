use Rattle.std.proofs.Common.{[], ◌∷◌, ◌++◌, sym, ◌∙◌}
use Rattle.std.proofs.lemmas.List.{take_all, take_more}
use Rattle.periodic_expr.proofs.exprs.copied_parts.Goals as goal

pub loop-part-preserved : goal.loop-part-preserved
loop-part-preserved c =
    c.in_ok-push.ensures.items ∙ (λ i. c.loop-part.invariant i ++ (c.in_ok-copy.ensures ∙ c.part-item.is) i ∷ [])
    ∙ sym (take_more c.args.parts.now c.loop-part.part-index c.part-item.result c.loop-part-test.true)

pub returns : goal.returns
returns c = c.loop-part.invariant ∙ take_all c.loop-part.part-index c.args.parts.now c.loop-part-test.false
