use Rattle.std.proofs.Common.{◌≤◌, length, subst, ◌∙◌}
use Rattle.std.proofs.lemmas.List.{take_all}
use Rattle.time_engine.proofs.copying.copied_trace.Goals as goal

pub returns : goal.returns
returns c = c.loop-c.invariant.sets ∙ take_all c.loop-c.c-index c.args.trace.now.items (subst (λ xs. length xs ≤ c.loop-c.c-index) c.as_slice-c-items.ensures c.loop-c-test.false)
