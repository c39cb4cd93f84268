use Rattle.std.proofs.Common.{◌≡◌, ◌-◌, length, slice_get, Some, sym, ◌∙◌}
use Rattle.time_engine.proofs.TraceLaws.{last_is}
use Rattle.time_engine.proofs.timelines.happened.Goals as goal

pub returns-in-Some : goal.returns-in-Some
returns-in-Some c =
    let s = c.args.s.now in
    let e : slice_get s.trace.items (length s.trace.items - 1) ≡ Some c.in-Some.last.now = (λ i. slice_get (sym c.as_slice.ensures i) (length (sym c.as_slice.ensures i) - 1)) ∙ sym c.in-Some.ensures.value in
    c.chosen.ensures ∙ last_is s.trace.items s.ages.birth s.present c.in-Some.last.now s.quiet.set e c.requires.kept.ascends c.requires.kept.ends c.requires.quiet
