use Rattle.std.proofs.Common.{sym, ◌∙◌}
use Rattle.calendar_match.proofs.Sets.{sets_of}
use Rattle.calendar_match.proofs.steps.step_back.Goals as goal

pub behind-requires-clause-sets : goal.behind-requires-clause-sets
behind-requires-clause-sets c =
    sets_of c.args.e.now c.in-Some.part.now c.in-Some.more.now c.parts.ensures.valid (sym c.parts.ensures.parts ∙ sym c.as_slice.ensures ∙ c.in-Some.ensures)
