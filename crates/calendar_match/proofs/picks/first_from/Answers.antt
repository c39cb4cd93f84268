use Rattle.std.proofs.Common.{ap, sym, Some, ◌∙◌}
use Rattle.calendar_match.proofs.Numbers.{at_place, first_at, past_places}
use Rattle.calendar_match.proofs.picks.first_from.Goals as goal

pub returns-in-Some : goal.returns-in-Some
returns-in-Some c =
    ap Some (c.from.ensures ∙ c.in-Some.ensures.lookup.1)
    ∙ sym (at_place c.args.numbers.now c.count_below.result c.in-Some.m.now c.in-Some.ensures.lookup.3.0)
    ∙ sym (first_at c.args.n c.args.numbers.now c.count_below.result c.count_below.ensures)

pub returns-in-None : goal.returns-in-None
returns-in-None c =
    sym (past_places c.args.numbers.now c.count_below.result c.in-None.ensures.lookup.3)
    ∙ sym (first_at c.args.n c.args.numbers.now c.count_below.result c.count_below.ensures)
