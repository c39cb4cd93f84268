use Rattle.std.proofs.Common.{◌≡◌, suc, ◌+◌, ◌-◌, None, Some, ap, sym, subst, ◌∙◌, arith}
use Rattle.calendar_match.specs.Steps.{LesserAreFirst}
use Rattle.calendar_match.proofs.Numbers.{at_place, last_at}
use Rattle.calendar_match.proofs.picks.last_upto.Goals as goal

pub returns-in-Some : goal.returns-in-Some
returns-in-Some c =
    let some : c.count_upto-past.result ≡ suc (c.count_upto-past.result - 1) = omega arith in
    ap Some (c.from.ensures ∙ c.in-Some.ensures.lookup.1)
    ∙ sym (at_place c.args.numbers.now (c.count_upto-past.result - 1) c.in-Some.m.now c.in-Some.ensures.lookup.3.0)
    ∙ sym (last_at c.args.n None c.args.numbers.now (c.count_upto-past.result - 1) (subst (LesserAreFirst (c.args.n + 1) c.args.numbers.now) some c.count_upto-past.ensures))
