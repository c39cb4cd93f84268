use Rattle.std.proofs.Common.{◌≡◌, ◌+◌, false, ap, sym, ◌∙◌}
use Rattle.gtrbac_model.specs.Period.{starts, inside}
use Rattle.calendar_match.specs.Next.{IsLeast, IsNever}
use Rattle.calendar_match.proofs.Moves.{inside_by_start, inside_never, some_by, none_by}
use Rattle.calendar_match.proofs.next.inside_from.Goals as goal

pub returns-clause-some : goal.returns-clause-some
returns-clause-some c =
    let p = c.args.p.now in
    let start = c.within-start.result in
    let out : inside p start ≡ false = ap (inside p) (sym c.in-Some.ensures.some) ∙ sym c.inside.ensures ∙ c.if-inside.false in
    some_by c.start_from.result (IsLeast (starts p) (start + 1)) (IsLeast (inside p) c.args.from)
    (λ t n. inside_by_start p c.args.from start t c.start_from.ensures.valid c.within-start.ensures.start out n) c.start_from.ensures.some

pub returns-clause-none : goal.returns-clause-none
returns-clause-none c =
    let p = c.args.p.now in
    let start = c.within-start.result in
    let out : inside p start ≡ false = ap (inside p) (sym c.in-Some.ensures.some) ∙ sym c.inside.ensures ∙ c.if-inside.false in
    none_by c.start_from.result (IsNever (starts p) (start + 1)) (IsNever (inside p) c.args.from)
    (λ n. inside_never p c.args.from start c.start_from.ensures.valid c.within-start.ensures.start out n) c.start_from.ensures.none
