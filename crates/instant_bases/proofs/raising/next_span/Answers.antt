use Rattle.std.proofs.Common.{◌+◌, nat_eq, ◌&&◌}
use Rattle.gtrbac_model.specs.Period.{inside}
use Rattle.calendar_match.specs.Next.{turns}
use Rattle.instant_bases.proofs.Nexts.{span_next}
use Rattle.instant_bases.proofs.raising.next_span.Goals as goal

pub returns-in-Some-clause-next : goal.returns-in-Some-clause-next
returns-in-Some-clause-next g c =
    let q = c.in-Some.p.now in
    span_next c.args.periods.now c.args.birth c.args.now c.args.e q c.earlier.result c.requires.span c.in-Some.ensures
    (c.earlier.ensures (turns q) (λ t. nat_eq t (c.args.birth + 1) && inside q t) c.args.now c.look_edge-edge.ensures.next c.first_minute.ensures.next)
