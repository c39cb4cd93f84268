use Rattle.std.proofs.Common.{sym}
use Rattle.gtrbac_model.specs.Period.{inside}
use Rattle.calendar_match.specs.Next.{IsNext, HasNone, outside, turns}
use Rattle.calendar_match.proofs.Moves.{some_by, none_by}
use Rattle.calendar_match.proofs.Edges.{edge_in, never_in, edge_out, never_out}
use Rattle.calendar_match.proofs.next.next_edge.Goals as goal

pub returns-then-inside-clause-some : goal.returns-then-inside-clause-some
returns-then-inside-clause-some c =
    let p = c.args.p.now in
    some_by c.outside_after.result (λ t. IsNext (outside p) c.args.after t) (λ t. IsNext (turns p) c.args.after t) (λ t n. edge_out p c.args.after t (sym c.if-inside.ensures) n) c.outside_after.ensures.some

pub returns-then-inside-clause-none : goal.returns-then-inside-clause-none
returns-then-inside-clause-none c =
    let p = c.args.p.now in
    none_by c.outside_after.result (HasNone (outside p) c.args.after) (HasNone (turns p) c.args.after) (λ n. never_out p c.args.after (sym c.if-inside.ensures) n) c.outside_after.ensures.none

pub returns-clause-some : goal.returns-clause-some
returns-clause-some c =
    let p = c.args.p.now in
    some_by c.next_inside.result (λ t. IsNext (inside p) c.args.after t) (λ t. IsNext (turns p) c.args.after t) (λ t n. edge_in p c.args.after t (sym c.if-inside.ensures) n) c.next_inside.ensures.some

pub returns-clause-none : goal.returns-clause-none
returns-clause-none c =
    let p = c.args.p.now in
    none_by c.next_inside.result (HasNone (inside p) c.args.after) (HasNone (turns p) c.args.after) (λ n. never_in p c.args.after (sym c.if-inside.ensures) n) c.next_inside.ensures.none
