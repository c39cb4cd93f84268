use Rattle.std.proofs.Common.{◌≡◌, IfOk, IfSome, IfNone, ◌∙◌, ap, subst}
use Rattle.gtrbac_model.specs.Graph.{IsLeastWalk}
use Rattle.least_walk.specs.Net.{arcs_of, arcs_by, every}
use Rattle.least_walk.specs.Walks.{is_goal, HasNoWalk}
use Rattle.least_walk.proofs.Descending.{every_arc}
use Rattle.least_walk.proofs.walking.least_walk.Goals as goal

pub returns-clause-some : goal.returns-clause-some
returns-clause-some c =
    let same : arcs_by every c.edges-edges.result.now ≡ arcs_of c.args.g.now.edges = every_arc 0 c.edges-edges.result.now ∙ ap arcs_of c.edges-edges.ensures.edges in
    subst (λ arcs. IfOk c.least_open_walk.result (λ found. IfSome found (λ p. IsLeastWalk arcs (is_goal c.args.goal.now) c.args.from.now (record { start = p.start; arcs = p.edges })))) same c.least_open_walk.ensures.some

pub returns-clause-none : goal.returns-clause-none
returns-clause-none c =
    let same : arcs_by every c.edges-edges.result.now ≡ arcs_of c.args.g.now.edges = every_arc 0 c.edges-edges.result.now ∙ ap arcs_of c.edges-edges.ensures.edges in
    subst (λ arcs. IfOk c.least_open_walk.result (λ found. IfNone found (HasNoWalk arcs (is_goal c.args.goal.now) c.args.from.now))) same c.least_open_walk.ensures.none
