use Rattle.std.proofs.Common.{ap, ◌∙◌}
use Rattle.std.proofs.lemmas.List.{take_all}
use Rattle.policy_book.specs.Nets.{net_of}
use Rattle.policy_book.proofs.finding.graph_of.Goals as goal

pub returns : goal.returns
returns c = c.loop-edge.invariant ∙ ap (net_of c.args.roles) (take_all c.loop-edge.edge-index c.args.edges.now c.loop-edge-test.false)
