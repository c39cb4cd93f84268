use Rattle.walk_laws.proofs.Linked.{lends, allows, shut, arcs_by_roles}
use Rattle.walk_laws.proofs.dependencies.linked_edges.Goals as goal

pub returns : goal.returns
returns c = record { lends = lends; allows = allows; shut = shut; arcs = arcs_by_roles }
