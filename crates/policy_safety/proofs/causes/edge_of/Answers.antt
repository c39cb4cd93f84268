use Rattle.std.proofs.Common.{slice_get, ap, sym, ◌∙◌}
use Rattle.least_walk.specs.Net.{Net}
use Rattle.policy_safety.proofs.Causing.{edge_told}
use Rattle.policy_safety.proofs.causes.edge_of.Goals as goal

pub returns : goal.returns
returns c = λ rs of. edge_told c.args.g.now rs of c.args.n c.edge-e.result c.place-trigger.result c.event.result c.event-2.result (ap (λ (g : Net). slice_get g.edges c.args.n) (sym c.graph-2.ensures) ∙ c.edge-e.ensures) c.place-trigger.ensures c.event.ensures c.event-2.ensures
