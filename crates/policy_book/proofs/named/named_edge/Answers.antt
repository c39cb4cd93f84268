use Rattle.std.proofs.Common.{◌∙◌}
use Rattle.policy_book.proofs.Back.{named_by}
use Rattle.policy_book.proofs.named.named_edge.Goals as goal

pub returns : goal.returns
returns c = named_by c.args.p.now c.keeps.ensures c.args.n c.requires c.as_slice-edges.result.now _ (c.as_slice-edges.ensures ∙ c.edges.ensures) c.role_name.result c.role_name-2.result c.role_name.ensures c.role_name-2.ensures
