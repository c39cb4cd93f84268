use Rattle.gt_base.specs.Orders.{fluent_eq}
use Rattle.indexmap.specs.IndexMap.{get}
use Rattle.why_check.proofs.Noting.{none_noted}
use Rattle.why_check.proofs.sides.SideTable.new.Goals as goal

pub returns : goal.returns
returns c = none_noted _ c.in_ok-roles.roles.items (get fluent_eq c.in_ok-others.others) c.in_ok-roles.ensures c.in_ok-others.ensures
