use Rattle.gt_base.proofs.Rising.{search_found, search_absent}
use Rattle.delay_agenda.specs.Order.{pending_cmp_total}
use Rattle.delay_agenda.proofs.rows.find.Goals as goal

pub returns-clause-found : goal.returns-clause-found
returns-clause-found c = search_found pending_cmp_total _ _ _ c.requires c.binary_search.ensures.bound c.binary_search.ensures.position

pub returns-clause-absent : goal.returns-clause-absent
returns-clause-absent c = search_absent pending_cmp_total _ _ _ c.requires c.binary_search.ensures.bound c.binary_search.ensures.position
