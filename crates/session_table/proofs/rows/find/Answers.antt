use Rattle.gt_base.proofs.Rising.{search_found, search_absent}
use Rattle.session_table.proofs.RoleOrder.{role_cmp_total}
use Rattle.session_table.proofs.rows.find.Goals as goal

pub returns-clause-found : goal.returns-clause-found
returns-clause-found c = search_found role_cmp_total _ _ _ c.requires c.binary_search.ensures.bound c.binary_search.ensures.position

pub returns-clause-absent : goal.returns-clause-absent
returns-clause-absent c = search_absent role_cmp_total _ _ _ c.requires c.binary_search.ensures.bound c.binary_search.ensures.position
