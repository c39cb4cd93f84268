use Rattle.gt_base.proofs.Rising.{search_found, search_absent}
use Rattle.gt_base.proofs.rows.find.Goals as goal

pub returns-clause-found : goal.returns-clause-found
returns-clause-found g c = search_found g.met.K.Ord.total _ _ _ c.requires c.binary_search.ensures.bound c.binary_search.ensures.position

pub returns-clause-absent : goal.returns-clause-absent
returns-clause-absent g c = search_absent g.met.K.Ord.total _ _ _ c.requires c.binary_search.ensures.bound c.binary_search.ensures.position
