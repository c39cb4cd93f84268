use Rattle.gt_base.proofs.SetLaws.{members-set_of_rising}
use Rattle.session_table.specs.RoleSets.{role_cmp}
use Rattle.session_table.proofs.roles.Roles.as_slice.Goals as goal

pub returns-clause-value : goal.returns-clause-value
returns-clause-value c = rw (← c.self.view_is, members-set_of_rising role_cmp _ c.self.invariant) c.deref.ensures.value

pub returns-clause-rises : goal.returns-clause-rises
returns-clause-rises c = rw c.deref.ensures.value c.self.invariant
