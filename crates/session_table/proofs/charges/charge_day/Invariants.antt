use Rattle.std.proofs.Common.{◌≡◌, ℕ, ◌+◌, ◌*◌, ◌≤◌, cond, count_by, nat_eq, take}
use Rattle.indexmap.specs.IndexMap.{spare}
use Rattle.gt_base.specs.declared.events.RoleId.{RoleId}
use Rattle.gt_base.specs.declared.events.UserId.{UserId}
use Rattle.gtrbac_model.specs.Sessions.{is_of}
use Rattle.session_table.specs.Charges.{charged_by_rows}
use Rattle.session_table.proofs.charges.charge_day.Given as goal

abbrev pub invariant-loop-a : goal.invariant-loop-a
invariant-loop-a l = record {
  charged : (u : UserId) (r : RoleId) (d : ℕ) → charged_by_rows l.charges.entries u r d ≡ charged_by_rows l.initial.charges.entries u r d + cond (nat_eq l.day d) (l.minutes * count_by (is_of u r) (take l.a-index l.active)) 0;
  room : spare l.initial.charges ≤ spare l.charges + l.a-index;
}
