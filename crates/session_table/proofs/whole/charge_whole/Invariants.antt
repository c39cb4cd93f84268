use Rattle.std.proofs.Common.{◌≡◌, ℕ, ◌+◌, ◌≤◌, ◌&&◌, cond, count_by, nat_le, nat_lt, length, take}
use Rattle.std.specs.Prelude.{vec_len, vec_capacity}
use Rattle.gt_base.specs.declared.events.RoleId.{RoleId}
use Rattle.gt_base.specs.declared.events.UserId.{UserId}
use Rattle.gtrbac_model.specs.Sessions.{is_of}
use Rattle.session_table.specs.Charges.{covering}
use Rattle.session_table.specs.ChargedDays.{AllBefore}
use Rattle.session_table.proofs.whole.charge_whole.Given as goal

abbrev pub invariant-loop-a : goal.invariant-loop-a
invariant-loop-a l = record {
  days : (u : UserId) (r : RoleId) (d : ℕ) → covering l.stretches.items u r d ≡ covering l.initial.stretches.items u r d + cond (nat_le l.first d && nat_lt d l.past) (count_by (is_of u r) (take l.a-index l.active)) 0;
  before : (day : ℕ) → l.past ≤ day → AllBefore day l.initial.stretches.items → AllBefore day l.stretches.items;
  room : vec_len l.stretches + length l.active ≤ vec_capacity l.stretches + l.a-index;
}
