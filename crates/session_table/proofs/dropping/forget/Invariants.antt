use Rattle.std.proofs.Common.{◌≡◌, not, ◌&&◌, map, count_by, take}
use Rattle.std.specs.List.{list_any}
use Rattle.gt_base.specs.declared.events.RoleId.{RoleId}
use Rattle.gt_base.specs.declared.events.SessionId.{SessionId}
use Rattle.gtrbac_model.specs.Sessions.{is_active_in}
use Rattle.session_table.specs.declared.opened.Open.{Open}
use Rattle.session_table.specs.Opened.{opened, still_open, role_in}
use Rattle.session_table.proofs.dropping.forget.Given as goal

abbrev pub invariant-loop-a : goal.invariant-loop-a
invariant-loop-a l = record {
  same : map opened l.sessions.items ≡ map opened l.initial.sessions.items;
  roles : (n : SessionId) (r : RoleId) → role_in l.sessions.items n r ≡ (not (list_any (is_active_in n r) (take l.a-index l.gone)) && role_in l.initial.sessions.items n r);
  standing : map opened (still_open l.sessions.items) ≡ map opened (still_open l.initial.sessions.items);
  count : count_by (λ (o : Open). o.is_open) l.sessions.items ≡ count_by (λ (o : Open). o.is_open) l.initial.sessions.items;
}
