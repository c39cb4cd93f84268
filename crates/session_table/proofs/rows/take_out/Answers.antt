use Rattle.std.proofs.Common.{rules, of_calls, not, ◌≡◌, filter}
use Rattle.std.proofs.lemmas.Fn.{filter_same}
use Rattle.std.specs.Ordering.{eq_by_cmp}
use Rattle.gt_base.proofs.Rising.{filter_rises, set_of_filtered}
use Rattle.session_table.specs.RoleSets.{role_cmp}
use Rattle.session_table.proofs.RoleOrder.{role_cmp_total}
use Rattle.session_table.proofs.rows.take_out.Goals as goal

pub returns-clause-rises : goal.returns-clause-rises
returns-clause-rises c =
    let kept : c.retain.new.self.items ≡ filter (λ x. not (eq_by_cmp role_cmp c.args.k x)) c.args.items.now.items =
    filter_same _ (λ x. not (eq_by_cmp role_cmp c.args.k x)) _ (λ x b f h. search (rules, of_calls)) _ _ c.retain.ensures.filtered in
    rw kept (filter_rises role_cmp_total (λ x. not (eq_by_cmp role_cmp c.args.k x)) c.args.items.now.items c.requires)

pub returns-clause-set : goal.returns-clause-set
returns-clause-set c =
    let kept : c.retain.new.self.items ≡ filter (λ x. not (eq_by_cmp role_cmp c.args.k x)) c.args.items.now.items =
    filter_same _ (λ x. not (eq_by_cmp role_cmp c.args.k x)) _ (λ x b f h. search (rules, of_calls)) _ _ c.retain.ensures.filtered in
    rw kept (set_of_filtered role_cmp_total (λ x. not (eq_by_cmp role_cmp c.args.k x)) c.args.items.now.items c.requires)
