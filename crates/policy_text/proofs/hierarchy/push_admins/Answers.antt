use Rattle.std.proofs.Common.{append-nil, sym, ◌∙◌}
use Rattle.std.specs.Prelude.{nat_lt}
use Rattle.std.proofs.lemmas.Bool.{ltb-true}
use Rattle.gtrbac_model.proofs.Elements.{both_true}
use Rattle.policy_text.specs.Sections.{line_text, admin_line}
use Rattle.policy_text.proofs.Runs.{next_at, further, passes_at, whole_run}
use Rattle.policy_text.proofs.hierarchy.push_admins.Goals as goal

pub loop-u-init : goal.loop-u-init
loop-u-init c = sym (append-nil _)

pub push_admin-requires : goal.push_admin-requires
push_admin-requires c =
    let p = c.args.p.now.policy in
    ltb-true _ _ (passes_at (λ u. nat_lt u.0 p.users) c.as_slice-admins.result.now p.admins c.loop-u.u-index _ (both_true _ _ c.keeps.ensures.policy.admins).0 (c.as_slice-admins.ensures ∙ c.admins.ensures) c.loop-u-test.true)

pub loop-u-preserved : goal.loop-u-preserved
loop-u-preserved c =
    let admins = c.args.p.now.policy.admins in
    let next = next_at c.as_slice-admins.result.now admins c.loop-u.u-index _ (c.as_slice-admins.ensures ∙ c.admins.ensures) c.loop-u-test.true in
    further (λ x. line_text (admin_line c.args.p.now.names x)) admins c.loop-u.u-index _ _ _ _ next c.loop-u.invariant c.in_ok-push_admin.ensures

pub returns : goal.returns
returns c =
    whole_run (λ x. line_text (admin_line c.args.p.now.names x)) c.as_slice-admins.result.now c.args.p.now.policy.admins c.loop-u.u-index _ _ (c.as_slice-admins.ensures ∙ c.admins.ensures) c.loop-u-test.false c.loop-u.invariant
