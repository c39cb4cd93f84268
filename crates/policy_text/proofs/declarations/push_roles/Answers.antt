use Rattle.std.proofs.Common.{◌<◌, ◌≤◌, length, append-nil, refl, sym, subst}
use Rattle.policy_words.specs.Sayings.{role}
use Rattle.policy_text.specs.Sections.{line_text}
use Rattle.policy_text.proofs.Runs.{next_name, further, whole_run}
use Rattle.policy_text.proofs.declarations.push_roles.Goals as goal

pub loop-r-init : goal.loop-r-init
loop-r-init c = sym (append-nil _)

pub push_role-requires : goal.push_role-requires
push_role-requires c = subst (λ n. c.loop-r.r < n) c.role_count-r-end.ensures.names c.loop-r-test.true

pub loop-r-preserved : goal.loop-r-preserved
loop-r-preserved c =
    let below : c.loop-r.r < length c.args.p.now.names.roles = subst (λ n. c.loop-r.r < n) c.role_count-r-end.ensures.names c.loop-r-test.true in
    further (λ n. line_text (role n)) c.args.p.now.names.roles c.loop-r.r _ _ _ _ (next_name c.args.p.now.names.roles c.loop-r.r below) c.loop-r.invariant c.in_ok-push_role.ensures

pub returns : goal.returns
returns c =
    whole_run (λ n. line_text (role n)) c.args.p.now.names.roles c.args.p.now.names.roles c.loop-r.r _ _ refl
    (subst (λ n. n ≤ c.loop-r.r) c.role_count-r-end.ensures.names c.loop-r-test.false) c.loop-r.invariant
