use Rattle.std.proofs.Common.{◌<◌, ◌≤◌, length, append-nil, refl, sym, subst}
use Rattle.policy_words.specs.Sayings.{user}
use Rattle.policy_text.specs.Sections.{line_text}
use Rattle.policy_text.proofs.Runs.{next_name, further, whole_run}
use Rattle.policy_text.proofs.declarations.push_users.Goals as goal

pub loop-u-init : goal.loop-u-init
loop-u-init c = sym (append-nil _)

pub push_user-requires : goal.push_user-requires
push_user-requires c = subst (λ n. c.loop-u.u < n) c.user_count-u-end.ensures.names c.loop-u-test.true

pub loop-u-preserved : goal.loop-u-preserved
loop-u-preserved c =
    let below : c.loop-u.u < length c.args.p.now.names.users = subst (λ n. c.loop-u.u < n) c.user_count-u-end.ensures.names c.loop-u-test.true in
    further (λ n. line_text (user n)) c.args.p.now.names.users c.loop-u.u _ _ _ _ (next_name c.args.p.now.names.users c.loop-u.u below) c.loop-u.invariant c.in_ok-push_user.ensures

pub returns : goal.returns
returns c =
    whole_run (λ n. line_text (user n)) c.args.p.now.names.users c.args.p.now.names.users c.loop-u.u _ _ refl
    (subst (λ n. n ≤ c.loop-u.u) c.user_count-u-end.ensures.names c.loop-u-test.false) c.loop-u.invariant
