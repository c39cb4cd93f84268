use Rattle.std.proofs.Common.{◌<◌, ◌≤◌, length, append-nil, refl, sym, subst}
use Rattle.policy_words.specs.Sayings.{perm}
use Rattle.policy_text.specs.Sections.{line_text}
use Rattle.policy_text.proofs.Runs.{next_name, further, whole_run}
use Rattle.policy_text.proofs.declarations.push_perms.Goals as goal

pub loop-q-init : goal.loop-q-init
loop-q-init c = sym (append-nil _)

pub push_perm-requires : goal.push_perm-requires
push_perm-requires c = subst (λ n. c.loop-q.q < n) c.perm_count-q-end.ensures.names c.loop-q-test.true

pub loop-q-preserved : goal.loop-q-preserved
loop-q-preserved c =
    let below : c.loop-q.q < length c.args.p.now.names.perms = subst (λ n. c.loop-q.q < n) c.perm_count-q-end.ensures.names c.loop-q-test.true in
    further (λ n. line_text (perm n)) c.args.p.now.names.perms c.loop-q.q _ _ _ _ (next_name c.args.p.now.names.perms c.loop-q.q below) c.loop-q.invariant c.in_ok-push_perm.ensures

pub returns : goal.returns
returns c =
    whole_run (λ n. line_text (perm n)) c.args.p.now.names.perms c.args.p.now.names.perms c.loop-q.q _ _ refl
    (subst (λ n. n ≤ c.loop-q.q) c.perm_count-q-end.ensures.names c.loop-q-test.false) c.loop-q.invariant
