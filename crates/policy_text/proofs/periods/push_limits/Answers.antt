use Rattle.std.proofs.Common.{◌≡◌, ◌<◌, ◌∙◌, ap, length, arith}
use Rattle.policy_words.specs.Canonical.{limit_line}
use Rattle.policy_text.specs.Sections.{line_text, numbered}
use Rattle.policy_text.proofs.Runs.{next_read, further, all_run}
use Rattle.policy_text.proofs.periods.push_limits.Goals as goal

pub loop-n-preserved : goal.loop-n-preserved
loop-n-preserved c =
    let limits = c.args.p.now.policy.limits in
    let same : c.as_slice-limits.result.now ≡ limits = c.as_slice-limits.ensures ∙ c.limits.ensures in
    let below : c.loop-n.n < length c.as_slice-limits.result.now = omega (arith, ap length same) in
    further (λ e. line_text (limit_line c.args.p.now.names e)) (numbered limits) c.loop-n.n (c.loop-n.n, c.index-limits-n.result) _ _ _
    (next_read c.as_slice-limits.result.now limits c.loop-n.n c.index-limits-n.result same below c.index-limits-n.is) c.loop-n.invariant c.in_ok-push_limit.ensures

pub returns : goal.returns
returns c = all_run (λ e. line_text (limit_line c.args.p.now.names e)) c.args.p.now.policy.limits c.loop-n.n _ _ (omega arith) c.loop-n.invariant
