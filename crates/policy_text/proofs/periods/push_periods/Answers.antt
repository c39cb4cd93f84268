use Rattle.std.proofs.Common.{arith}
use Rattle.policy_words.specs.Canonical.{period_line}
use Rattle.policy_text.specs.Sections.{line_text, numbered}
use Rattle.policy_text.proofs.Runs.{next_got, further, all_run}
use Rattle.policy_text.proofs.periods.push_periods.Goals as goal

pub loop-n-preserved : goal.loop-n-preserved
loop-n-preserved c =
    let periods = c.args.p.now.policy.periods in
    further (λ e. line_text (period_line c.args.p.now.names e)) (numbered periods) c.loop-n.n (c.loop-n.n, c.period.result.now) _ _ _
    (next_got periods c.loop-n.n c.period.result.now c.period.ensures) c.loop-n.invariant c.in_ok-push_period_line.ensures

pub returns : goal.returns
returns c = all_run (λ e. line_text (period_line c.args.p.now.names e)) c.args.p.now.policy.periods c.loop-n.n _ _ (omega arith) c.loop-n.invariant
