use Rattle.std.proofs.Common.{◌≡◌, ◌<◌, ◌∙◌, ap, length, get_or, arith}
use Rattle.policy_words.specs.CapKinds.{no_caps}
use Rattle.policy_text.specs.Sections.{caps_text, numbered}
use Rattle.policy_text.proofs.Runs.{next_in, further, all_run}
use Rattle.policy_text.proofs.hierarchy.push_caps.Goals as goal

pub loop-r-preserved : goal.loop-r-preserved
loop-r-preserved c =
    let caps = c.args.p.now.policy.caps in
    let read = c.as_slice-caps.result.now in
    let same : c.as_slice-caps.result.now ≡ c.args.p.now.policy.caps = c.as_slice-caps.ensures ∙ c.caps.ensures in
    let below : c.loop-r.r < length c.as_slice-caps.result.now = omega (arith, ap length same, c.keeps.ensures.policy.caps_a_role) in
    further (caps_text c.args.p.now.names) (numbered caps) c.loop-r.r (c.loop-r.r, get_or read c.loop-r.r no_caps) _ _ _ (next_in read caps c.loop-r.r no_caps same below) c.loop-r.invariant c.in_ok-push_role_caps.ensures

pub returns : goal.returns
returns c = all_run (caps_text c.args.p.now.names) c.args.p.now.policy.caps c.loop-r.r _ _ (omega (arith, c.keeps.ensures.policy.caps_a_role)) c.loop-r.invariant
