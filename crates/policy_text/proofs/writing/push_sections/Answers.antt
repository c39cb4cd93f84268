use Rattle.policy_text.proofs.Whole.{in_sections, five}
use Rattle.policy_text.proofs.writing.push_sections.Goals as goal

pub returns : goal.returns
returns c =
    five _ _ _ _ _ _ _ _ _ _ _ _ c.push_ruled.result (in_sections c.args.p.now) c.in_ok-push_named.ensures c.in_ok-push_timed.ensures c.in_ok-push_ranked.ensures c.in_ok-push_opened.ensures c.push_ruled.ensures
