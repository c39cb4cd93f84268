use Rattle.std.proofs.Common.{sym, ◌∙◌}
use Rattle.policy_text.proofs.ToldTexts.{line_fault}
use Rattle.policy_text.proofs.policies.told_text.Goals as goal

pub returns : goal.returns
returns c = line_fault c.args.text.now c.args.fault _ (sym c.is_wanting.ensures ∙ c.if-is_wanting.false) c.requires c.in_ok-line_fault.ensures
