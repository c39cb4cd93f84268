use Rattle.std.proofs.Common.{◌++◌, ap, ◌∙◌}
use Rattle.policy_lines.proofs.Written.{map_ok, led_is_spaced}
use Rattle.policy_lines.proofs.writing.push_said.Goals as goal

pub returns : goal.returns
returns c = map_ok c.write_said.result c.write_said.ensures (λ e. e ∙ ap (λ t. c.args.text.now.items ++ t) (led_is_spaced _))
