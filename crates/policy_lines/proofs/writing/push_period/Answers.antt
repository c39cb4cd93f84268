use Rattle.std.proofs.Common.{◌++◌, ap, ◌∙◌}
use Rattle.policy_words.specs.Sayings.{said_words, period}
use Rattle.policy_lines.proofs.Written.{map_ok, led_is_spaced}
use Rattle.policy_lines.proofs.writing.push_period.Goals as goal

pub returns : goal.returns
returns c =
    map_ok c.write_period.result c.write_period.ensures
    (λ e. e ∙ ap (λ t. c.args.text.now.items ++ t) (led_is_spaced (said_words (period c.args.name.now c.args.first c.args.last c.args.expr.now))))
