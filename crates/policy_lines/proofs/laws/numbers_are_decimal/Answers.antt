use Rattle.gt_text.proofs.Decimals.{numbers_are_decimal}
use Rattle.policy_lines.proofs.laws.numbers_are_decimal.Goals as goal

pub returns : goal.returns
returns c = numbers_are_decimal
