use Rattle.std.proofs.Common.{sym, ◌∙◌}
use Rattle.gt_text.proofs.Counted.{number_to_count}
use Rattle.gt_text.proofs.numbers.number_to.Goals as goal

pub returns-then-is_plain : goal.returns-then-is_plain
returns-then-is_plain c = c.counted_to.ensures ∙ number_to_count c.args.most c.args.text.now (sym c.if-is_plain.ensures)
