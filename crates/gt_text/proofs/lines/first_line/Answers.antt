use Rattle.std.proofs.Common.{sym, ◌∙◌}
use Rattle.gt_text.proofs.Cut.{lines_at, lines_nowhere}
use Rattle.gt_text.proofs.lines.first_line.Goals as goal

pub returns-in-None : goal.returns-in-None
returns-in-None c = lines_nowhere c.args.text.now (sym c.is_empty.ensures ∙ c.if-is_empty.false) c.in-None.ensures

pub returns-in-Some : goal.returns-in-Some
returns-in-Some c =
    let found = c.in-Some.ensures in
    rw c.split_at.ensures.back (lines_at c.args.text.now c.in-Some.end found.0.high found.1 found.0.before)
