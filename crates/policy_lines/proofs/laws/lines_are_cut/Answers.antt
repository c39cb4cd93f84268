use Rattle.policy_lines.proofs.CutLines.{cut_lines, one_line}
use Rattle.policy_lines.proofs.laws.lines_are_cut.Goals as goal

pub returns : goal.returns
returns c = record { cut = cut_lines; one_line = one_line }
