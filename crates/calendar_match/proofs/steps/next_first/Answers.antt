use Rattle.std.proofs.Common.{arith}
use Rattle.calendar_match.proofs.Passing.{ahead_end}
use Rattle.calendar_match.proofs.steps.next_first.Goals as goal

pub returns-else-start_of-m : goal.returns-else-start_of-m
returns-else-start_of-m c = rw c.end_of.ensures (ahead_end c.args.c c.args.m c.requires.low (λ e. omega arith))
