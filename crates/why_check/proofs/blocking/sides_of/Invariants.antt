use Rattle.std.proofs.Common.{take}
use Rattle.why_check.specs.Peaks.{ArePeaks, peak_in, sides_in}
use Rattle.why_check.proofs.blocking.sides_of.Given as goal

-- the peaks of the events so far
abbrev pub invariant-loop-o : goal.invariant-loop-o
invariant-loop-o l = ArePeaks (take l.o-index l.events) (peak_in (sides_in l.sides))
