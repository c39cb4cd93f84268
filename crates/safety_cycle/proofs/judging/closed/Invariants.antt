use Rattle.std.proofs.Common.{◌≡◌, ◌∷◌, take}
use Rattle.safety_cycle.proofs.judging.closed.Given as goal

abbrev pub invariant-loop-m : goal.invariant-loop-m
invariant-loop-m l = l.edges ≡ l.n ∷ take l.m-index l.m-items
