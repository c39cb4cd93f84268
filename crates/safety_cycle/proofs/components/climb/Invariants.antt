use Rattle.std.proofs.Common.{◌≡◌, vec_len}
use Rattle.safety_cycle.proofs.components.climb.Given as goal

abbrev pub invariant-loop-v-2 : goal.invariant-loop-v-2
invariant-loop-v-2 l = vec_len l.levels ≡ l.v
