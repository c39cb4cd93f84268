-- What the judge's answers mean.
use Rattle.std.specs.Prelude.{◌≡◌, ℕ, List, length, slice_index}
use Rattle.least_walk.specs.Net.{Net, arcs_of, is_marked}
use Rattle.gtrbac_model.specs.Cycles.{HasNoCycle, IsLeastCycle, AreLevels}
use Rattle.safety_cycle.specs.declared.strata.Verdict.{Verdict}
use Rattle.safety_cycle.specs.declared.strata.Verdict.TheVariants.{Cycle, Memory}

-- each node has its level: levels do not fall along an edge and rise along a marked one, so no
-- cycle has a marked edge
pub record IsStratified (g : Net) (levels : List ℕ) : Type 0 where
  pub size : length levels ≡ g.nodes
  pub climbs : AreLevels (arcs_of g.edges) (is_marked g.edges) (slice_index levels)
  pub safe : HasNoCycle (arcs_of g.edges) (is_marked g.edges)

-- the cycle that is told is the least with a marked edge
abbrev pub IsVerdict : Net → Verdict → Type 0
IsVerdict g (Cycle edges) = IsLeastCycle (arcs_of g.edges) (is_marked g.edges) edges
IsVerdict g Memory = Unit {0}
