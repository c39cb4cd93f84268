use Rattle.std.proofs.Common.{◌≡◌, ◌++◌, take}
use Rattle.std.specs.Prelude.{flat_map}
use Rattle.gtrbac_model.specs.Base.{raised_by}
use Rattle.why_check.proofs.periods.push_periodic.Given as goal

-- what the entries so far raise has been added
abbrev pub invariant-loop-e : goal.invariant-loop-e
invariant-loop-e l = l.raised.items ≡ l.initial.raised.items ++ flat_map (raised_by l.periods l.birth l.t) (take l.e-index l.entries)
