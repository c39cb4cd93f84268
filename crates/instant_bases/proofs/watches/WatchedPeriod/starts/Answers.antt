use Rattle.std.proofs.Common.{◌∙◌, ap}
use Rattle.gtrbac_model.specs.Period.{Period, starts as test}
use Rattle.instant_bases.proofs.watches.WatchedPeriod.starts.Goals as goal

pub returns-in-Some : goal.returns-in-Some
returns-in-Some c = c.in-Some.ensures (test c.self.inside.period) c.self.invariant.1 ∙ ap (λ (p : Period). test p c.args.t) c.self.view_is
