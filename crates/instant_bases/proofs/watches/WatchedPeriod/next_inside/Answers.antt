use Rattle.std.proofs.Common.{subst}
use Rattle.gtrbac_model.specs.Period.{Period, inside}
use Rattle.instant_bases.specs.Nexts.{IsNextOf}
use Rattle.instant_bases.proofs.watches.WatchedPeriod.next_inside.Goals as goal

pub returns-in-Next : goal.returns-in-Next
returns-in-Next c =
    subst (λ (p : Period). IsNextOf (inside p) c.args.after c.in-Next.t) c.self.view_is (c.in-Next.ensures (inside c.self.inside.period) c.self.invariant.0)
