use Rattle.std.proofs.Common.{subst}
use Rattle.gtrbac_model.specs.Period.{Period}
use Rattle.calendar_match.specs.Next.{turns}
use Rattle.instant_bases.specs.Nexts.{IsNextOf}
use Rattle.instant_bases.proofs.watches.WatchedPeriod.next_edge.Goals as goal

pub returns-in-Next : goal.returns-in-Next
returns-in-Next c =
    subst (λ (p : Period). IsNextOf (turns p) c.args.after c.in-Next.t) c.self.view_is (c.in-Next.ensures (turns c.self.inside.period) c.self.invariant.2)
