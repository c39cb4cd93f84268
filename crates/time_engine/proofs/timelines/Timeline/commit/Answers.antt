use Rattle.std.proofs.Common.{◌∙◌, sym, subst}
use Rattle.time_engine.specs.Kept.{view_of}
use Rattle.time_engine.specs.Plans.{TimelineValue, Fits}
use Rattle.time_engine.proofs.Following.{after_kept}
use Rattle.time_engine.proofs.timelines.Timeline.commit.Goals as goal

pub invariant_of-self : goal.invariant_of-self
invariant_of-self c = (
  after_kept (view_of c.self.inside.state) (view_of c.follow.new.s) c.args.p c.self.invariant.0 (subst (λ (v : TimelineValue). Fits v.line c.args.p) (sym c.self.view_is) c.requires.fits) c.follow.ensures.after,
  c.follow.ensures.quiet ∙ c.self.invariant.1,
)
