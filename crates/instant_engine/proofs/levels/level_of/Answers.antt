use Rattle.std.proofs.Common.{Some, slice_index, ap, ◌∙◌}
use Rattle.instant_engine.proofs.Places.{the_place}
use Rattle.instant_engine.proofs.levels.level_of.Goals as goal

pub returns-in-Some : goal.returns-in-Some
returns-in-Some c = λ _.
    ap (λ k. Some k) (c.level.ensures ∙ ap (λ v. slice_index c.args.s.now v) (the_place c.args.g.now.events c.in-Some.node c.args.e c.requires.net.apart c.in-Some.ensures))
