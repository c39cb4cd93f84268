use Rattle.std.proofs.Common.{◌∙◌, ◌++◌, flat_map, ap}
use Rattle.gt_base.specs.Happening.{Roomier, Fluents}
use Rattle.gt_base.specs.Orders.{fluent_cmp}
use Rattle.gt_base.specs.Sets.{members, set_of}
use Rattle.gt_base.specs.Words.{fluents_of}
use Rattle.gt_base.specs.Flags.{set_of_parts}
use Rattle.gt_base.proofs.sets.Status.fluents.Goals as goal

pub returns : goal.returns
unfolding set_of_parts
returns c =
    c.from.ensures ∙ c.ascending.ensures
    ∙ ap (λ fs. members (set_of {R = fluent_cmp} fs)) (c.in_ok-add_all.ensures ∙ (λ i. c.in_ok-fluents.ensures i ++ flat_map fluents_of (c.deref.ensures.value i)))
    ∙ ap (λ (v : Roomier Fluents). members v.set) c.self.view_is
