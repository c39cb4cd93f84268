use Rattle.std.proofs.Common.{◌∙◌, ◌++◌, [], map, flat_map, ap, sym, subst}
use Rattle.gt_base.specs.Orders.{fluent_cmp}
use Rattle.gt_base.specs.Sets.{has, set_of, Rises}
use Rattle.gt_base.specs.Words.{fluents_of}
use Rattle.gt_base.specs.Flags.{set_of_parts}
use Rattle.gt_base.proofs.FlagLaws.{all_lit, members_rise}
use Rattle.gt_base.proofs.flags.gathered.Goals as goal

pub flags_of-requires-clause-rises : goal.flags_of-requires-clause-rises
flags_of-requires-clause-rises c =
    subst (Rises fluent_cmp) (sym c.in_ok-fluents.ensures) (members_rise (set_of (c.args.flags.now.known ++ flat_map fluents_of c.args.more.now)))

pub returns : goal.returns
returns c =
    ap (λ s. set_of_parts s []) c.in_ok-all.ensures
    ∙ all_lit c.args.flags.now c.args.more.now c.in_ok-fluents.fluents.items c.in_ok-on.on.items c.in_ok-fluents.ensures
    (c.in_ok-on.ensures ∙ ap (map (has (set_of_parts c.args.flags.now c.args.more.now))) c.deref.ensures.value)
