use Rattle.std.proofs.Common.{◌∙◌}
use Rattle.gt_base.specs.declared.events.Fluent.TheVariants.{Granted}
use Rattle.gt_base.proofs.FlagLaws.{has_lit, known_but_for_words, some_so}
use Rattle.gt_base.proofs.flags.only_role_in.Goals as goal

pub returns-then-grant_nothing : goal.returns-then-grant_nothing
returns-then-grant_nothing c =
    some_so c.only_known.result
    (λ (role, on) flag alone. (
      flag.1 ∙ has_lit c.args.flags.now c.args.more.now (Granted c.args.perm role) c.requires.apart flag.0,
      λ r has. alone r (known_but_for_words c.args.flags.now c.args.more.now (Granted c.args.perm r) (c.grant_nothing.ensures c.if-grant_nothing.true c.args.perm r) has),
    )) c.only_known.ensures.flag c.only_known.ensures.alone
