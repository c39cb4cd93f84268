use Rattle.std.proofs.Common.{◌||◌, ◌∙◌, ap, sym}
use Rattle.gt_base.specs.Sets.{has}
use Rattle.gt_base.specs.Words.{set_of_words}
use Rattle.gt_base.proofs.FlagLaws.{has_lit, has_parts, lit_of_known}
use Rattle.gt_base.proofs.flags.is_on_in.Goals as goal

pub returns-in-Some : goal.returns-in-Some
returns-in-Some c =
    c.in-Some.ensures.1 ∙ has_lit c.args.flags.now c.args.more.now c.args.f c.requires.apart c.in-Some.ensures.0

pub returns-in-None : goal.returns-in-None
returns-in-None c =
    let s = c.args.flags.now in
    c.is_on.ensures ∙ sym (has_parts s c.args.more.now c.args.f ∙ ap (λ b. b || has (set_of_words c.args.more.now) c.args.f) (lit_of_known s.known s.on c.args.f c.in-None.ensures))
