use Rattle.std.proofs.Common.{◌<◌, ◌≡◌, false, length, get_or, ◌∙◌, ap, sym, subst}
use Rattle.std.specs.Arc.{arc_value}
use Rattle.std.specs.List.{HoldsAt}
use Rattle.gt_base.specs.Flags.{Flagged, is_lit, none_or}
use Rattle.gt_base.proofs.FlagLaws.{lit_at, among_at}
use Rattle.gt_base.proofs.flags.Flags.flag_at.Goals as goal

pub returns : goal.returns
returns c f at =
    let there = subst (λ (v : Flagged). (c.args.at < length v.known) × HoldsAt (λ k. k ≡ f) v.known c.args.at) (sym c.self.view_is) (c.requires, at) in (
      among_at c.args.self.now.known f c.args.at c.requires at,
      c.flag_at.ensures ∙ ap (λ bs. get_or bs c.args.at false) c.deref.ensures.value
          ∙ sym (lit_at (none_or arc_value c.self.inside.known) c.self.inside.on.items f c.args.at false c.self.invariant.0 c.self.invariant.1 there.0 there.1)
          ∙ ap (λ (v : Flagged). is_lit v f) c.self.view_is,
    )
