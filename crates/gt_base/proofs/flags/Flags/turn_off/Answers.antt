use Rattle.std.proofs.Common.{◌<◌, ◌≡◌, ◌&&◌, not, length, ◌∙◌, ap, sym, subst}
use Rattle.std.specs.Arc.{arc_value}
use Rattle.std.specs.List.{HoldsAt}
use Rattle.std.specs.Ordering.{eq_by_cmp}
use Rattle.gt_base.specs.Orders.{fluent_cmp}
use Rattle.gt_base.specs.Flags.{Flagged, flagged, is_among, is_lit, none_or}
use Rattle.gt_base.proofs.FlagLaws.{lit_without, without_unknown, among_at}
use Rattle.gt_base.proofs.flags.Flags.turn_off.Goals as goal

pub returns-in-Some-clause-without : goal.returns-in-Some-clause-without
returns-in-Some-clause-without c x =
    let ks = none_or arc_value c.self.inside.known in
    let there = subst (λ (v : Flagged). (c.in-Some.at < length v.known) × HoldsAt (λ k. k ≡ c.args.f) v.known c.in-Some.at) (sym c.self.view_is) c.in-Some.ensures in
    ap (λ bs. is_among (flagged ks bs) x) c.put_flag.ensures ∙ lit_without ks c.self.inside.on.items c.args.f c.in-Some.at x c.self.invariant.0 c.self.invariant.1 there.0 there.1
    ∙ ap (λ (v : Flagged). is_lit v x && not (eq_by_cmp fluent_cmp c.args.f x)) c.self.view_is

pub returns-in-None-clause-without : goal.returns-in-None-clause-without
returns-in-None-clause-without c = without_unknown c.args.self.now c.args.f c.in-None.ensures

pub returns-in-Some-clause-known : goal.returns-in-Some-clause-known
returns-in-Some-clause-known c _ = among_at c.args.self.now.known c.args.f c.in-Some.at c.in-Some.ensures.0 c.in-Some.ensures.1
