use Rattle.std.proofs.Common.{refl, ◌≡◌, ◌∙◌, ◌<◌, length, ap, subst, sym}
use Rattle.std.proofs.lemmas.Option.{slice_get_read}
use Rattle.gt_base.specs.Sets.{members}
use Rattle.gt_base.specs.Orders.{signal_cmp}
use Rattle.gt_base.proofs.SetLaws.{members-set_of_rising}
use Rattle.gt_base.proofs.sets.Happened.signal_at.Goals as goal

pub index-requires : goal.index-requires
index-requires c =
    let is : members c.args.self.now.set.signals ≡ c.self.inside.signals.items = ap (λ v. members v.set.signals) (sym c.self.view_is) ∙ members-set_of_rising signal_cmp _ c.self.invariant.1 in
    let below : c.args.i < length c.self.inside.signals.items = subst (λ xs. c.args.i < length xs) is c.requires in
    subst (λ n. c.args.i < n) (sym c.self.inside.signals.ok.0) below

pub returns : goal.returns
returns c =
    let is : members c.args.self.now.set.signals ≡ c.self.inside.signals.items = ap (λ v. members v.set.signals) (sym c.self.view_is) ∙ members-set_of_rising signal_cmp _ c.self.invariant.1 in
    let below : c.args.i < length c.self.inside.signals.items = subst (λ xs. c.args.i < length xs) is c.requires in
    rw is (slice_get_read c.self.inside.signals.items (length c.self.inside.signals.items) c.args.i c.index.result.now refl below c.index.ensures)
