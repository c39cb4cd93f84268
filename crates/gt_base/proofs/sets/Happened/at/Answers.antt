use Rattle.std.proofs.Common.{refl, ◌≡◌, ◌∙◌, ◌<◌, length, ap, subst, sym}
use Rattle.std.proofs.lemmas.Option.{slice_get_read}
use Rattle.gt_base.specs.Sets.{members}
use Rattle.gt_base.specs.Orders.{prioritised_cmp}
use Rattle.gt_base.proofs.SetLaws.{members-set_of_rising}
use Rattle.gt_base.proofs.sets.Happened.at.Goals as goal

pub index-requires : goal.index-requires
index-requires c =
    let is : members c.args.self.now.set.events ≡ c.self.inside.events.items = ap (λ v. members v.set.events) (sym c.self.view_is) ∙ members-set_of_rising prioritised_cmp _ c.self.invariant.0 in
    let below : c.args.i < length c.self.inside.events.items = subst (λ xs. c.args.i < length xs) is c.requires in
    subst (λ n. c.args.i < n) (sym c.self.inside.events.ok.0) below

pub returns : goal.returns
returns c =
    let is : members c.args.self.now.set.events ≡ c.self.inside.events.items = ap (λ v. members v.set.events) (sym c.self.view_is) ∙ members-set_of_rising prioritised_cmp _ c.self.invariant.0 in
    let below : c.args.i < length c.self.inside.events.items = subst (λ xs. c.args.i < length xs) is c.requires in
    rw is (slice_get_read c.self.inside.events.items (length c.self.inside.events.items) c.args.i c.index.result.now refl below c.index.ensures)
