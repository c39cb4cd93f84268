use Rattle.std.proofs.Common.{◌≡◌, ◌-◌, ◌+◌, length, slice_get, Some, ap, sym, ◌∙◌}
use Rattle.std.specs.Option.{option_copied}
use Rattle.gt_base.specs.Sets.{members}
use Rattle.gtrbac_model.specs.Conflict.{greatest_below, stands_at}
use Rattle.priority_conflict.proofs.Blocking.{looked_up, none_stands, under_last}
use Rattle.priority_conflict.proofs.conflicts.strongest.Goals as goal

pub returns-in-Some : goal.returns-in-Some
returns-in-Some c =
    let x = c.args.x.now.set in
    let last : slice_get (members x.events) (length (members x.events) - 1) ≡ Some c.in-Some.last.now = ap (λ ks. slice_get ks (length ks - 1)) (sym c.events.ensures) ∙ sym c.in-Some.ensures.value in
    looked_up x c.args.e c.in-Some.last.now.prio _ (under_last x c.in-Some.last.now last)
    (c.greatest.ensures ∙ ap (λ n. greatest_below (stands_at x c.args.e) (n + 1)) c.get.ensures.value)

pub returns-in-None : goal.returns-in-None
returns-in-None c =
    none_stands c.args.x.now.set c.args.e
    (ap (λ ks. slice_get ks (length ks - 1)) (sym c.events.ensures) ∙ sym c.last.ensures.value ∙ ap option_copied c.in-None.is)
