use Rattle.std.proofs.Common.{ap, sym, refl, ◌∙◌, arith}
use Rattle.gt_base.specs.Sets.{has}
use Rattle.gt_base.proofs.SetLaws.{has-with_member}
use Rattle.gt_base.proofs.SetSteps.{prioritised_cmp_total}
use Rattle.delay_agenda.proofs.DueLaws.{and_left}
use Rattle.delay_agenda.proofs.FarLaws.{told_one, told_none, due_more, due_same}
use Rattle.delay_agenda.proofs.far.tell_one.Goals as goal

pub add-requires : goal.add-requires
add-requires c =
    let is = due_more c.args.near.now.set c.args.p.now c.args.more.now c.args.t (sym c.is_more_due.ensures ∙ c.if-is_more_due.true) in
    omega (arith, is, c.requires)

pub returns-then-is_more_due-clause-events : goal.returns-then-is_more_due-clause-events
returns-then-is_more_due-clause-events c e =
    told_one c.args.near.now.set c.args.p.now c.args.more.now c.args.t e _ _ _ (and_left _ _ (sym c.is_more_due.ensures ∙ c.if-is_more_due.true))
    (ap (λ v. has v e) c.add.ensures.events ∙ has-with_member prioritised_cmp_total _ _ e) refl

pub returns-then-is_more_due-clause-spare : goal.returns-then-is_more_due-clause-spare
returns-then-is_more_due-clause-spare c =
    let is = due_more c.args.near.now.set c.args.p.now c.args.more.now c.args.t (sym c.is_more_due.ensures ∙ c.if-is_more_due.true) in
    omega (arith, is, c.add.ensures.spare)

pub returns-else-is_more_due-clause-events : goal.returns-else-is_more_due-clause-events
returns-else-is_more_due-clause-events c e = told_none c.args.near.now.set c.args.p.now c.args.more.now c.args.t e _ _ (sym c.is_more_due.ensures ∙ c.if-is_more_due.false) refl

pub returns-else-is_more_due-clause-spare : goal.returns-else-is_more_due-clause-spare
returns-else-is_more_due-clause-spare c =
    let is = due_same c.args.near.now.set c.args.p.now c.args.more.now c.args.t (sym c.is_more_due.ensures ∙ c.if-is_more_due.false) in
    omega (arith, is)
