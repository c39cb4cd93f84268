use Rattle.std.proofs.Common.{sym, ap, subst, ◌∙◌}
use Rattle.gt_base.specs.Happening.{HappenedView}
use Rattle.gt_base.specs.declared.requests.Request.{Request}
use Rattle.gt_base.specs.declared.requests.Reply.TheVariants.{Event}
use Rattle.gtrbac_model.specs.Conflict.{seen}
use Rattle.session_table.specs.Tables.{table_of}
use Rattle.core_machine.specs.Coherent.{IsAnswer, point_of}
use Rattle.core_machine.proofs.looking.told.Goals as goal

pub returns-in-Seen : goal.returns-in-Seen
returns-in-Seen c =
    let told = c.seen.ensures ∙ ap (λ (x : HappenedView). seen x c.in-Seen.event) c.happened.ensures in
    subst (λ (q : Request). IsAnswer c.args.s.now c.args.actor q (Event c.seen.result)) (sym c.in-Seen.is) (record { is = ap (λ b. Event b) (sym told) })

pub returns-in-Active : goal.returns-in-Active
returns-in-Active c =
    let s = c.args.s.now in
    subst (λ (q : Request). IsAnswer s c.args.actor q c.is_active.result) (sym c.in-Active.is) (record { is = c.is_active.ensures s.ground.policy (point_of s.line.line (table_of s.table)) })
