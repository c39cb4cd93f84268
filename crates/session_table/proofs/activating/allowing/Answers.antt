use Rattle.std.proofs.Common.{Some, None, sym, ap, ◌∙◌}
use Rattle.gt_base.specs.Sets.{has}
use Rattle.gtrbac_model.specs.Sessions.{caps_of}
use Rattle.session_table.proofs.Permitting.{no_walk, past_walk}
use Rattle.session_table.proofs.activating.allowing.Goals as goal

pub returns-in_default-clause-err : goal.returns-in_default-clause-err
returns-in_default-clause-err c = no_walk c.args.by.now.hierarchy.now c.args.by.now.caps.now.items (has c.args.by.now.status.now.set) c.args.by.now.instant c.args.by.now.active.now.items c.args.by.now.charges.now.charged c.args.user c.args.role (sym c.in_ok-walk.ensures ∙ c.in_default.is)

pub returns-in-Some-late_refusal-clause-err : goal.returns-in-Some-late_refusal-clause-err
returns-in-Some-late_refusal-clause-err c =
    past_walk c.args.by.now.hierarchy.now c.args.by.now.caps.now.items (has c.args.by.now.status.now.set) c.args.by.now.instant c.args.by.now.active.now.items c.args.by.now.charges.now.charged c.args.user c.args.role c.in-Some.walk (sym c.in_ok-walk.ensures ∙ c.in-Some.is)
    c.late_refusal.result (Some c.in-Some-late_refusal.refusal) c.caps_of-of_role.result c.day.result c.late_refusal.ensures (c.caps_of-of_role.ensures ∙ ap (λ xs. caps_of xs c.args.role) c.as_slice.ensures) c.day.ensures c.in-Some-late_refusal.is

pub returns-in-None-clause-ok : goal.returns-in-None-clause-ok
returns-in-None-clause-ok c = record {
  walk = sym c.in_ok-walk.ensures ∙ c.in-Some.is;
  late = past_walk c.args.by.now.hierarchy.now c.args.by.now.caps.now.items (has c.args.by.now.status.now.set) c.args.by.now.instant c.args.by.now.active.now.items c.args.by.now.charges.now.charged c.args.user c.args.role c.in-Some.walk (sym c.in_ok-walk.ensures ∙ c.in-Some.is)
      c.late_refusal.result None c.caps_of-of_role.result c.day.result c.late_refusal.ensures (c.caps_of-of_role.ensures ∙ ap (λ xs. caps_of xs c.args.role) c.as_slice.ensures) c.day.ensures c.in-None.is;
}
