use Rattle.std.proofs.Common.{sym, ◌∙◌}
use Rattle.gt_base.proofs.Storing.{stored_new}
use Rattle.gt_base.proofs.names.Name.new.Goals as goal

pub invariant_of-result : goal.invariant_of-result
invariant_of-result c =
    stored_new c.args.text.now c.copy_from_slice.new.self (sym c.is_name.ensures ∙ c.if-not-is_name.false) c.copy_from_slice.ensures.after
