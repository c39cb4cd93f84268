use Rattle.std.proofs.Common.{cond, count_by, Some, None, refl, ◌∙◌}
use Rattle.std.specs.List.{remove}
use Rattle.std.proofs.lemmas.Bool.{eq-eqb}
use Rattle.gtrbac_model.specs.Sessions.{Activation}
use Rattle.session_table.specs.Counting.{is_by}
use Rattle.session_table.proofs.Counts.{one_out, own, same_left, some_in}
use Rattle.session_table.proofs.counting.uncount_at.Goals as goal

pub drop_count-requires-clause-own : goal.drop_count-requires-clause-own
drop_count-requires-clause-own c =
    let a : Activation = c.activation_at.result in
    some_in _ (count_by (is_by (Some a.user) a.role) (remove c.args.active.now c.args.at)) (is_by (Some a.user) a.role a)
    (c.requires.counted (record { user = Some a.user; role = a.role }) ∙ one_out (is_by (Some a.user) a.role) c.args.active.now c.args.at a c.activation_at.ensures) (own a)

pub drop_count-requires-clause-all : goal.drop_count-requires-clause-all
drop_count-requires-clause-all c =
    let a : Activation = c.activation_at.result in
    some_in _ (count_by (is_by None a.role) (remove c.args.active.now c.args.at)) (is_by None a.role a)
    (c.requires.counted (record { user = None; role = a.role }) ∙ one_out (is_by None a.role) c.args.active.now c.args.at a c.activation_at.ensures) (eq-eqb a.role.0 a.role.0 refl)

pub returns : goal.returns
returns c = λ h.
    let a : Activation = c.activation_at.result in
    same_left _ _ _ (cond (is_by h.user h.role a) 1 0) (c.drop_count.ensures h)
    (c.requires.counted h ∙ one_out (is_by h.user h.role) c.args.active.now c.args.at a c.activation_at.ensures)
