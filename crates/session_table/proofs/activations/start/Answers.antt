use Rattle.std.proofs.Common.{◌≤◌, count_by, subst}
use Rattle.session_table.specs.Opened.{in_session}
use Rattle.session_table.proofs.Ending.{none_before}
use Rattle.session_table.proofs.activations.start.Goals as goal

pub returns-then-has_all : goal.returns-then-has_all
returns-then-has_all c =
    none_before (in_session c.args.session) c.args.active.now c.first_from-at.result c.args.most c.requires
    (subst (λ xs. c.args.most ≤ count_by (in_session c.args.session) xs) c.behind.ensures (c.has_all.ensures c.if-has_all.true))
