-- The canonical text is read as the expression.
use Rattle.std.proofs.Common.{◌≡◌, Ok, ap, ◌∙◌, IsTrue}
use Rattle.gtrbac_model.specs.Period.{Expr}
use Rattle.gtrbac_model.specs.Valid.{is_expr}
use Rattle.periodic_expr.specs.Printed.{expr_text}
use Rattle.periodic_expr.specs.Reading.{read_expr}
use Rattle.periodic_expr.proofs.Meant.{said}
use Rattle.periodic_expr.proofs.Canonical.{canonical}

pub printed_is_read : (e : Expr) → IsTrue (is_expr e) → read_expr (expr_text e) ≡ Ok e
printed_is_read e h = let c = canonical e h in said (expr_text e) c.tree c.spelled c.good ∙ ap (λ x. Ok x) c.means
