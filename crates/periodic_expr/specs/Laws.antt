-- The scan against the grammar.
use Rattle.std.specs.Prelude.{◌≡◌, ◌≢◌, ◌↔◌, List, ℕ, Ok, Err, IsTrue}
use Rattle.gtrbac_model.specs.Period.{Expr}
use Rattle.periodic_expr.specs.declared.faults.ExprFault.{ExprFault}
use Rattle.periodic_expr.specs.declared.faults.ExprKind.TheVariants.{Syntax}
use Rattle.periodic_expr.specs.Grammar.{Says, HasFault, IsSyntaxFault}
use Rattle.periodic_expr.specs.Reading.{read_expr}
use Rattle.periodic_expr.specs.Printed.{expr_text}
use Rattle.gtrbac_model.specs.Valid.{is_expr}

-- expressions are read by the grammar: what they mean, where they are none, and their fault of the
-- least place
pub record ExprsAreRead : Type 0 where
  pub said : (text : List ℕ) (e : Expr) → (read_expr text ≡ Ok e) ↔ Says text e
  pub syntax : (text : List ℕ) (at : ℕ)
      → (read_expr text ≡ Err (record { at = at; kind = Syntax })) ↔ IsSyntaxFault text at
  pub fault : (text : List ℕ) (f : ExprFault) → f.kind ≢ Syntax
      → (read_expr text ≡ Err f) ↔ HasFault text f

-- the canonical text of a valid expression is read as the expression
abbrev pub PrintedIsRead : Type 0
PrintedIsRead = (e : Expr) → IsTrue (is_expr e) → read_expr (expr_text e) ≡ Ok e
