use Rattle.std.proofs.Common.{◌≡◌, ◌≢◌, ◌≤◌, ℕ, decimal, IfNone, sym, subst, ◌∙◌, arith}
use Rattle.std.proofs.lemmas.Fmt.{decimal_injective}
use Rattle.gt_text.proofs.Decimals.{number_from_is, number_from_none}
use Rattle.gt_text.proofs.numbers.read_between.Goals as goal

pub returns-in_err-n-clause-none : goal.returns-in_err-n-clause-none
returns-in_err-n-clause-none c =
    let none = c.in_err-n.ensures in
    subst (λ r. IfNone r ((n : ℕ) → c.args.least ≤ n → n ≤ c.args.most → c.args.text.now ≢ decimal n)) (sym c.from_residual.ensures)
    (λ n low high. number_from_none c.from.result c.args.text.now n (omega arith) none (omega arith))

pub returns-then-from-n-clause-some : goal.returns-then-from-n-clause-some
returns-then-from-n-clause-some c =
    let is = number_from_is 0 c.from.result c.args.text.now c.in_ok-n.n (omega arith) (sym c.in_ok-n.ensures) in
    (omega arith, omega arith, is.2)

pub returns-else-from-n-clause-none : goal.returns-else-from-n-clause-none
returns-else-from-n-clause-none c n low high e =
    let is = number_from_is 0 c.from.result c.args.text.now c.in_ok-n.n (omega arith) (sym c.in_ok-n.ensures) in
    let same : c.in_ok-n.n ≡ n = decimal_injective c.in_ok-n.n n (omega arith) (omega arith) (sym is.2 ∙ e) in
    omega arith
