use Rattle.std.proofs.Common.{◌≡◌, ◌≢◌, ◌<◌, ◌^◌, ℕ, List, Option, Some, None, decimal, IfSome, IfNone, sym, arith}
use Rattle.gt_base.specs.Names.{number_from}
use Rattle.gt_text.proofs.Decimals.{number_from_is, number_from_none}
use Rattle.gt_text.proofs.numbers.read_number.Goals as goal

some_read : (w : List ℕ) (r : Option ℕ) → r ≡ number_from 0 18_446_744_073_709_551_615 w → IfSome r (λ n. (n < 2 ^ 64) × (w ≡ decimal n))
some_read w None e = tt
some_read w (Some n) e =
    let is = number_from_is 0 18_446_744_073_709_551_615 w n (omega arith) (sym e) in
    (omega arith, is.2)

none_read : (w : List ℕ) (r : Option ℕ) → r ≡ number_from 0 18_446_744_073_709_551_615 w → IfNone r ((n : ℕ) → n < 2 ^ 64 → w ≢ decimal n)
none_read w None e = λ n small. number_from_none 18_446_744_073_709_551_615 w n (omega arith) e (omega arith)
none_read w (Some n) e = tt

pub returns-clause-some : goal.returns-clause-some
returns-clause-some c = some_read c.args.text.now c.number_to.result c.number_to.ensures

pub returns-clause-none : goal.returns-clause-none
returns-clause-none c = none_read c.args.text.now c.number_to.result c.number_to.ensures
