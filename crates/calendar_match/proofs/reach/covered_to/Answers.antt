use Rattle.std.proofs.Common.{◌≡◌, ℕ, ◌+◌, ◌-◌, ◌<◌, ◌≤◌, Option, Some, None, IfNone, Fits, w64, sym, ◌∙◌, ap, subst, lt_of_le_of_lt, arith}
use Rattle.gtrbac_model.specs.Calendar.{interval_of}
use Rattle.calendar_match.specs.Reach.{unit_first, IsLastBegin, HasNoBegin, IsCovered}
use Rattle.calendar_match.proofs.Latest.{count_low, count_late, covered, uncovered, unit_low}
use Rattle.calendar_match.proofs.reach.covered_to.Goals as goal

if_none : {P : Type 0} (r : Option ℕ) → P → IfNone r P
if_none (Some k) p = tt
if_none None p = p

more_fits : (k : ℕ) → k < 2_147_483_648 → Fits w64 (k + 1)
more_fits k h = omega arith

sum_fits : (i n c k : ℕ) → i ≤ 2_147_483_648 → c ≡ n → n ≤ k → k < 2_147_483_648 → Fits w64 (i + c)
sum_fits i n c k h e le lt = omega arith

within_count : (c n k : ℕ) → c ≡ n → n ≤ k → c ≤ k + 1
within_count c n k e h = omega arith

low_unit : (k c : ℕ) → k < 2_147_483_648 → k + 1 - c ≤ 2_147_483_648
low_unit k c h = omega arith

below : (k : ℕ) → k < 2_147_483_648 → k ≤ 2_147_483_648
below k h = omega arith

pub overflow_add-k : goal.overflow_add-k
overflow_add-k c = more_fits c.args.k (lt_of_le_of_lt (unit_low c.args.e.now c.args.k) c.requires.high)

pub overflow_sub-k : goal.overflow_sub-k
overflow_sub-k c =
    within_count c.from-count.result c.args.e.now.count c.args.k (c.from-count.ensures ∙ c.length.ensures.count) (count_low c.args.e.now c.args.k c.length.ensures.valid c.requires.low)

pub unit_start-requires : goal.unit_start-requires
unit_start-requires c = low_unit c.args.k c.from-count.result (lt_of_le_of_lt (unit_low c.args.e.now c.args.k) c.requires.high)

pub unit_start-requires-2 : goal.unit_start-requires-2
unit_start-requires-2 c = below c.args.k (lt_of_le_of_lt (unit_low c.args.e.now c.args.k) c.requires.high)

pub last_begin-requires-clause-from_in : goal.last_begin-requires-clause-from_in
last_begin-requires-clause-from_in c =
    let e = c.args.e.now in
    let is : c.unit_start.result ≡ unit_first e (c.args.k + 1 - e.count) = c.unit_start.ensures ∙ ap (λ n. unit_first e (c.args.k + 1 - n)) (c.from-count.ensures ∙ c.length.ensures.count) in
    subst (λ m. 2_880 ≤ m) (sym is) (count_late e c.args.k c.length.ensures.valid c.requires.low)

pub last_begin-requires-clause-upto_in : goal.last_begin-requires-clause-upto_in
last_begin-requires-clause-upto_in c = subst (λ m. m < 2_147_483_648) (sym c.unit_start-2.ensures) c.requires.high

pub returns-in_err-m-clause-none : goal.returns-in_err-m-clause-none
returns-in_err-m-clause-none c =
    let e = c.args.e.now in
    let is : c.unit_start.result ≡ unit_first e (c.args.k + 1 - e.count) = c.unit_start.ensures ∙ ap (λ n. unit_first e (c.args.k + 1 - n)) (c.from-count.ensures ∙ c.length.ensures.count) in
    let none : HasNoBegin e (unit_first e (c.args.k + 1 - e.count)) (unit_first e c.args.k + 1) =
    subst (λ m. HasNoBegin e m (unit_first e c.args.k + 1)) is (subst (λ m. HasNoBegin e c.unit_start.result (m + 1)) c.unit_start-2.ensures c.in_err-m.ensures.none) in
    if_none c.from_residual.result (uncovered e c.args.k (count_low e c.args.k c.length.ensures.valid c.requires.low) none)

pub unit_at-requires : goal.unit_at-requires
unit_at-requires c = lt_of_le_of_lt c.in_ok-m.ensures.some.within (subst (λ m. m < 2_147_483_648) (sym c.unit_start-2.ensures) c.requires.high)

pub overflow_add-result : goal.overflow_add-result
overflow_add-result c =
    sum_fits c.unit_at.result c.args.e.now.count c.from-count.result c.args.k c.unit_at.ensures.bound (c.from-count.ensures ∙ c.length.ensures.count) (count_low c.args.e.now c.args.k c.length.ensures.valid c.requires.low)
    (lt_of_le_of_lt (unit_low c.args.e.now c.args.k) c.requires.high)

pub returns-clause-some : goal.returns-clause-some
returns-clause-some c =
    let e = c.args.e.now in
    let count : c.from-count.result ≡ e.count = c.from-count.ensures ∙ c.length.ensures.count in
    let is : c.unit_start.result ≡ unit_first e (c.args.k + 1 - e.count) = c.unit_start.ensures ∙ ap (λ n. unit_first e (c.args.k + 1 - n)) count in
    let last : IsLastBegin e (unit_first e (c.args.k + 1 - e.count)) (unit_first e c.args.k) c.in_ok-m.m =
    subst (λ m. IsLastBegin e m (unit_first e c.args.k) c.in_ok-m.m) is (subst (λ m. IsLastBegin e c.unit_start.result m c.in_ok-m.m) c.unit_start-2.ensures c.in_ok-m.ensures.some) in
    let to : interval_of e.unit c.in_ok-m.m + e.count ≡ c.unit_at.result + c.from-count.result = sym (ap (λ i. i + c.from-count.result) c.unit_at.ensures.interval ∙ ap (λ n. interval_of e.unit c.in_ok-m.m + n) count) in
    subst (λ j. IsCovered e c.args.k j) to (covered e c.args.k c.in_ok-m.m c.length.ensures.valid last)
