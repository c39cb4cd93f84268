use Rattle.std.proofs.Common.{◌≡◌, ℕ, ◌+◌, ◌-◌, ◌<◌, ◌≤◌, Fits, w64, sym, ap, ◌∙◌, subst, lt_trans, le_trans, arith}
use Rattle.gtrbac_model.specs.Calendar.{minute_of, interval_of}
use Rattle.gtrbac_model.specs.Period.{Period}
use Rattle.calendar_match.specs.Reach.{unit_first}
use Rattle.calendar_match.specs.Next.{IsNext, HasNone, StaysAll, outside}
use Rattle.calendar_match.proofs.Moves.{stays_first, stays_to, out_found, out_past, out_never, unit_later, some_by, none_by}
use Rattle.calendar_match.proofs.Latest.{unit_low}
use Rattle.calendar_match.proofs.next.outside_after.Goals as goal

more_fits : (k : ℕ) → k < 2_147_483_648 → Fits w64 (k + 1)
more_fits k h = omega arith

-- where the next unit begins

next_unit : (i k : ℕ) → k ≡ i → i < k + 1
next_unit i k e = omega arith

begins_late : (p : Period) (after k : ℕ) → interval_of p.expr.unit (minute_of after) < k → 1_051_898_400 ≤ unit_first p.expr k
begins_late p after k h = let late : minute_of after < unit_first p.expr k = unit_later p.expr (minute_of after) k h in omega (arith, late)

later_still : (p : Period) (after k : ℕ) → interval_of p.expr.unit (minute_of after) < k → 1_051_898_400 < unit_first p.expr (k + 1)
later_still p after k h = let late : minute_of after < unit_first p.expr (k + 1) = unit_later p.expr (minute_of after) (k + 1) (next (interval_of p.expr.unit (minute_of after)) k h) in omega (arith, late)
  where
    next : (i k : ℕ) → i < k → i < k + 1
    next i k h = omega arith

-- where it is reached

early : (m u stop : ℕ) → m ≡ u → m ≤ stop → stop ≤ 1_104_494_399 → u < 2_147_483_648
early m u stop e h b = omega arith

reached : (j k u m stop : ℕ) → j ≤ k + 1_000 → k ≤ u → m ≡ u → m ≤ stop → stop ≤ 1_104_494_399 → j ≤ 2_147_483_648
reached j k u m stop near low e h b = omega arith

within_last : (t last m stop : ℕ) → minute_of t ≡ m → m ≤ stop → stop ≤ minute_of last → t ≤ last
within_last t last m stop e h b = omega arith

less_left : (j k : ℕ) → k < j → k ≤ 2_147_483_648 → 2_147_483_649 - j < 2_147_483_649 - k
less_left j k h b = omega arith

at_most : (k : ℕ) → k < 2_147_483_648 → k + 1 ≤ 2_147_483_648
at_most k h = omega arith

pub overflow_add-k : goal.overflow_add-k
overflow_add-k c = more_fits c.unit_of-k.result c.unit_of-k.ensures.bound

pub units-init : goal.units-init
units-init c =
    let p = c.args.p.now in
    let k : c.unit_of-k.result ≡ interval_of p.expr.unit (minute_of c.args.after) = c.unit_of-k.ensures.unit ∙ ap (interval_of p.expr.unit) c.minute_of.ensures.minute in
    record {
      later = next_unit (interval_of p.expr.unit (minute_of c.args.after)) c.unit_of-k.result k;
      high = at_most c.unit_of-k.result c.unit_of-k.ensures.bound;
      here = c.unit_start_of-m.ensures;
      stays = rw k (stays_first p c.args.after c.requires);
    }

pub covered_of-requires-clause-low : goal.covered_of-requires-clause-low
covered_of-requires-clause-low c = later_still c.args.p.now c.args.after c.units.k c.units.invariant.later

pub covered_of-requires-clause-high : goal.covered_of-requires-clause-high
covered_of-requires-clause-high c = early c.units.m (unit_first c.args.p.now.expr c.units.k) c.horizon-stop.result c.units.invariant.here c.units-test.true c.horizon-stop.ensures.bound

pub instant_of-requires-clause-low : goal.instant_of-requires-clause-low
instant_of-requires-clause-low c = subst (λ m. 1_051_898_400 ≤ m) (sym c.units.invariant.here) (begins_late c.args.p.now c.args.after c.units.k c.units.invariant.later)

pub instant_of-requires-clause-high : goal.instant_of-requires-clause-high
instant_of-requires-clause-high c = le_trans c.units-test.true c.horizon-stop.ensures.bound

pub returns-in_default-clause-some : goal.returns-in_default-clause-some
returns-in_default-clause-some c =
    let v = c.units.invariant in
    out_found c.args.p.now c.args.after c.units.k c.instant_of.result (sym (c.instant_of.ensures ∙ v.here)) v.later c.in_default.ensures.none v.stays
    (within_last c.instant_of.result c.args.p.now.last c.units.m c.horizon-stop.result c.instant_of.ensures c.units-test.true c.horizon-stop.ensures.within)

pub units-smaller : goal.units-smaller
units-smaller c = less_left c.in-Some.j c.units.k c.in-Some.ensures.some.later c.units.invariant.high

pub units-preserved : goal.units-preserved
units-preserved c =
    let p = c.args.p.now in
    let v = c.units.invariant in
    let f = c.in-Some.ensures.some in
    record {
      later = lt_trans v.later f.later;
      high = reached c.in-Some.j c.units.k (unit_first p.expr c.units.k) c.units.m c.horizon-stop.result f.near (unit_low p.expr c.units.k) v.here c.units-test.true c.horizon-stop.ensures.bound;
      here = c.unit_start_of-m-in-units.ensures;
      stays = stays_to p c.args.after c.units.k c.in-Some.j c.requires f v.stays;
    }

pub returns-clause-some : goal.returns-clause-some
returns-clause-some c =
    let p = c.args.p.now in
    let all : StaysAll p c.args.after = c.horizon-stop.ensures.horizon c.units.k (subst (λ m. c.horizon-stop.result < m) c.units.invariant.here c.units-test.false) c.units.invariant.stays in
    some_by c.past.result (λ t. t ≡ p.last + 1) (λ t. IsNext (outside p) c.args.after t) (λ t e. out_past p c.args.after t c.requires e all) c.past.ensures.some

pub returns-clause-none : goal.returns-clause-none
returns-clause-none c =
    let p = c.args.p.now in
    let all : StaysAll p c.args.after = c.horizon-stop.ensures.horizon c.units.k (subst (λ m. c.horizon-stop.result < m) c.units.invariant.here c.units-test.false) c.units.invariant.stays in
    none_by c.past.result _ (HasNone (outside p) c.args.after) (λ le. out_never p c.args.after le all) c.past.ensures.none
