use Rattle.std.proofs.Common.{◌≡◌, ◌≤◌, ◌||◌, length, sym, ◌∙◌, ap, subst, flat_map, arith}
use Rattle.gt_base.specs.Sets.{has}
use Rattle.gtrbac_model.specs.Base.{raised_by, limited_from}
use Rattle.gtrbac_model.specs.History.{is_some_item}
use Rattle.instant_bases.proofs.Nexts.{by_test}
use Rattle.time_engine.proofs.Bases.{since_view}
use Rattle.time_engine.proofs.dues.next_raised.Goals as goal

pub next_limited_in_looks-requires-clause-past : goal.next_limited_in_looks-requires-clause-past
next_limited_in_looks-requires-clause-past g c = λ f. subst (λ n. n ≤ c.args.s.now.present) (ap (λ since. since f) (since_view c.args.s.now.ages)) (c.requires.kept.ages f)

pub returns-clause-next : goal.returns-clause-next
returns-clause-next g c =
    let s = c.args.s.now in
    let p = c.args.policy.now.policy in
    let periods : c.as_slice-periods.result.now ≡ p.periods = c.as_slice-periods.ensures.value ∙ c.requires.stands in
    let entries : c.as_slice-entries.result.now ≡ p.entries = c.as_slice-entries.ensures ∙ c.entries.ensures in
    let limits : c.as_slice-limits.result.now ≡ p.limits = c.as_slice-limits.ensures ∙ c.limits.ensures in
    by_test _ _ s.present c.earlier.result
    (λ t i. is_some_item (flat_map (raised_by (periods i) (c.birth.ensures i) t) (entries i)) || is_some_item (limited_from (periods i) (has s.status.set) (sym (since_view s.ages) i) 0 (limits i) t))
    (c.earlier.ensures _ _ s.present c.next_periodic_in_looks-next.ensures.next c.next_limited_in_looks.ensures.next)

pub returns-clause-cost : goal.returns-clause-cost
returns-clause-cost g c =
    let entries = ap length (c.as_slice-entries.ensures ∙ c.entries.ensures) in
    let limits = ap length (c.as_slice-limits.ensures ∙ c.limits.ensures) in
    let first = c.next_periodic_in_looks-next.ensures.cost in
    let second = c.next_limited_in_looks.ensures.cost in
    omega (arith, entries, limits, first, second)
