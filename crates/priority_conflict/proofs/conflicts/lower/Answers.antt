use Rattle.std.proofs.Common.{◌≡◌, ◌<◌, ◌≤◌, ◌+◌, ◌-◌, List, length, subst, sym, ◌∙◌, ap}
use Rattle.std.specs.List.{HoldsAt}
use Rattle.std.specs.List.Sorted.{IsBinarySearchResult}
use Rattle.std.specs.Prelude.{Err, min}
use Rattle.std.specs.declared.cmp.Ordering.TheVariants.{Equal}
use Rattle.gt_base.specs.declared.events.Prioritised.{Prioritised}
use Rattle.gt_base.specs.Orders.{prioritised_cmp}
use Rattle.gtrbac_model.specs.Conflict.{greatest_below, stands_at}
use Rattle.priority_conflict.proofs.Blocking.{found_there, lower_down}
use Rattle.priority_conflict.proofs.conflicts.lower.Goals as goal

pub returns-in-Ok-clause-none : goal.returns-in-Ok-clause-none
returns-in-Ok-clause-none c _ =
    let i = c.in-Ok.field-0 in
    found_there c.args.x.now.set c.args.e c.args.prio i (subst (λ (ks : List Prioritised). i < length ks) c.events-events.ensures c.in-Ok.ensures.bound)
    (subst (λ (ks : List Prioritised). HoldsAt (λ y. prioritised_cmp y (record { prio = c.args.prio; event = c.args.e }) ≡ Equal) ks i) c.events-events.ensures c.in-Ok.ensures.ok)

pub returns-in-Err-clause-same : goal.returns-in-Err-clause-same
returns-in-Err-clause-same c =
    let i = c.in-Err.place in
    lower_down c.args.x.now.set c.args.e c.args.prio i c.past_front.result (subst (λ (ks : List Prioritised). i ≤ length ks) c.events-events.ensures c.in-Err.ensures.bound)
    (subst (λ (ks : List Prioritised). IsBinarySearchResult (λ y. prioritised_cmp y (record { prio = c.args.prio; event = c.args.e })) ks (Err i)) c.events-events.ensures c.in-Err.ensures.position)
    (subst (λ (ks : List Prioritised). 0 < i → HoldsAt (λ p. c.past_front.result ≡ p.prio + 1) ks (i - 1)) c.events-events.ensures c.past_front.ensures.front)
    ∙ ap (λ n. greatest_below (stands_at c.args.x.now.set c.args.e) (min n c.past_front.result)) (sym c.get.ensures.value) ∙ ap (greatest_below (stands_at c.args.x.now.set c.args.e)) (sym c.min.ensures)
