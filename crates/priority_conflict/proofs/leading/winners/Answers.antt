use Rattle.std.proofs.Common.{◌≡◌, Bool, ap, sym, ◌∙◌, subst}
use Rattle.std.specs.Result.{IfOk}
use Rattle.std.proofs.lemmas.List.Sorted.{list_any-IsPermutation}
use Rattle.gt_base.specs.declared.events.Event.{Event}
use Rattle.gt_base.specs.Orders.{fluent_eq}
use Rattle.gt_base.specs.Sets.{has}
use Rattle.gtrbac_model.specs.Conflict.{won}
use Rattle.gtrbac_model.specs.Same.{lists, same_event}
use Rattle.indexmap.specs.IndexMap.{get}
use Rattle.priority_conflict.proofs.WhoLeads.{winners_are, leads_in}
use Rattle.priority_conflict.proofs.leading.winners.Goals as goal

pub returns : goal.returns
returns c =
    let lead = leads_in c.args.x.now.set c.events.result.now c.events.ensures (get fluent_eq c.in_ok-leaders.leaders) c.in_ok-leaders.ensures in
    let same : (e : Event) → lists same_event c.deref.result.now e ≡ won c.args.x.now.set e = λ e.
    ap (λ es. lists same_event es e) c.deref.ensures.value
    ∙ sym (list_any-IsPermutation (same_event e) _ _ c.sort_unstable.ensures.permutation)
    ∙ ap (λ es. lists same_event es e) c.in_ok-events.ensures.events
    ∙ winners_are c.in_ok-leaders.leaders c.args.x.now.set c.in_ok-events.ensures.unique lead e in
    subst (λ (g : Event → Bool). IfOk c.set_of.result (λ w. (e : Event) → has w.set e ≡ g e)) (λ i e. same e i) c.set_of.ensures
