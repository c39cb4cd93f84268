use Rattle.std.proofs.Common.{◌∙◌, ap, sym, slice_get}
use Rattle.instant_engine.proofs.Steps.{elem_got, node_of}
use Rattle.instant_engine.proofs.settling.head_if_firing.Goals as goal

pub is_due-requires-clause-node : goal.is_due-requires-clause-node
is_due-requires-clause-node g c = λ i.
    c.args.by.now.levelled.graph.nodes c.in_ok-trigger.trigger.now.head.event
    ∙ node_of c.args.by.now.rules.now c.in_ok-trigger.trigger.now (elem_got c.args.by.now.rules.now c.args.t c.in_ok-trigger.trigger.now (ap (λ rs. slice_get rs c.args.t) (sym c.triggers.ensures.triggers) ∙ c.in_ok-trigger.ensures.some)) i
