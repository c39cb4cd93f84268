use Rattle.std.proofs.Common.{take, ap, ◌∙◌, arith}
use Rattle.std.proofs.lemmas.List.{length-take-le}
use Rattle.gtrbac_model.specs.Same.{same_event}
use Rattle.indexmap.specs.IndexMap.{get}
use Rattle.trigger_rules.specs.Indexed.{event_eq, under, has_event, ends_in}
use Rattle.trigger_rules.proofs.Keys.{below, trigger_more, event_law}
use Rattle.trigger_rules.proofs.index.event_index.Goals as goal

pub add_number-requires : goal.add_number-requires
add_number-requires c = λ k.
    ap (ends_in c.loop-n.n) (c.loop-n.invariant k)
    ∙ below (has_event k) 0 c.loop-n.n (take c.loop-n.n c.args.triggers.now) (omega (arith, length-take-le c.loop-n.n c.args.triggers.now (omega arith)))

pub loop-n-preserved : goal.loop-n-preserved
loop-n-preserved c = λ k.
    trigger_more event_eq same_event event_law (λ r. r.events) c.args.triggers.now c.loop-n.n c.index-triggers-n.result c.as_slice.result.now k
    (under (get event_eq c.loop-n.index k) (λ v. v.items)) (under (get event_eq c.add_number.new.index k) (λ v. v.items))
    c.loop-n-test.true c.index-triggers-n.is (c.as_slice.ensures ∙ ap (λ r. r.events) c.trigger.view_is) (c.in_ok-add_number.ensures k) (c.loop-n.invariant k)
