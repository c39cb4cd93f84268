use Rattle.std.proofs.Common.{take, ap, ◌∙◌, arith}
use Rattle.std.proofs.lemmas.List.{length-take-le}
use Rattle.gtrbac_model.specs.Same.{same_signal}
use Rattle.indexmap.specs.IndexMap.{get}
use Rattle.trigger_rules.specs.Indexed.{signal_eq, under, has_signal, ends_in}
use Rattle.trigger_rules.proofs.Keys.{below, trigger_more, signal_law}
use Rattle.trigger_rules.proofs.index.signal_index.Goals as goal

pub add_number-requires : goal.add_number-requires
add_number-requires c = λ k.
    ap (ends_in c.loop-n.n) (c.loop-n.invariant k)
    ∙ below (has_signal k) 0 c.loop-n.n (take c.loop-n.n c.args.triggers.now) (omega (arith, length-take-le c.loop-n.n c.args.triggers.now (omega arith)))

pub loop-n-preserved : goal.loop-n-preserved
loop-n-preserved c = λ k.
    trigger_more signal_eq same_signal signal_law (λ r. r.signals) c.args.triggers.now c.loop-n.n c.index-triggers-n.result c.as_slice.result.now k
    (under (get signal_eq c.loop-n.index k) (λ v. v.items)) (under (get signal_eq c.add_number.new.index k) (λ v. v.items))
    c.loop-n-test.true c.index-triggers-n.is (c.as_slice.ensures ∙ ap (λ r. r.signals) c.trigger.view_is) (c.in_ok-add_number.ensures k) (c.loop-n.invariant k)
