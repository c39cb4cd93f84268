use Rattle.indexmap.specs.IndexMap.{get}
use Rattle.trigger_rules.specs.Indexed.{event_eq, under}
use Rattle.why_check.proofs.Heading.{heads_more}
use Rattle.why_check.proofs.heads.head_index.Goals as goal

pub loop-n-preserved : goal.loop-n-preserved
loop-n-preserved c = λ e.
    heads_more e c.args.triggers.now c.loop-n.n c.index-triggers-n.result (under (get event_eq c.loop-n.index e) (λ v. v.items)) (under (get event_eq c.add_head.new.index e) (λ v. v.items))
    c.loop-n-test.true c.index-triggers-n.is (c.in_ok-add_head.ensures e) (c.loop-n.invariant e)
