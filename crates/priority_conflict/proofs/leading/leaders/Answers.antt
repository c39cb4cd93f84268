use Rattle.std.proofs.Common.{◌+◌, take, subst}
use Rattle.std.proofs.lemmas.List.{take_all}
use Rattle.gt_base.specs.Orders.{fluent_eq}
use Rattle.gtrbac_model.specs.Same.{lists, same_prioritised}
use Rattle.indexmap.specs.IndexMap.{get}
use Rattle.priority_conflict.specs.Winning.{IsLeader}
use Rattle.priority_conflict.proofs.OverLaws.{any_more, read_more}
use Rattle.priority_conflict.proofs.WhoLeads.{all_lead}
use Rattle.priority_conflict.proofs.leading.leaders.Goals as goal

pub loop-p-preserved : goal.loop-p-preserved
loop-p-preserved c =
    all_lead (lists same_prioritised (take c.loop-p.p-index c.args.events.now)) (lists same_prioritised (take (c.loop-p.p-index + 1) c.args.events.now)) c.p-item.result
    (λ o. any_more (same_prioritised o) _ _ c.p-item.result (read_more _ _ c.p-item.result c.loop-p-test.true c.p-item.is))
    (get fluent_eq c.loop-p.leaders) (get fluent_eq c.note.new.leaders) c.in_ok-note.ensures.ok c.loop-p.invariant

pub returns : goal.returns
returns c = λ f.
    subst (λ es. IsLeader (lists same_prioritised es) f (get fluent_eq c.loop-p.leaders f)) (take_all c.loop-p.p-index c.args.events.now c.loop-p-test.false) (c.loop-p.invariant f)
