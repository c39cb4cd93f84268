use Rattle.std.proofs.Common.{◌≡◌, nat_eq, Some, ap, ◌∙◌, subst, List}
use Rattle.std.proofs.lemmas.List.{take_all}
use Rattle.gt_base.specs.Held.{TriggerView}
use Rattle.gtrbac_model.specs.Graph.{item_at}
use Rattle.indexmap.specs.IndexMap.{get}
use Rattle.dependency_graph.specs.Carried.{level_in}
use Rattle.dependency_graph.proofs.Growing.{head_listed}
use Rattle.instant_engine.specs.OnTheWay.{is_due}
use Rattle.trigger_rules.specs.Indexed.{under, numbers}
use Rattle.instant_engine.proofs.Steps.{due_more, item_of}
use Rattle.instant_engine.proofs.levels.by_level.Goals as goal

pub loop-t-preserved : goal.loop-t-preserved
loop-t-preserved c = λ n.
    due_more (level_in c.args.g.now.events c.args.s.now) n c.as_slice-triggers.result.now c.loop-t.t c.index-triggers-t.result c.due_level.result
    (under (get nat_eq c.loop-t.index n) (λ v. v.items)) (under (get nat_eq c.put.new.index n) (λ v. v.items))
    c.loop-t-test.true c.index-triggers-t.is c.due_level.ensures (c.in_ok-put.ensures n) (c.loop-t.invariant n)

pub due_level-requires-clause-node : goal.due_level-requires-clause-node
due_level-requires-clause-node c =
    let t = c.loop-t.t in
    let q = c.index-triggers-t.result in
    head_listed c.args.r.now c.args.g.now.events t q c.requires.graph.nodes
    (subst (λ (rs : List TriggerView). item_at rs t ≡ Some q) (c.as_slice-triggers.ensures ∙ c.triggers.ensures.triggers) (item_of c.as_slice-triggers.result.now t q c.loop-t-test.true c.index-triggers-t.is))

pub returns : goal.returns
returns c n =
    c.loop-t.invariant n ∙ ap (numbers (is_due (level_in c.args.g.now.events c.args.s.now) n) 0) (take_all c.loop-t.t c.as_slice-triggers.result.now c.loop-t-test.false ∙ c.as_slice-triggers.ensures ∙ c.triggers.ensures.triggers)
