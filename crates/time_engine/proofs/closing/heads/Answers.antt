use Rattle.std.proofs.Common.{[], ◌∷◌, ◌++◌, List, take, flat_map, sym, ap, ◌∙◌}
use Rattle.std.proofs.lemmas.List.{flat_map_more, take_more, take_all}
use Rattle.gt_base.specs.Held.{TriggerView}
use Rattle.gt_base.specs.Sets.{has}
use Rattle.delay_agenda.specs.declared.pairs.Pending.{Pending}
use Rattle.time_engine.specs.Plans.{joins_of}
use Rattle.time_engine.proofs.closing.heads.Goals as goal

pub loop-trigger-preserved : goal.loop-trigger-preserved
loop-trigger-preserved c =
    let f : TriggerView → List Pending = joins_of (has c.args.before.now.set) c.args.x.now c.args.at in
    c.in_ok-push_head.ensures
    ∙ ap (λ ps. ps ++ f c.trigger-item.result) c.loop-trigger.invariant
    ∙ flat_map_more f [] (take c.loop-trigger.trigger-index c.args.triggers.now) c.trigger-item.result
    ∙ ap (λ x. flat_map f (take c.loop-trigger.trigger-index c.args.triggers.now ++ x ∷ [])) c.trigger-item.is
    ∙ ap (flat_map f) (sym (take_more c.args.triggers.now c.loop-trigger.trigger-index c.trigger-item.result c.loop-trigger-test.true))

pub returns : goal.returns
returns c =
    c.loop-trigger.invariant ∙ ap (flat_map (joins_of (has c.args.before.now.set) c.args.x.now c.args.at)) (take_all c.loop-trigger.trigger-index c.args.triggers.now c.loop-trigger-test.false)
