use Rattle.std.proofs.Common.{cond, take, arith, sym, ◌∙◌, ap}
use Rattle.std.specs.List.{list_any}
use Rattle.std.proofs.lemmas.List.{take_all}
use Rattle.gt_base.specs.Sets.{has}
use Rattle.gtrbac_model.specs.Conflict.{after, won, turns_on, turns_off}
use Rattle.gtrbac_model.specs.Same.{same_fluent}
use Rattle.priority_conflict.proofs.OverLaws.{any_more, read_more}
use Rattle.why_check.proofs.Turned.{turned_more}
use Rattle.why_check.proofs.turning.turn_all.Goals as goal

pub loop-e-preserved : goal.loop-e-preserved
loop-e-preserved c =
    let before = has c.args.status.now.set in
    record {
      room = omega arith;
      status = λ f.
          turned_more (won c.args.x.now (turns_on f)) (won c.args.x.now (turns_off f)) (before f) (list_any (λ o. same_fluent o.event.fluent f) (take c.loop-e.e-index c.args.events.now)) (same_fluent c.e-item.result.event.fluent f)
          (has c.loop-e.status.set f) (has c.turn_fluent.new.status.set f) (c.loop-e.invariant.status f) (c.turn_fluent.ensures.status f)
          ∙ ap (λ b. cond b (after c.args.x.now before f) (before f))
          (sym (any_more (λ o. same_fluent o.event.fluent f) c.args.events.now c.loop-e.e-index c.e-item.result (read_more _ _ c.e-item.result c.loop-e-test.true c.e-item.is)));
    }

pub returns : goal.returns
returns c = λ f.
    c.loop-e.invariant.status f
    ∙ ap (λ es. cond (list_any (λ o. same_fluent o.event.fluent f) es) (after c.args.x.now (has c.args.status.now.set) f) (has c.args.status.now.set f)) (take_all c.loop-e.e-index c.args.events.now c.loop-e-test.false)
