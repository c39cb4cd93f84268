use Rattle.std.proofs.Common.{◌≡◌, ◌+◌, Bool, ◌&&◌, ◌||◌, not, List, [], ◌∷◌, drop, sym, refl, ◌∙◌, ap}
use Rattle.std.specs.List.{list_all, list_any}
use Rattle.std.proofs.lemmas.List.{drop_more}
use Rattle.gt_base.specs.Held.{TriggerView}
use Rattle.gt_base.specs.Sets.{has}
use Rattle.gt_base.specs.declared.events.Event.{Event}
use Rattle.gt_base.specs.declared.events.Prioritised.{Prioritised}
use Rattle.gtrbac_model.specs.Conflict.{blocked}
use Rattle.gtrbac_model.specs.Instant.{grounded_after}
use Rattle.gtrbac_model.specs.Same.{same_event, same_prioritised}
use Rattle.gtrbac_model.specs.Trigger.{met, immediate}
use Rattle.why_check.proofs.Shown.{next_grounded}
use Rattle.why_check.proofs.showing.is_supported.Goals as goal
use Rattle.why_check.proofs.showing.is_supported.Goals.{After-has_support}

pub loop-e-init : goal.loop-e-init
loop-e-init c = record {
  earlier = [];
  standing = λ f. c.in_ok-standing.ensures f;
  rest = refl;
}

-- what is left to be grounded, by whether the next event has support
next : (c : After-has_support)
    → grounded_after c.args.rules.now c.args.base.now.set (has c.args.before.now.set) c.args.x.now [] c.args.order.now
    ≡ (c.has_support.result && grounded_after c.args.rules.now c.args.base.now.set (has c.args.before.now.set) c.args.x.now (c.e-item.result ∷ c.loop-e.invariant.earlier) (drop (c.loop-e.e-index + 1) c.args.order.now))
next c =
    let rules : List TriggerView = c.args.rules.now in
    let st = has c.args.before.now.set in
    let x = c.args.x.now in
    let e : Prioritised = c.e-item.result in
    let inv = c.loop-e.invariant in
    inv.rest
    ∙ next_grounded rules c.args.base.now.set st x inv.earlier c.args.order.now c.loop-e.e-index e c.has_support.result
    (drop_more c.args.order.now c.loop-e.e-index e c.loop-e-test.true ∙ ap (λ y. y ∷ drop (c.loop-e.e-index + 1) c.args.order.now) (sym c.e-item.is))
    (c.has_support.ensures
    ∙ ap (λ (there : Event → Bool). has c.args.base.now.set.events e || list_any (λ (r : TriggerView). immediate r && same_prioritised r.head e && met r x st && list_all there r.events) rules) (λ i f. inv.standing f i))

pub returns-then-not-has_support : goal.returns-then-not-has_support
returns-then-not-has_support c =
    sym (next (goal.at.returns-then-not-has_support c).After-has_support
    ∙ ap (λ b. b && grounded_after c.args.rules.now c.args.base.now.set (has c.args.before.now.set) c.args.x.now (c.e-item.result ∷ c.loop-e.invariant.earlier) (drop (c.loop-e.e-index + 1) c.args.order.now)) c.if-not-has_support.true)

pub loop-e-preserved : goal.loop-e-preserved
loop-e-preserved c = record {
  earlier = c.e-item.result ∷ c.loop-e.invariant.earlier;
  standing = λ f.
      c.in_ok-note.ensures f
      ∙ ap (λ b. (same_event c.e-item.result.event f && not (blocked c.args.x.now c.e-item.result)) || b) (c.loop-e.invariant.standing f);
  rest =
      next (goal.at.loop-e-preserved c).After-has_support
      ∙ ap (λ b. b && grounded_after c.args.rules.now c.args.base.now.set (has c.args.before.now.set) c.args.x.now (c.e-item.result ∷ c.loop-e.invariant.earlier) (drop (c.loop-e.e-index + 1) c.args.order.now)) c.if-not-has_support.false;
}
