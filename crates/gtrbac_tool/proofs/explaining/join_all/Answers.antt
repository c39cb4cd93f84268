use Rattle.std.proofs.Common.{◌++◌, [], ◌∷◌, List, append_assoc, refl, sym, ◌∙◌, ap}
use Rattle.gt_base.specs.declared.events.Prioritised.{Prioritised}
use Rattle.priority_conflict.proofs.OverLaws.{read_more}
use Rattle.trigger_rules.specs.Indexed.{with_event}
use Rattle.instant_engine.proofs.Steps.{part_more, parts_all}
use Rattle.gtrbac_tool.proofs.explaining.join_all.Goals as goal

pub loop-e-preserved : goal.loop-e-preserved
loop-e-preserved c =
    let e : Prioritised = c.e-item.result in
    let init : List Prioritised = c.args.order.now.events.items in
    record {
      tracks = λ t. c.in_ok-join.ensures.tracks (c.loop-e.invariant.tracks t);
      events =
          c.in_ok-join.ensures.events
          ∙ ap (λ (es : List Prioritised). es ++ e ∷ []) c.loop-e.invariant.events
          ∙ append_assoc init _ (e ∷ [])
          ∙ ap (λ (es : List Prioritised). init ++ es) (sym (read_more c.args.events.now c.loop-e.e-index e c.loop-e-test.true c.e-item.is));
      pending = part_more (λ (o : Prioritised). with_event c.args.rules.now o.event) c.args.pending.now.items c.loop-e.pending.items (with_event c.args.rules.now e.event) c.join.new.pending.items c.args.events.now c.loop-e.e-index e e
          c.loop-e-test.true c.e-item.is c.in_ok-join.ensures.pending refl c.loop-e.invariant.pending;
    }

pub returns-clause-pending : goal.returns-clause-pending
returns-clause-pending c =
    parts_all (λ (o : Prioritised). with_event c.args.rules.now o.event) c.args.pending.now.items c.loop-e.pending.items c.args.events.now c.loop-e.e-index c.loop-e-test.false c.loop-e.invariant.pending
