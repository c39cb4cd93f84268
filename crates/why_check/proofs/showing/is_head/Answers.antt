use Rattle.std.proofs.Common.{Bool, ◌&&◌, ◌∙◌, ap}
use Rattle.std.specs.List.{list_all, list_any}
use Rattle.gt_base.specs.Held.{TriggerView}
use Rattle.gt_base.specs.Sets.{has}
use Rattle.gtrbac_model.specs.Graph.{item_at}
use Rattle.gtrbac_model.specs.Same.{same_prioritised}
use Rattle.gtrbac_model.specs.Trigger.{met, immediate}
use Rattle.why_check.specs.Heads.{is_headed, passes}
use Rattle.why_check.specs.Standing.{stands_in}
use Rattle.why_check.proofs.Heading.{any_numbered, heads_it}
use Rattle.why_check.proofs.showing.is_head.Goals as goal

pub returns : goal.returns
returns c =
    let e = c.args.e.now in
    let p : TriggerView → Bool = λ r. immediate r && same_prioritised r.head e && met r c.args.x.now (has c.args.before.now.set) && list_all (stands_in c.args.standing.now) r.events in
    c.is_headed_by.ensures
    ∙ ap (list_any (λ n. passes p (item_at c.args.rules.now n))) c.by_head-numbers.ensures
    ∙ any_numbered p (is_headed e.event) (λ r h. heads_it r e _ _ h) c.args.rules.now
