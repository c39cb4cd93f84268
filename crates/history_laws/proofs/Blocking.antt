-- What blocks an event stands in the set, and nothing is asked of what blocks it in turn.
use Rattle.std.proofs.Common.{◌&&◌, refl, IsTrue}
use Rattle.gt_base.specs.declared.events.Prioritised.{Prioritised}
use Rattle.gt_base.specs.Events.{converse}
use Rattle.gt_base.specs.Happening.{HappenedView}
use Rattle.gt_base.specs.Sets.{members, has, none, checked, with_member}
use Rattle.gtrbac_model.specs.Same.{same_event}
use Rattle.gtrbac_model.specs.Conflict.{beats, blocked}
use Rattle.gtrbac_model.proofs.Elements.{any_elim, any_intro, both_true, and_true}
use Rattle.gtrbac_model.proofs.Uniqueness.{elem, of_elem, is_same_event, same_event_of}
use Rattle.history_laws.specs.Histories.{Blocks, StandingBlocks, BlockedStillBlocks}

pub blocker : (x : HappenedView) (e : Prioritised) → IsTrue (blocked x e) → (o : Prioritised) × Blocks x o e
blocker x e h =
    let (o, there, passes) = any_elim (λ o. same_event o.event (converse e.event) && beats e.event.on o.prio e.prio) (members x.events) h in
    let both = both_true _ _ passes in
    (o, record { stands = of_elem x o there; against = is_same_event o.event (converse e.event) both.0; stronger = both.1 })

pub blocked_by : (x : HappenedView) (e : Prioritised) → (o : Prioritised) × Blocks x o e → IsTrue (blocked x e)
blocked_by x e (o, b) =
    any_intro (λ o. same_event o.event (converse e.event) && beats e.event.on o.prio e.prio) (members x.events) o (elem x o b.stands)
    (and_true _ _ (same_event_of o.event (converse e.event) b.against) b.stronger)

pub standing_blocks : StandingBlocks
standing_blocks x e = (blocker x e, blocked_by x e)

pub blocked_still_blocks : BlockedStillBlocks
unfolding members has none checked with_member
blocked_still_blocks = record { is_blocked = refl; blocks = record { stands = refl; against = refl; stronger = refl }; so_blocked = refl }
