use Rattle.std.proofs.Common.{subst, ◌∙◌, None}
use Rattle.gt_base.specs.Sets.{has}
use Rattle.gtrbac_model.specs.Conflict.{beats}
use Rattle.priority_conflict.specs.Winning.{IsStrongest, StandsTop}
use Rattle.priority_conflict.proofs.Blocking.{blocked_by_top, not_blocked}
use Rattle.priority_conflict.proofs.conflicts.blocked.Goals as goal

pub returns-in-Some : goal.returns-in-Some
returns-in-Some c =
    c.beats.ensures ∙ (λ j. beats c.args.p.event.on (c.get.ensures.value j) (c.get-in-Some.ensures.value j))
    ∙ blocked_by_top c.args.x.now.set c.args.p c.in-Some.q
    (subst (λ e. StandsTop (has c.args.x.now.set.events) e c.in-Some.q) c.converse.ensures.value c.in-Some.ensures)

pub returns-in-None : goal.returns-in-None
returns-in-None c =
    not_blocked c.args.x.now.set c.args.p
    (subst (λ e. IsStrongest (has c.args.x.now.set.events) e None) c.converse.ensures.value
    (subst (λ found. IsStrongest (has c.args.x.now.set.events) c.converse.result found) c.in-None.is c.strongest.ensures))
