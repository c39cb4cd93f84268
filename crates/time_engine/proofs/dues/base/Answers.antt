use Rattle.std.proofs.Common.{◌||◌, ◌∙◌, ap}
use Rattle.std.specs.List.{list_any}
use Rattle.std.specs.Ordering.{eq_by_cmp}
use Rattle.gt_base.specs.Orders.{signal_cmp}
use Rattle.gt_base.specs.Sets.{has}
use Rattle.gt_base.proofs.SetLaws.{has-none}
use Rattle.delay_agenda.specs.Due.{pending_at}
use Rattle.instant_bases.specs.Timelines.{Signals, signals_for}
use Rattle.time_engine.specs.Kept.{view_of}
use Rattle.time_engine.proofs.Bases.{base_is}
use Rattle.time_engine.proofs.dues.base.Goals as goal

pub returns : goal.returns
returns c =
    let s = c.args.s.now in
    base_is c.args.policy.now.policy (view_of s) c.args.t c.add_waiting.new.base.set
    (λ e. ap (λ x. has x e) c.in_ok-add_waiting.ensures.events ∙ c.in_ok-add_due.ensures.events e ∙ ap (λ b. b || has s.pending.set (pending_at c.args.t e)) (c.in_ok-base.ensures.events e))
    (λ x.
    c.in_ok-add_waiting.ensures.signals x
    ∙ ap (λ b. b || list_any (eq_by_cmp signal_cmp x) (signals_for s.present s.signals.set c.args.t)) (ap (λ (u : Signals). has u x) (c.in_ok-add_due.ensures.signals ∙ c.in_ok-base.ensures.signals) ∙ has-none signal_cmp x))
