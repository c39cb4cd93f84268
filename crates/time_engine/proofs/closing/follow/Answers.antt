use Rattle.std.proofs.Common.{◌≡◌, ◌++◌, ◌&&◌, ◌||◌, not, cond, sym, ◌∙◌, ap}
use Rattle.std.specs.List.{list_any}
use Rattle.std.specs.Ordering.{eq_by_cmp}
use Rattle.gt_base.specs.Sets.{has}
use Rattle.gt_base.specs.declared.events.Event.{Event}
use Rattle.gtrbac_model.specs.Conflict.{after}
use Rattle.gtrbac_model.specs.Same.{same_fluent}
use Rattle.gtrbac_model.specs.Status.{differ}
use Rattle.delay_agenda.specs.Due.{Pendings, pending_cmp, is_due_at}
use Rattle.instant_bases.specs.Timelines.{since_of}
use Rattle.time_engine.specs.Kept.{view_of}
use Rattle.time_engine.specs.Plans.{PlanView}
use Rattle.time_engine.specs.Traces.{traced}
use Rattle.time_engine.proofs.Bases.{since_view}
use Rattle.time_engine.proofs.Changing.{changed_won}
use Rattle.time_engine.proofs.DueEvents.{has-due}
use Rattle.time_engine.proofs.closing.follow.Goals as goal

pub returns-clause-after : goal.returns-clause-after
returns-clause-after c =
    let s = c.args.s.now in
    let x = c.p.inside in
    record {
      periods = c.pass_all.ensures;
      birth = c.note_changes.ensures.birth;
      now = ap (λ (p : PlanView). p.at) c.p.view_is;
      status = ap (λ (p : PlanView). p.status) c.p.view_is;
      since = λ f.
          let status_is : has x.status.set f ≡ after x.set.set (has s.status.set) f =
          ap (λ (p : PlanView). has p.status f) c.p.view_is ∙ c.requires.fits.status f ∙ ap (λ (p : PlanView). after p.set (has s.status.set) f) (sym c.p.view_is) in
          ap (λ since. since f) (since_view c.note_changes.new.ages)
          ∙ c.note_changes.ensures.since f
          ∙ (λ i. cond (differ (has x.status.set f) (has s.status.set f) && list_any (λ (e : Event). same_fluent e.fluent f) (c.as_slice-2.ensures i)) x.at (sym (ap (λ since. since f) (since_view s.ages)) i))
          ∙ ap (λ b. cond b x.at (since_of (view_of s) f)) (changed_won x.set.set x.won.set (has s.status.set) (has x.status.set) f c.p.invariant status_is)
          ∙ ap (λ (p : PlanView). cond (differ (has p.status f) (has s.status.set f)) p.at (since_of (view_of s) f)) c.p.view_is;
      trace = c.push_closed.ensures.items ∙ ap (λ (p : PlanView). s.trace.items ++ traced p.at p.base p.set) c.p.view_is;
      pending = λ q.
          c.put_all.ensures q
          ∙ (λ i. (ap (λ (u : Pendings). has u q) c.forget.ensures.set ∙ has-due s.pending.set (λ p. not (is_due_at x.at p)) q) i || list_any (eq_by_cmp pending_cmp q) (c.as_slice.ensures i))
          ∙ ap (λ (p : PlanView). (has s.pending.set q && not (is_due_at p.at q)) || list_any (eq_by_cmp pending_cmp q) p.joining) c.p.view_is;
      signals = c.clear.ensures.set;
    }
