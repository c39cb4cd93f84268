use Rattle.std.proofs.Common.{◌≡◌, ◌<◌, ap, sym, ◌∙◌, subst, arith}
use Rattle.gt_base.specs.Sets.{with_member}
use Rattle.delay_agenda.specs.Due.{Pendings, pending_at}
use Rattle.time_engine.specs.Kept.{view_of}
use Rattle.time_engine.specs.Plans.{IsTimeline}
use Rattle.time_engine.proofs.Following.{requested_kept}
use Rattle.time_engine.proofs.timelines.Timeline.request.Goals as goal

pub invariant_of-self-2 : goal.invariant_of-self-2
invariant_of-self-2 c =
    let s = c.self.inside.state in
    let later : s.present < c.in-Some.due = omega (arith, c.in-Some.ensures.some) in
    let is : c.put.new.self.set ≡ with_member s.pending.set (pending_at c.in-Some.due c.args.p) = c.put.ensures.set ∙ ap (λ (ps : Pendings). with_member ps (pending_at c.in-Some.due c.args.p)) c.reserve.ensures.set in (
      subst (λ (ps : Pendings). IsTimeline (record (view_of s) { pending = ps })) (sym is) (requested_kept (view_of s) c.in-Some.due c.args.p c.self.invariant.0 later),
      c.self.invariant.1,
    )
