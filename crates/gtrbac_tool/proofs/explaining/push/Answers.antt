use Rattle.why_check.specs.Standing.{stands_in}
use Rattle.gtrbac_tool.proofs.ListingOrder.{there_more, stands_noted}
use Rattle.gtrbac_tool.proofs.ListingTrace.{on_ok}
use Rattle.gtrbac_tool.specs.Joined.{has_joined}
use Rattle.gtrbac_tool.proofs.explaining.push.Goals as goal

pub returns-clause-tracks : goal.returns-clause-tracks
returns-clause-tracks c =
    let e = c.args.e.now in
    on_ok c.note.result
    (λ noted tracks. record {
      there = there_more c.args.order.now.events.items _ (has_joined c.args.order.now.there) _ e c.in_ok-push.ensures.items c.in_ok-add.ensures tracks.there;
      standing = stands_noted c.args.x.now c.args.order.now.events.items _ e (stands_in c.args.order.now.standing) (stands_in c.note.new.self) c.in_ok-push.ensures.items noted tracks.standing;
    })
    c.note.ensures
