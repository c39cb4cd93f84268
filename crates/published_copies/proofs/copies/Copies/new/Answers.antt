use Rattle.std.proofs.Common.{List, drop, fold, sym, ap, subst, ◌∙◌}
use Rattle.gt_base.specs.declared.requests.Entry.{Entry}
use Rattle.published_copies.proofs.Growing.{may_show}
use Rattle.published_copies.proofs.copies.Copies.new.Goals as goal

pub publish_as-writer-requires : goal.publish_as-writer-requires
publish_as-writer-requires g c next is =
    let w = c.in_ok-writer.writer in
    let shown = g.T.Absorb.state w.desk.shown.value in
    let same = is ∙ ap (λ (ess : List (List Entry)). fold g.T.Absorb.applied shown ess) c.in_ok-writer.ensures.1 in
    may_show g.T.Absorb.applied g.T.Replica.root g.T.Replica.list g.met.T.Replica.adds g.T.Replica.sound g.T.Absorb.state _ _ w.desk.shown.value next (drop w.behind w.log.items) is
    (λ ok. subst g.T.Replica.sound (sym same) ok)
