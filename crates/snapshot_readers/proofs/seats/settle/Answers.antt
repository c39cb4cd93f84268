use Rattle.std.proofs.Common.{◌∙◌, refl}
use Rattle.published_copies.proofs.Growing.{prefix_trans}
use Rattle.snapshot_readers.proofs.seats.settle.Goals as goal

pub returns-in-Ok : goal.returns-in-Ok
returns-in-Ok g c =
    let old = c.args.seat.now.glass.seen in
    let seen = c.told.new.self.seen in
    let new = c.glance.new.self.seen in
    let asked = c.if-not-told.ensures in
    let shown = c.in-Ok.ensures in
    let reply = shown.ok.reply in
    record {
      viewer = refl;
      same = (shown.root.0 ∙ asked.root.0, shown.root.1 ∙ asked.root.1);
      grows = prefix_trans old seen new asked.seen shown.seen;
      told = λ yes. (prefix_trans c.args.entries.now seen new (asked.told refl) shown.seen, record { model = reply.model; legal = reply.legal; named = reply.named });
    }
