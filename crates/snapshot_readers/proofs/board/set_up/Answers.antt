use Rattle.std.proofs.Common.{sym, ◌∙◌}
use Rattle.snapshot_readers.proofs.Taking.{history_of}
use Rattle.snapshot_readers.proofs.board.set_up.Goals as goal

pub new-requires-clause-sound : goal.new-requires-clause-sound
new-requires-clause-sound g c =
    let first = c.new-first.ensures in
    history_of c.args.left c.new-first.result.named c.new-first.result.birth c.new-first.result.seen c.keeps.ensures.kept first.root.0 first.root.1 (first.empty ∙ sym c.requires.empty.0)
