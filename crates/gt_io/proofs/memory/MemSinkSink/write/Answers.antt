use Rattle.std.proofs.Common.{◌-◌, length, min, Ok, Err, ap, subst, ◌∙◌}
use Rattle.gt_io.specs.Memory.{Store, TakesPiece}
use Rattle.gt_io.proofs.Supplies.{refused_write, no_space, full_write, taken_write}
use Rattle.gt_io.proofs.memory.MemSinkSink.write.Goals as goal

pub returns-then-begin-clause-piece : goal.returns-then-begin-clause-piece
returns-then-begin-clause-piece c =
    let s = c.self.inside in
    let after : Store = record { written = s.taken.items; room = s.room; piece = s.piece; calls = c.begin.new.self } in
    subst (λ (o : Store). TakesPiece o after c.args.piece.now (Err _)) c.self.view_is
    (refused_write (record after { calls = s.calls }) c.begin.new.self c.args.piece.now _ c.if-begin.ensures.listed c.if-begin.ensures.made)

pub returns-then-n-eq0-clause-piece : goal.returns-then-n-eq0-clause-piece
returns-then-n-eq0-clause-piece c =
    let s = c.self.inside in
    let after : Store = record { written = s.taken.items; room = s.room; piece = s.piece; calls = c.fail.new.self } in
    let full =
    no_space c.min-n.result (length c.args.piece.now) s.piece s.room (length s.taken.items) c.min.result c.requires c.self.invariant.0 c.min-n.ensures
    (c.min.ensures ∙ ap (λ k. min s.piece (s.room - k)) c.len.ensures) c.if-n-eq0.true in
    subst (λ (o : Store). TakesPiece o after c.args.piece.now (Err _)) c.self.view_is
    (full_write (record after { calls = s.calls }) c.begin.new.self c.fail.new.self c.args.piece.now _ full c.if-begin.ensures.made c.fail.ensures.failed)

pub returns-clause-piece : goal.returns-clause-piece
returns-clause-piece c =
    let s = c.self.inside in
    let after : Store = record { written = c.extend_from_slice.new.self.items; room = s.room; piece = s.piece; calls = c.begin.new.self } in
    subst (λ (o : Store). TakesPiece o after c.args.piece.now (Ok c.min-n.result)) c.self.view_is
    (taken_write (record { written = s.taken.items; room = s.room; piece = s.piece; calls = s.calls }) c.begin.new.self c.min-n.result c.min.result c.args.piece.now c.extend_from_slice.new.self.items
    c.if-begin.ensures.listed c.if-begin.ensures.made c.min-n.ensures (c.min.ensures ∙ ap (λ k. min s.piece (s.room - k)) c.len.ensures) c.if-n-eq0.false c.extend_from_slice.ensures.items)
