use Rattle.std.proofs.Common.{◌≡◌, ◌+◌, ◌++◌, [], length, take, drop, min, Ok, Err, ap, subst, sym, ◌∙◌}
use Rattle.gt_io.specs.Causes.{HasCause}
use Rattle.gt_io.specs.Memory.{Supply, GivesPiece}
use Rattle.gt_io.proofs.Stops.{counted_end}
use Rattle.gt_io.proofs.Supplies.{supply_at, refused_cause, refused_piece, answered_piece}
use Rattle.gt_io.proofs.memory.MemSourceSource.read.Goals as goal

pub returns-then-begin-clause-cause : goal.returns-then-begin-clause-cause
returns-then-begin-clause-cause c =
    subst (λ (s : Supply). HasCause s.calls.faults c.begin.new.self.faults (Err _)) c.self.view_is
    (refused_cause c.self.inside.calls c.begin.new.self _ c.if-begin.ensures.made c.begin.ensures.later)

pub returns-then-begin-clause-piece : goal.returns-then-begin-clause-piece
returns-then-begin-clause-piece c =
    let s = c.self.inside in
    subst (λ (o : Supply). GivesPiece o (supply_at s.bytes.items s.at s.piece c.begin.new.self s.ends) (length c.args.buf.now) (Err _)) c.self.view_is
    (refused_piece (supply_at s.bytes.items s.at s.piece s.calls s.ends) c.begin.new.self (length c.args.buf.now) _ c.if-begin.ensures.listed c.if-begin.ensures.made)

pub returns-clause-bytes : goal.returns-clause-bytes
returns-clause-bytes c =
    let at = c.self.inside.at in
    let n = c.give-n.result in (
      ap (λ (s : Supply). s.left) (sym c.self.view_is) ∙ subst (λ bs. drop at bs ≡ take n c.give-n.new.buf ++ drop (at + n) bs) c.as_slice.ensures c.give-n.ensures.given,
      λ none room. subst (λ bs. drop (at + n) bs ≡ []) c.as_slice.ensures (c.give-n.ensures.end none room),
    )

pub returns-clause-piece : goal.returns-clause-piece
returns-clause-piece c =
    let s = c.self.inside in
    let n = c.give-n.result in
    subst (λ (o : Supply). GivesPiece o (supply_at s.bytes.items (s.at + n) s.piece c.begin.new.self c.count_end-ends.result) (length c.args.buf.now) (Ok n)) c.self.view_is
    (answered_piece (supply_at s.bytes.items s.at s.piece s.calls s.ends) c.begin.new.self n (length c.args.buf.now) (take (s.at + n) s.bytes.items) (drop (s.at + n) s.bytes.items) c.count_end-ends.result c.if-begin.ensures.listed
    c.if-begin.ensures.made (c.give-n.ensures.number ∙ (λ i. min (length (drop s.at (c.as_slice.ensures i))) (min (c.give-n.auto.buf i) s.piece)))
    (subst (λ bs. take (s.at + n) bs ≡ take s.at bs ++ take n (drop s.at bs)) c.as_slice.ensures c.give-n.ensures.taken)
    (subst (λ bs. drop (s.at + n) bs ≡ drop n (drop s.at bs)) c.as_slice.ensures c.give-n.ensures.left) (counted_end n _ _ c.count_end-ends.ensures.end c.count_end-ends.ensures.more))
