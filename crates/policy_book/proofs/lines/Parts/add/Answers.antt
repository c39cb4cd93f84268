use Rattle.std.proofs.Common.{arith}
use Rattle.policy_book.proofs.Keeping.{one_more}
use Rattle.policy_book.proofs.lines.Parts.add.Goals as goal

pub invariant_of-self-2 : goal.invariant_of-self-2
invariant_of-self-2 c =
    rw c.in_ok-push.ensures.items
    (one_more c.self.inside.parts.items _ c.self.invariant c.requires.said (rw c.self.view_is c.requires.later) (rw c.self.view_is c.requires.placed) (omega (arith, c.if-len.false, c.len.ensures)))
