use Rattle.std.proofs.Common.{◌≡◌, ◌+◌, ◌<◌, ◌^◌, List, ◌++◌, length, ℕ}
use Rattle.core_machine.specs.Books.{SameRoot}
use Rattle.gtrbac_tool.specs.Script.{MovesThrough, at_birth}
use Rattle.gtrbac_tool.specs.RunStates.{run_state_of, IsActorOf}
use Rattle.gtrbac_tool.specs.Writing.{Hands}
use Rattle.gtrbac_tool.proofs.script.play_out.Given as goal

-- the lines so far were played; of the text of their replies a part was written, and the rest waits
abbrev pub invariant-loop-line : goal.invariant-loop-line
invariant-loop-line g l =
    record {
      root : SameRoot l.initial.run.book l.run.book;
      actor : IsActorOf l.run.book l.run.actor;
      front : List (List ℕ);
      parts : l.initial.lines ≡ front ++ l.lines;
      sent : List ℕ;
      plays : MovesThrough l.initial.run.book.named l.initial.run.book.birth front (at_birth l.initial.run.book.named l.initial.run.book.birth) (run_state_of l.run.book l.run.actor (sent ++ l.run.text.items));
      at : l.number ≡ l.before + length front;
      count : l.number + length l.lines < 2 ^ 32;
      hands : Hands l.pieces (g.K.Sink.output l.fn.out) (g.K.Sink.output l.out) sent;
    }

abbrev pub decreases-loop-line : goal.decreases-loop-line
decreases-loop-line g l = length l.lines
