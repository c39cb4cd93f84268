use Rattle.std.proofs.Common.{◌≡◌, ◌+◌, ◌*◌, ◌≤◌, ◌++◌, flat_map}
use Rattle.std.specs.List.{range_with_len}
use Rattle.gt_text.specs.Words.{as_text}
use Rattle.policy_gen.specs.Draws.{draw, minute_after}
use Rattle.policy_gen.specs.Texts.{round_lines}
use Rattle.policy_gen.proofs.scripts.push_rounds.Given as goal
use Rattle.policy_gen.specs.declared.scripts.TheConstants.{FIRST_MINUTE}

abbrev pub invariant-loop-n : goal.invariant-loop-n
invariant-loop-n l =
    record {
      draws : l.draws ≡ draw l.seed (4 * l.n);
      minute : l.minute ≡ minute_after l.seed l.k l.n;
      bound : l.minute ≤ FIRST_MINUTE + 60 * l.n;
      text : l.text.items ≡ l.fn.text.items ++ as_text (flat_map (round_lines l.seed l.k) (range_with_len 0 l.n));
    }
