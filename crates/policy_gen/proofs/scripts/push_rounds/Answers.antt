use Rattle.std.proofs.Common.{ℕ, ◌+◌, List, ◌++◌, ap, ◌∙◌, arith}
use Rattle.gt_text.specs.Words.{as_text}
use Rattle.policy_gen.specs.Texts.{round_lines}
use Rattle.policy_gen.proofs.Growing.{lines_further}
use Rattle.policy_gen.proofs.Drawing.{draws_on, minute_on, lines_on}
use Rattle.policy_gen.proofs.scripts.push_rounds.Goals as goal

pub loop-n-preserved : goal.loop-n-preserved
loop-n-preserved c =
    let inv = c.loop-n.invariant in
    let seed = c.args.seed in
    let k = c.args.k in
    let n = c.loop-n.n in
    let r = c.next_round-round.result in
    let drawn = c.next_round-round.ensures.round in
    let minute = minute_on seed k n c.loop-n.draws c.loop-n.minute r inv.draws drawn inv.minute in
    record {
      draws = draws_on seed n c.loop-n.draws c.next_round-round.new.draws inv.draws c.next_round-round.ensures.next;
      minute = minute;
      bound = omega (arith, inv.bound, c.next_round-round.ensures.minutes);
      text = lines_further (round_lines seed k) 0 n n _ _ _ (omega arith) inv.text
          (c.in_ok-push_round.ensures ∙ ap (λ (ls : List (List ℕ)). c.loop-n.text.items ++ as_text ls) (lines_on seed k n c.loop-n.draws (c.loop-n.minute + r.minutes) r inv.draws drawn minute));
    }
