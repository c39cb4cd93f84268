use Rattle.policy_lines.proofs.Colons.{front_is, back_is, nothing_behind}
use Rattle.policy_lines.proofs.parts.at_colon.Goals as goal

pub returns-in_err-colon : goal.returns-in_err-colon
returns-in_err-colon c = rw c.from_residual.ensures (nothing_behind c.args.word.now c.in_err-colon.ensures)

pub returns : goal.returns
returns c =
    let found = c.in_ok-colon.ensures in (
      front_is c.args.word.now c.in_ok-colon.colon c.split_at.result.0.now found.0.high found.1 found.0.before c.split_at.ensures.front,
      back_is c.args.word.now c.in_ok-colon.colon c.split_at.result.1.now c.split_at-2.result.1.now found.0.high found.1 found.0.before c.split_at.ensures.back c.split_at-2.ensures.back,
    )
