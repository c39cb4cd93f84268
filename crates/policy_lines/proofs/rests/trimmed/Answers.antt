use Rattle.std.proofs.Common.{◌-◌, sym, ◌∙◌, arith, length, length-take}
use Rattle.policy_lines.proofs.Ends.{trimmed_blank, trimmed_end}
use Rattle.policy_lines.proofs.rests.trimmed.Goals as goal

pub loop-text-preserved : goal.loop-text-preserved
loop-text-preserved c =
    let text = c.loop-text.text.now in
    record {
      rest = sym (trimmed_blank text (length text - 1) (omega arith) (sym c.if-not-is_blank.ensures)) ∙ c.loop-text.invariant.rest;
      fewer = omega (arith, length-take (length text - 1) text, c.loop-text.invariant.fewer);
    }

pub returns-then-not-is_blank-clause-rest : goal.returns-then-not-is_blank-clause-rest
returns-then-not-is_blank-clause-rest c =
    let text = c.loop-text.text.now in
    sym (trimmed_end text (length text - 1) (omega arith) (sym c.if-not-is_blank.ensures)) ∙ c.loop-text.invariant.rest
