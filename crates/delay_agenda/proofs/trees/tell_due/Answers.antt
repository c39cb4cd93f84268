use Rattle.std.proofs.Common.{arith, ap, ◌∙◌, ◌≡◌, length, ◌∷◌}
use Rattle.delay_agenda.proofs.DueLaws.{told_more}
use Rattle.delay_agenda.proofs.trees.tell_due.Goals as goal

pub loop-p-preserved : goal.loop-p-preserved
loop-p-preserved c =
    let n : length c.loop-p.p-iterator ≡ length (c.in-Some.p.now ∷ c.next.new.self) = ap length c.in-Some.ensures.steps in
    record {
      spare = omega (arith, n, c.add.ensures.spare, c.loop-p.invariant.spare);
      signals = c.add.ensures.signals ∙ c.loop-p.invariant.signals;
      events = λ e. told_more _ _ c.in-Some.p.now _ c.next.new.self e _ c.in-Some.ensures.steps c.add.ensures.events (c.loop-p.invariant.events e);
    }
