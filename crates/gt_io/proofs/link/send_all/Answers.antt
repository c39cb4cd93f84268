use Rattle.std.proofs.Common.{arith, ◌+◌, ◌-◌, ◌∙◌, ap, drop, length, length-drop}
use Rattle.std.proofs.lemmas.List.{drop-drop, take_all}
use Rattle.std.proofs.Math.Seq.{take-add}
use Rattle.std.proofs.KnownBytes.{Appends-trans}
use Rattle.gt_io.proofs.Traffic.{nothing_twice}
use Rattle.gt_io.proofs.link.send_all.Goals as goal

pub loop-rest-preserved : goal.loop-rest-preserved
loop-rest-preserved g c =
    let inv = c.loop-rest.invariant in
    record {
      n = inv.n + c.in_ok-n.n;
      left =
          let rest = c.loop-rest.rest.now in
          take_all (length rest - c.in_ok-n.n) (drop c.in_ok-n.n rest) (omega (arith, length-drop c.in_ok-n.n rest)) ∙ ap (drop c.in_ok-n.n) inv.left ∙ drop-drop c.in_ok-n.n inv.n c.args.text.now;
      within =
          let rest = ap length inv.left ∙ length-drop inv.n c.args.text.now in
          let within = inv.within in
          let bound = c.in_ok-n.ensures.bound.1 in
          omega (arith, rest, within, bound);
      given = rw (take-add inv.n c.in_ok-n.n c.args.text.now) (rw (← inv.left) (Appends-trans _ _ _ _ _ inv.given c.in_ok-n.ensures.bytes));
      reads = nothing_twice _ _ _ inv.reads c.in_ok-n.ensures.reads;
      kept = c.in_ok-n.ensures.cause.kept ∙ inv.kept;
      held = c.in_ok-n.ensures.held ∙ inv.held;
    }
