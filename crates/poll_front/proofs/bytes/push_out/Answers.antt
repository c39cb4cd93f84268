use Rattle.std.proofs.Common.{ap, subst, ◌∙◌, ◌++◌, [], refl, arith, append-nil, List, ℕ, take, length, length-drop, Ok, Err}
use Rattle.std.specs.Io.KnownBytes.{Appends}
use Rattle.std.proofs.KnownBytes.{Appends-trans}
use Rattle.gt_io.specs.Ports.{Port, is_over}
use Rattle.poll_front.specs.declared.ends.PollEnd.TheVariants.{WriteFault}
use Rattle.poll_front.specs.declared.states.Yield.TheVariants.{Later, End}
use Rattle.poll_front.proofs.Calls.{calls_none, calls_twice, calls_write, live_kept, given_grows}
use Rattle.poll_front.proofs.bytes.push_out.Goals as goal

pub loop-at-init : goal.loop-at-init
loop-at-init g c =
    record {
      calls = calls_none (g.P.Ports.harbour c.args.ports.now) c.args.link c.requires.live.live;
      live = c.requires.live;
      taken = refl;
      left = refl;
      within = (omega arith, c.requires.within);
      given = λ start front x. x;
    }

pub loop-at-preserved : goal.loop-at-preserved
loop-at-preserved g c =
    let inv = c.loop-at.invariant in
    let b = g.P.Ports.harbour c.loop-at.ports in
    let d = g.P.Ports.harbour c.write.new.self in
    let w = rw c.in-Ok-Bytes.field-0-is at c.in-Ok-Bytes.ensures in
    let t = calls_write (Ok tt) w (ap (λ (q : Port). is_over q.last) w.port.rest) (λ is. absurd cc) in
    let n = c.in-Ok-Bytes.n in
    let back = c.split_at.ensures.back in
    record {
      calls = calls_twice inv.calls t;
      live = live_kept t inv.live;
      taken = ap (λ (q : Port). q.taken) w.port.rest ∙ inv.taken;
      left = ap (λ (q : Port). q.left) w.port.rest ∙ inv.left;
      within = let h = inv.within in let m = w.bound.1 in let l = ap (λ (l : List ℕ). length l) back in (omega (arith, h), omega (arith, h, m, l, length-drop c.loop-at.at c.args.text.now));
      given = λ start front x.
          given_grows start (b.port c.args.link).given (d.port c.args.link).given front c.args.text.now c.loop-at.at n (inv.given start front x)
          (subst (λ (l : List ℕ). Appends (b.port c.args.link).given (d.port c.args.link).given (take n l)) back w.port.given);
    }

pub returns-in-Ok-NotYet : goal.returns-in-Ok-NotYet
returns-in-Ok-NotYet g c =
    let inv = c.loop-at.invariant in
    let b = g.P.Ports.harbour c.loop-at.ports in
    let d = g.P.Ports.harbour c.write.new.self in
    let w = rw c.in-Ok-NotYet.field-0-is at c.in-Ok-NotYet.ensures in
    let some = c.loop-at-test.true in
    record {
      calls = calls_twice inv.calls (calls_write (Err Later) w tt (λ is. ap (λ (q : Port). q.owed) w.port.rest));
      taken = ap (λ (q : Port). q.taken) w.port.rest ∙ inv.taken;
      left = ap (λ (q : Port). q.left) w.port.rest ∙ inv.left;
      within = inv.within;
      given = λ start front x.
          let l = front ++ take c.loop-at.at c.args.text.now in
          subst (λ (z : List ℕ). Appends start (d.port c.args.link).given z) (append-nil l) (Appends-trans start (b.port c.args.link).given (d.port c.args.link).given l [] (inv.given start front x) w.port.given);
      pushed = (omega (arith, some), ap (λ (q : Port). q.last) w.port.rest);
    }

pub returns-in-Err : goal.returns-in-Err
returns-in-Err g c =
    let inv = c.loop-at.invariant in
    let b = g.P.Ports.harbour c.loop-at.ports in
    let d = g.P.Ports.harbour c.write.new.self in
    let w = c.in-Err.ensures in
    let some = c.loop-at-test.true in
    record {
      calls = calls_twice inv.calls (calls_write (Err (End WriteFault)) w tt (λ is. absurd cc));
      taken = ap (λ (q : Port). q.taken) w.port.rest ∙ inv.taken;
      left = ap (λ (q : Port). q.left) w.port.rest ∙ inv.left;
      within = inv.within;
      given = λ start front x.
          let l = front ++ take c.loop-at.at c.args.text.now in
          subst (λ (z : List ℕ). Appends start (d.port c.args.link).given z) (append-nil l) (Appends-trans start (b.port c.args.link).given (d.port c.args.link).given l [] (inv.given start front x) w.port.given);
      pushed = (omega (arith, some), (_, ap (λ (q : Port). q.last) w.port.rest));
    }
