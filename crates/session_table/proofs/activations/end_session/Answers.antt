use Rattle.std.proofs.Common.{◌≡◌, ◌+◌, ◌≤◌, suc, false, drop, count_by, slice_get, take, Some, sym, ap, subst, ◌∙◌, arith}
use Rattle.gtrbac_model.specs.Sessions.{signal_of}
use Rattle.session_table.specs.Opened.{in_session}
use Rattle.session_table.proofs.Ending.{Ends, begins, out, stays, all_out, all_told}
use Rattle.session_table.proofs.activations.end_session.Goals as goal

pub loop-at-init : goal.loop-at-init
loop-at-init c = record {
  ends = begins (in_session c.args.session) (signal_of false) c.args.active.now.items c.args.signals.now.items c.start-at.result c.args.most c.requires.few
      (subst (λ xs. count_by (in_session c.args.session) (take c.start-at.result xs) ≤ 0) c.as_slice.ensures c.start-at.ensures);
  room = c.requires.room;
}

pub returns-then-left-eq0-clause-active : goal.returns-then-left-eq0-clause-active
returns-then-left-eq0-clause-active c =
    let none : count_by (in_session c.args.session) (drop c.loop-at.at c.loop-at.active.items) ≤ 0 = omega (arith, c.loop-at.invariant.ends.few, c.if-left-eq0.true) in
    all_out (in_session c.args.session) (signal_of false) c.args.active.now.items c.loop-at.active.items c.args.signals.now.items c.loop-at.signals.items c.loop-at.at c.loop-at.left c.loop-at.invariant.ends none

pub returns-then-left-eq0-clause-signals : goal.returns-then-left-eq0-clause-signals
returns-then-left-eq0-clause-signals c =
    let none : count_by (in_session c.args.session) (drop c.loop-at.at c.loop-at.active.items) ≤ 0 = omega (arith, c.loop-at.invariant.ends.few, c.if-left-eq0.true) in
    all_told (in_session c.args.session) (signal_of false) c.args.active.now.items c.loop-at.active.items c.args.signals.now.items c.loop-at.signals.items c.loop-at.at c.loop-at.left c.loop-at.invariant.ends none

pub loop-at-preserved-then-is_in_session : goal.loop-at-preserved-then-is_in_session
loop-at-preserved-then-is_in_session c =
    let is : slice_get c.loop-at.active.items c.loop-at.at ≡ Some c.activation_at-a.result = ap (λ xs. slice_get xs c.loop-at.at) (sym c.as_slice-in-loop-at.ensures) ∙ c.activation_at-a.ensures in
    record {
      ends = out (in_session c.args.session) (signal_of false) c.args.active.now.items c.loop-at.active.items c.args.signals.now.items c.loop-at.signals.items c.loop-at.at c.loop-at.left c.loop-at.invariant.ends c.activation_at-a.result is
          (sym c.is_in_session.ensures ∙ c.if-is_in_session.true) c.remove.new.self.items c.remove.ensures.items c.tell.new.signals.items c.tell.ensures.items;
      room = omega (arith, c.tell.ensures.len, c.tell.ensures.capacity, c.loop-at.invariant.room, c.if-left-eq0.false);
    }

pub loop-at-preserved : goal.loop-at-preserved
loop-at-preserved c =
    let is : slice_get c.loop-at.active.items c.loop-at.at ≡ Some c.activation_at-a.result = ap (λ xs. slice_get xs c.loop-at.at) (sym c.as_slice-in-loop-at.ensures) ∙ c.activation_at-a.ensures in
    let next : suc c.loop-at.at ≡ c.loop-at.at + 1 = omega arith in
    record {
      ends = subst (λ k. Ends (in_session c.args.session) (signal_of false) c.args.active.now.items c.loop-at.active.items c.args.signals.now.items c.loop-at.signals.items k c.loop-at.left) next
          (stays (in_session c.args.session) (signal_of false) c.args.active.now.items c.loop-at.active.items c.args.signals.now.items c.loop-at.signals.items c.loop-at.at c.loop-at.left c.loop-at.invariant.ends c.activation_at-a.result is
          (sym c.is_in_session.ensures ∙ c.if-is_in_session.false));
      room = c.loop-at.invariant.room;
    }
