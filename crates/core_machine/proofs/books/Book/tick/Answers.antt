use Rattle.std.proofs.Common.{◌≡◌, ◌<◌, ◌≤◌, ◌⊎◌, inl, inr, length, refl, sym, ap, subst, ◌∙◌, arith}
use Rattle.std.proofs.lemmas.Result.{IfOk-weaker, on_err_weaker}
use Rattle.core_machine.specs.Books.{BookView, TicksFurther, IsLegalBook, Ticks, now_in}
use Rattle.core_machine.specs.Coherent.{view_of}
use Rattle.std.proofs.lemmas.Map.Keys.{le_from_is_le}
use Rattle.gt_base.specs.declared.limits.TheConstants.{MAX_STEPS}
use Rattle.core_machine.proofs.Stops.{past}
use Rattle.core_machine.proofs.Sames.{on_ok, step_err, step_not_full, step_ok}
use Rattle.core_machine.proofs.books.Book.tick.Goals as goal
use Rattle.core_machine.proofs.books.Book.tick.Goals.{After-le}

pub go_on-requires-clause-room : goal.go_on-requires-clause-room
go_on-requires-clause-room c = omega (arith, c.len.ensures)

module _ (c : After-le) where
  now_is : c.now-now.result ≡ now_in c.args.self.now
  now_is = c.now-now.ensures ∙ c.self.invariant.follows.now ∙ ap (λ (b : BookView). now_in b) c.self.view_is

pub returns-then-le-clause-ok : goal.returns-then-le-clause-ok
returns-then-le-clause-ok c =
    let is : c.now-now.result ≡ now_in c.args.self.now = now_is (goal.at.returns-then-le-clause-ok c).After-le in
    inl (omega (arith, is, le_from_is_le c.args.upto c.now-now.result (sym c.le.ensures ∙ c.if-le.true)), is, refl)

pub returns-then-le-clause-legal : goal.returns-then-le-clause-legal
returns-then-le-clause-legal c = subst IsLegalBook c.self.view_is c.self.invariant.legal

pub returns-then-le-clause-room : goal.returns-then-le-clause-room
returns-then-le-clause-room c =
    inl (omega (arith, now_is (goal.at.returns-then-le-clause-room c).After-le, le_from_is_le c.args.upto c.now-now.result (sym c.le.ensures ∙ c.if-le.true)))

pub returns-then-len-ge-MAX_STEPS-clause-legal : goal.returns-then-len-ge-MAX_STEPS-clause-legal
returns-then-len-ge-MAX_STEPS-clause-legal c = subst IsLegalBook c.self.view_is c.self.invariant.legal

pub returns-then-len-ge-MAX_STEPS-clause-full : goal.returns-then-len-ge-MAX_STEPS-clause-full
returns-then-len-ge-MAX_STEPS-clause-full c = λ e. (omega (arith, now_is (goal.at.returns-then-len-ge-MAX_STEPS-clause-full c).After-le, past c.args.upto c.now-now.result (sym c.le.ensures ∙ c.if-le.false)), omega (arith, c.len.ensures, c.self.invariant.short, ap (λ (b : BookView). length b.entries) c.self.view_is))

pub returns-clause-ok : goal.returns-clause-ok
returns-clause-ok c =
    let new : BookView = view_of c.go_on.new.s in
    let later : now_in c.args.self.now < c.args.upto = omega (arith, now_is (goal.at.returns-clause-ok c).After-le, past c.args.upto c.now-now.result (sym c.le.ensures ∙ c.if-le.false)) in
    rw c.or_memory.ensures
    (step_ok c.go_on.result (λ to. Ticks c.args.self.now c.args.who c.args.upto to new)
    (IfOk-weaker c.go_on.result (λ to. TicksFurther (view_of c.self.inside.state) new c.args.who c.args.upto to) (λ to. Ticks c.args.self.now c.args.who c.args.upto to new)
    (λ to g. inr (later, subst (λ (b : BookView). TicksFurther b new c.args.who c.args.upto to) c.self.view_is g)) c.go_on.ensures.ok))

pub returns-clause-legal : goal.returns-clause-legal
returns-clause-legal c = c.go_on.ensures.kept.legal

pub returns-clause-err : goal.returns-clause-err
returns-clause-err c = rw c.or_memory.ensures (step_err c.go_on.result _ (on_err_weaker c.go_on.result (λ e. e ∙ c.self.view_is) c.go_on.ensures.err))

pub returns-clause-full : goal.returns-clause-full
returns-clause-full c = λ e. absurd (step_not_full c.go_on.result (sym c.or_memory.ensures ∙ e))

pub returns-clause-room : goal.returns-clause-room
returns-clause-room c = on_ok c.or_memory.result ((c.args.upto ≤ now_in c.args.self.now) ⊎ (length c.args.self.now.entries < MAX_STEPS)) (inr (omega (arith, c.len.ensures, ap (λ (b : BookView). length b.entries) c.self.view_is)))
