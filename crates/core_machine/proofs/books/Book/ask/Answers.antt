use Rattle.std.proofs.Common.{◌<◌, length, sym, ap, subst, ◌∙◌, arith}
use Rattle.std.specs.Prelude.{IfOk}
use Rattle.std.proofs.lemmas.Result.{on_err_weaker}
use Rattle.gt_base.specs.declared.limits.TheConstants.{MAX_STEPS}
use Rattle.gtrbac_model.specs.History.{IsNamedWish, ask}
use Rattle.core_machine.specs.Books.{Asks, BookView, IsLegalBook}
use Rattle.core_machine.specs.Coherent.{view_of}
use Rattle.core_machine.proofs.Sames.{on_ok, step_err, step_not_full, step_ok}
use Rattle.core_machine.proofs.books.Book.ask.Goals as goal

pub answer-requires : goal.answer-requires
answer-requires c =
    record {
      kept = c.self.invariant;
      room = omega (arith, c.len.ensures);
      named = subst (λ (b : BookView). IsNamedWish b.named.policy (ask c.args.actor c.args.request)) (sym c.self.view_is) c.requires;
    }

pub returns-clause-ok : goal.returns-clause-ok
returns-clause-ok c =
    let new : BookView = view_of c.answer.new.s in
    rw c.or_memory.ensures
    (step_ok c.answer.result (λ reply. Asks c.args.self.now c.args.who c.args.actor c.args.request reply new)
    (subst (λ (b : BookView). IfOk c.answer.result (λ reply. Asks b c.args.who c.args.actor c.args.request reply new)) c.self.view_is c.answer.ensures.ok))

pub returns-clause-legal : goal.returns-clause-legal
returns-clause-legal c = c.answer.ensures.kept.legal

pub returns-clause-err : goal.returns-clause-err
returns-clause-err c = rw c.or_memory.ensures (step_err c.answer.result _ (on_err_weaker c.answer.result (λ e. e ∙ c.self.view_is) c.answer.ensures.err))

pub returns-clause-full : goal.returns-clause-full
returns-clause-full c = λ e. absurd (step_not_full c.answer.result (sym c.or_memory.ensures ∙ e))

pub returns-clause-room : goal.returns-clause-room
returns-clause-room c = on_ok c.or_memory.result (length c.args.self.now.entries < MAX_STEPS) (omega (arith, c.len.ensures, ap (λ (b : BookView). length b.entries) c.self.view_is))

pub returns-then-len-ge-MAX_STEPS-clause-legal : goal.returns-then-len-ge-MAX_STEPS-clause-legal
returns-then-len-ge-MAX_STEPS-clause-legal c = subst IsLegalBook c.self.view_is c.self.invariant.legal

pub returns-then-len-ge-MAX_STEPS-clause-full : goal.returns-then-len-ge-MAX_STEPS-clause-full
returns-then-len-ge-MAX_STEPS-clause-full c = λ e. omega (arith, c.len.ensures, c.self.invariant.short, ap (λ (b : BookView). length b.entries) c.self.view_is)
