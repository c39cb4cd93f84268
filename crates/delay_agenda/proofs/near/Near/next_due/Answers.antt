use Rattle.std.proofs.Common.{refl, is_some, ap, sym, arith, ◌∙◌}
use Rattle.delay_agenda.proofs.DueLaws.{last_is_least, no_last, some_last}
use Rattle.delay_agenda.proofs.RowLaws.{least_of_both, least_of_row, least_of_tree, no_items, both_empty, then_empty}
use Rattle.delay_agenda.proofs.near.Near.next_due.Goals as goal

pub returns-in-Some-Some-clause-none : goal.returns-in-Some-Some-clause-none
returns-in-Some-Some-clause-none c = (λ e. cc, λ e. absurd (omega (arith, then_empty _ _ (ap (λ v. v.set) c.self.view_is ∙ e), c.in-Some-Some.ensures.variant.0 refl)))

pub returns-in-Some-Some-clause-some : goal.returns-in-Some-Some-clause-some
returns-in-Some-Some-clause-some c =
    rw (← c.self.view_is, ← c.deref.ensures.value)
    (least_of_both _ _ _ _ _ (last_is_least _ _ c.self.invariant.tree_rises c.in-Some-Some.ensures.last) (last_is_least _ _ (rw c.deref.ensures.value c.self.invariant.row_rises) (sym c.in-Some-Some.ensures'.value)) c.lesser.ensures)

pub returns-in-Some-None-clause-none : goal.returns-in-Some-None-clause-none
returns-in-Some-None-clause-none c = (λ e. cc, λ e. absurd (omega (arith, then_empty _ _ (ap (λ v. v.set) c.self.view_is ∙ e), c.in-Some-None.ensures.variant.0 refl)))

pub returns-in-Some-None-clause-some : goal.returns-in-Some-None-clause-some
returns-in-Some-None-clause-some c =
    rw (← c.self.view_is, ← c.deref.ensures.value)
    (least_of_tree _ _ _ (last_is_least _ _ c.self.invariant.tree_rises c.in-Some-None.ensures.last) (no_last _ c.in-Some-None.ensures'.value))

pub returns-in-None-Some-clause-none : goal.returns-in-None-Some-clause-none
returns-in-None-Some-clause-none c =
    (λ e. cc, λ e. absurd (omega (arith, then_empty _ _ (ap (λ v. v.set) c.self.view_is ∙ e), some_last c.deref.result.now c.in-None-Some.q.now (sym c.in-None-Some.ensures'.value), c.deref.ensures.len)))

pub returns-in-None-Some-clause-some : goal.returns-in-None-Some-clause-some
returns-in-None-Some-clause-some c =
    rw (← c.self.view_is, ← c.deref.ensures.value)
    (least_of_row _ _ _ (last_is_least _ _ (rw c.deref.ensures.value c.self.invariant.row_rises) (sym c.in-None-Some.ensures'.value)) (no_items _ (λ lt. sym (ap is_some c.in-None-Some.is-0) ∙ c.last.ensures.variant.1 lt)))

pub returns-in-None-None-clause-none : goal.returns-in-None-None-clause-none
returns-in-None-None-clause-none c = (λ e. rw (← c.self.view_is, ← c.deref.ensures.value) (both_empty _ _ (no_items _ c.in-None-None.ensures.variant.1) (no_last _ c.in-None-None.ensures'.value)), λ e. refl)
