use Rattle.std.proofs.Common.{ℕ, Some, sym, ap, subst, ◌∙◌}
use Rattle.std.specs.Prelude.{IfOk}
use mathlib.Core.List.{IsPrefix}
use Rattle.policy_words.specs.Naming.{NamedPolicy}
use Rattle.published_copies.specs.declared.views.ReaderView.{ReaderView}
use Rattle.snapshot_readers.specs.Glazed.{Glazed}
use Rattle.snapshot_readers.specs.Glances.{IsGlance, IsHistory}
use Rattle.snapshot_readers.proofs.glass.glance_by.Goals as goal

pub returns-in-Ok-clause-root : goal.returns-in-Ok-clause-root
returns-in-Ok-clause-root c = λ r is.
    ap (λ (v : ReaderView (NamedPolicy × ℕ)). v.root) (c.leave.ensures ∙ c.in-Ok.ensures.1) ∙ ap (λ (x : NamedPolicy × ℕ). Some x) (sym (c.in-Ok.ensures.0.root_is r is))

pub returns-in-Ok-clause-seen : goal.returns-in-Ok-clause-seen
returns-in-Ok-clause-seen c = subst (λ (v : ReaderView (NamedPolicy × ℕ)). IsPrefix c.args.sight.seen v.seen) (sym (c.leave.ensures ∙ c.in-Ok.ensures.1)) c.in-Ok.ensures.0.seen

pub returns-in-Ok-clause-ok : goal.returns-in-Ok-clause-ok
returns-in-Ok-clause-ok c = λ r is.
    let answer = c.peek_at-answer.result in
    let a = c.args.asked in
    let at = c.in-Ok.looking.replica in
    subst (λ (x : NamedPolicy × ℕ). IfOk answer (λ g. IsGlance x.0.policy x.1 c.leave.result.seen a.0 a.1 g)) (sym (c.in-Ok.ensures.0.root_is r is))
    (subst (λ (v : ReaderView (NamedPolicy × ℕ)). IfOk answer (λ g. IsGlance at.named.policy at.birth v.seen a.0 a.1 g)) (sym (c.leave.ensures ∙ c.in-Ok.ensures.1))
    (subst (λ (b : Glazed). IfOk answer (λ g. IsGlance b.named.policy b.birth b.seen a.0 a.1 g)) c.get.ensures c.peek_at-answer.ensures))

pub peek_at-answer-requires-clause-history : goal.peek_at-answer-requires-clause-history
peek_at-answer-requires-clause-history c = subst (λ (b : Glazed). IsHistory b.named.policy b.birth b.seen) (sym c.get.ensures) c.in-Ok.ensures.2
