use Rattle.std.proofs.Common.{ℕ, [], append-nil, Some, sym, ap, subst, ◌∙◌}
use mathlib.Core.List.{IsPrefix}
use Rattle.policy_words.specs.Naming.{NamedPolicy}
use Rattle.published_copies.specs.declared.views.ReaderView.{ReaderView}
use Rattle.snapshot_readers.specs.Glazed.{Glazed}
use Rattle.snapshot_readers.proofs.glass.told_by.Goals as goal

pub returns-in-Ok-clause-root : goal.returns-in-Ok-clause-root
returns-in-Ok-clause-root c = λ r is.
    ap (λ (v : ReaderView (NamedPolicy × ℕ)). v.root) (c.leave.ensures ∙ c.in-Ok.ensures.1) ∙ ap (λ (x : NamedPolicy × ℕ). Some x) (sym (c.in-Ok.ensures.0.root_is r is))

pub returns-in-Ok-clause-seen : goal.returns-in-Ok-clause-seen
returns-in-Ok-clause-seen c = subst (λ (v : ReaderView (NamedPolicy × ℕ)). IsPrefix c.args.sight.seen v.seen) (sym (c.leave.ensures ∙ c.in-Ok.ensures.1)) c.in-Ok.ensures.0.seen

pub returns-in-Ok-clause-told : goal.returns-in-Ok-clause-told
returns-in-Ok-clause-told c = λ yes.
    subst (λ (v : ReaderView (NamedPolicy × ℕ)). IsPrefix c.args.entries.now v.seen) (sym (c.leave.ensures ∙ c.in-Ok.ensures.1))
    (subst (λ (b : Glazed). IsPrefix c.args.entries.now b.seen) c.get.ensures ([], append-nil c.args.entries.now ∙ c.shows_all-told.ensures yes))
