use Rattle.std.proofs.Common.{List, sym, subst, ◌∙◌}
use Rattle.policy_text.specs.Texts.{IsToldFault}
use Rattle.policy_text.proofs.ToldTexts.{book_fault}
use Rattle.policy_text.proofs.policies.told_book.Goals as goal

pub returns : goal.returns
returns c =
    subst (λ (t : List _). IsToldFault c.args.text.now t) (sym c.in_ok-book_fault.ensures) (book_fault c.args.text.now c.args.fault.now (sym c.is_memory.ensures ∙ c.if-is_memory.false) c.requires)
