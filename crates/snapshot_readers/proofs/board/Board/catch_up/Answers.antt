use Rattle.std.proofs.Common.{ℕ, sym, ap, ◌∙◌}
use Rattle.policy_words.specs.Naming.{NamedPolicy}
use Rattle.core_machine.specs.Books.{BookView}
use Rattle.snapshot_readers.proofs.Taking.{history_of}
use Rattle.snapshot_readers.proofs.board.Board.catch_up.Goals as goal

pub replace_with-done-requires : goal.replace_with-done-requires
replace_with-done-requires g c =
    let inv = c.self.invariant in
    let root = c.self.inside.copies.root in
    let same = c.as_slice-entries.ensures ∙ c.entries.ensures.value ∙ ap (λ (b : BookView). b.entries) c.book.ensures in (
      (inv.1.0, inv.1.1 ∙ sym same),
      history_of c.self.inside.ledger root.0 root.1 c.as_slice-entries.result.now c.keeps.ensures.kept (ap (λ (r : NamedPolicy × ℕ). r.0) inv.0) (ap (λ (r : NamedPolicy × ℕ). r.1) inv.0) same,
    )
