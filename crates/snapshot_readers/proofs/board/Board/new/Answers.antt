use Rattle.std.proofs.Common.{ℕ, ◌++◌, sym, ap, ◌∙◌}
use Rattle.policy_words.specs.Naming.{NamedPolicy}
use Rattle.published_copies.specs.Copied.{Copied}
use Rattle.snapshot_readers.proofs.board.Board.new.Goals as goal

pub invariant_of-result : goal.invariant_of-result
invariant_of-result g c =
    let is = c.in-Ok.ensures.copies in
    let same = c.requires.alike.0 in
    let entries = c.args.ledger.entries in (
      ap (λ (k : Copied (NamedPolicy × ℕ)). k.root) is ∙ (λ i. (sym same.0 i, sym same.1 i)),
      (entries, ap (λ (k : Copied (NamedPolicy × ℕ)). (k.shown ++ k.waiting) ++ entries) is),
    )
