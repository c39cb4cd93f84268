use Rattle.std.proofs.Common.{◌≡◌, List, Some, sym, ap, arith, ◌∙◌}
use Rattle.std.specs.Prelude.{slice_get}
use Rattle.gt_base.specs.declared.requests.Entry.{Entry}
use Rattle.snapshot_readers.proofs.Taking.{one_agrees}
use Rattle.snapshot_readers.proofs.book_copy.agrees.Goals as goal

pub returns-in-Some-clause-same : goal.returns-in-Some-clause-same
returns-in-Some-clause-same c = λ yes.
    let low = c.if-good-ge-MAX_STEPS.false in
    let there : slice_get c.entries-2.result.now.items c.args.good ≡ Some c.in-Some.played.now = c.in-Some.ensures.some in
    (omega (arith, low), one_agrees c.args.good c.args.book.now.entries c.in-Some.played.now c.args.entry.now (ap (λ (l : List Entry). slice_get l c.args.good) (sym c.entries-2.ensures.value) ∙ there) (c.same_entry.ensures.0 yes))
