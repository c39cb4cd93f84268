use Rattle.std.proofs.Common.{◌++◌, ◌∷◌, [], List, length, take, ap, arith, length-append, ◌∙◌}
use Rattle.gt_base.specs.declared.requests.Entry.{Entry}
use Rattle.history_laws.specs.Looks.{without_looks}
use Rattle.published_copies.specs.Copied.{joined}
use Rattle.published_copies.proofs.Growing.{joined_more}
use Rattle.snapshot_readers.specs.Glazed.{Glazed}
use Rattle.snapshot_readers.proofs.Taking.{batch_taken}
use Rattle.snapshot_readers.proofs.book_copy.BookCopy.take_in.Goals as goal

pub returns-clause-seen : goal.returns-clause-seen
returns-clause-seen c =
    ap joined (c.push.ensures.items ∙ ap (λ (l : List (List Entry)). l ++ c.args.batch ∷ []) c.reserve.ensures.items) ∙ joined_more c.self.inside.batches.items c.args.batch
    ∙ ap (λ (g : Glazed). g.seen ++ c.args.batch) c.self.view_is

pub invariant_of-self-2 : goal.invariant_of-self-2
invariant_of-self-2 c =
    let ess : List (List Entry) = c.self.inside.batches.items in
    let es : List Entry = c.args.batch in
    let more = c.push.ensures.items ∙ ap (λ (l : List (List Entry)). l ++ es ∷ []) c.reserve.ensures.items in
    let long = ap (λ (l : List (List Entry)). length (joined l)) more ∙ ap length (joined_more ess es) ∙ length-append (joined ess) es in
    let count = ap length c.as_slice.ensures in
    let were = c.self.invariant.0 in
    let sum = c.in-Some.ensures in (
      omega (arith, long, count, were, sum),
      batch_taken ess c.push.new.self.items es c.self.inside.book.entries c.plays.new.book.entries c.self.inside.good c.in-Some-plays.good more c.self.invariant.1
          (c.in-Some-plays.ensures.all ∙ ap (λ (l : List Entry). take c.self.inside.good c.self.inside.book.entries ++ without_looks l) c.as_slice-2.ensures),
    )
