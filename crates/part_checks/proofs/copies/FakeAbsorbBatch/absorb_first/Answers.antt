use Rattle.std.proofs.Common.{List, ◌++◌, ap, ◌∙◌}
use Rattle.gt_base.specs.declared.requests.Entry.{Entry}
use Rattle.published_copies.specs.Copied.{joined}
use Rattle.published_copies.proofs.Growing.{joined_more}
use Rattle.part_checks.proofs.copies.FakeAbsorbBatch.absorb_first.Goals as goal

pub returns-clause-absorbed : goal.returns-clause-absorbed
returns-clause-absorbed c =
    let old : List (List Entry) = c.args.self.now.taken.items in
    ap joined c.in_ok-push.ensures.items ∙ joined_more old c.in_ok-shared.field-0 ∙ ap (λ (es : List Entry). joined old ++ es) c.in_ok-shared.ensures
