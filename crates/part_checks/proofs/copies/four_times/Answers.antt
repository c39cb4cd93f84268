use Rattle.std.proofs.Common.{◌++◌, ap, ◌∙◌}
use Rattle.published_copies.specs.Copied.{Copied}
use Rattle.part_checks.proofs.copies.four_times.Goals as goal

pub once-copies-requires : goal.once-copies-requires
once-copies-requires g c =
    let front = c.split_at.result.0.now in
    (front, ap (λ (k : Copied (Unit {0})). (k.shown ++ k.waiting) ++ front) (c.reader.ensures.kept ∙ c.in_ok-copies.ensures))
