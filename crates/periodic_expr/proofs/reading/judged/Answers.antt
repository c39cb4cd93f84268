use Rattle.std.proofs.Common.{◌≡◌, false, rules}
use Rattle.periodic_expr.specs.Sketch.{is_empty}
use Rattle.periodic_expr.specs.Drafts.{seen}
use Rattle.periodic_expr.proofs.Keeping.{sound_expr}
use Rattle.periodic_expr.proofs.reading.judged.Goals as goal

pub of-requires : goal.of-requires
of-requires c =
    let some : is_empty c.args.d.parts.items ≡ false = search rules in
    sound_expr (seen c.args.d) (c.requires c.in-None.is) some
