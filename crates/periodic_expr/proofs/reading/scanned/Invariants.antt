use Rattle.std.proofs.Common.{◌≡◌, drop}
use Rattle.periodic_expr.specs.Scan.{IsSized}
use Rattle.periodic_expr.specs.Sketch.{KeepsSketch}
use Rattle.periodic_expr.specs.Drafts.{seen}
use Rattle.periodic_expr.specs.Reading.{read_from, read_expr}
use Rattle.periodic_expr.proofs.reading.scanned.Given as goal

abbrev pub invariant-bytes : goal.invariant-bytes
invariant-bytes l = record {
  sized : IsSized l.place;
  sound : KeepsSketch (seen l.draft);
  same : read_from l.i l.place (seen l.draft) (drop l.i l.text) ≡ read_expr l.text;
}
