use Rattle.std.proofs.Common.{◌≡◌, Some, get_or, sym, subst}
use Rattle.periodic_expr.specs.Scan.{moved}
use Rattle.periodic_expr.specs.Sketch.{KeepsSketch}
use Rattle.periodic_expr.specs.Drafts.{seen}
use Rattle.periodic_expr.proofs.Keeping.{keeps_acted}
use Rattle.periodic_expr.proofs.Steps.{read_more}
use Rattle.periodic_expr.proofs.reading.scanned.Goals as goal

pub bytes-preserved : goal.bytes-preserved
bytes-preserved c =
    let v = c.bytes.invariant in
    let m = c.in-Some.step in
    let fits = c.in-Some.ensures.fits in
    let draft = c.in_ok-draft.ensures in
    let goes : moved c.bytes.place (get_or c.args.text.now c.bytes.i 0) ≡ Some m = sym c.in-Some.ensures.goes in
    record {
      sized = fits.0;
      sound = subst KeepsSketch (sym draft) (keeps_acted m.act c.bytes.i (seen c.bytes.draft) fits.1 v.sound);
      same = read_more c.args.text.now c.bytes.i c.bytes.place (seen c.bytes.draft) (seen c.in_ok-draft.draft) m c.bytes-test.true goes draft v.same;
    }
