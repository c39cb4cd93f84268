-- The code's draft as a sketch.
use Rattle.std.specs.Prelude.{option_map}
use Rattle.periodic_expr.specs.declared.drafts.ExprDraft.{ExprDraft}
use Rattle.periodic_expr.specs.Sketch.{Sketch}

abbrev pub seen : ExprDraft → Sketch
seen d = record {
  parts = d.parts.items;
  set = option_map (λ v. v.items) d.set;
  brace = d.brace;
  token = d.token;
  above = d.above;
  count = d.count;
  unit = d.unit;
  fault = d.fault;
}
