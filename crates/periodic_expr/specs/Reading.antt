-- What a text says, or its fault, by the scan.
use Rattle.std.specs.Prelude.{ℕ, ◌+◌, List, [], ◌∷◌, Option, Some, None, Result, Ok, Err}
use Rattle.gtrbac_model.specs.Period.{Part, Expr}
use Rattle.periodic_expr.specs.declared.faults.ExprFault.{ExprFault}
use Rattle.periodic_expr.specs.declared.faults.ExprKind.TheVariants.{Syntax}
use Rattle.periodic_expr.specs.declared.scan.ScanPlace.{ScanPlace}
use Rattle.periodic_expr.specs.declared.scan.ScanPlace.TheVariants.{Start, PartDone, Finished}
use Rattle.periodic_expr.specs.Scan.{moved}
use Rattle.periodic_expr.specs.Sketch.{Sketch, empty, acted}

abbrev pub syntax : ℕ → Result Expr ExprFault
syntax at = Err (record { at = at; kind = Syntax })

-- the first fault, or the expression, where there is a part
abbrev pub judged : ℕ → List Part → Sketch → Option ExprFault → Result Expr ExprFault
judged at ps s (Some f) = Err f
judged at [] s None = syntax at
judged at (p ∷ ps) s None = Ok (record { parts = s.parts; count = s.count; unit = s.unit })

-- the text is in the grammar where it ends after a part or after the length
abbrev pub ended : ℕ → ScanPlace → Sketch → Result Expr ExprFault
ended at PartDone s = judged at s.parts s s.fault
ended at Finished s = judged at s.parts s s.fault
ended at _ s = syntax at

abbrev pub read_from : ℕ → ScanPlace → Sketch → List ℕ → Result Expr ExprFault
read_from at place s [] = ended at place s
read_from at place s (b ∷ bs) = elim (moved place b)
    [ None ↦ syntax at | Some m ↦ read_from (at + 1) m.place (acted m.act at s) bs ]

-- what a text says, or its fault
abbrev pub read_expr : List ℕ → Result Expr ExprFault
read_expr text = read_from 0 Start empty text
