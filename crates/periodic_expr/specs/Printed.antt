-- The canonical text of an expression.
use Rattle.std.specs.Prelude.{ℕ, List, [], ◌∷◌, ◌++◌, flat_map, codes, decimal, Option, Some, None}
use Rattle.gtrbac_model.specs.Period.{Part, Expr}
use Rattle.periodic_expr.specs.Scan.{calendar_word}

abbrev pub later_number : ℕ → List ℕ
later_number n = codes "," ++ decimal n

abbrev pub numbers_text : List ℕ → List ℕ
numbers_text [] = []
numbers_text (n ∷ ns) = decimal n ++ flat_map later_number ns

abbrev pub set_text : Option (List ℕ) → List ℕ
set_text None = codes "all"
set_text (Some ns) = codes "{" ++ numbers_text ns ++ codes "}"

abbrev pub part_text : Part → List ℕ
part_text p = set_text p.set ++ codes "." ++ calendar_word p.calendar

abbrev pub later_part : Part → List ℕ
later_part p = codes " + " ++ part_text p

abbrev pub parts_text : List Part → List ℕ
parts_text [] = []
parts_text (p ∷ ps) = part_text p ++ flat_map later_part ps

-- `PART + PART > COUNT.UNIT`, always with its length
abbrev pub expr_text : Expr → List ℕ
expr_text e = parts_text e.parts ++ codes " > " ++ decimal e.count ++ codes "."
    ++ calendar_word e.unit
