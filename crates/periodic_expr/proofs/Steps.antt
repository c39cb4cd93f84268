-- One byte more of a text.
use Rattle.std.proofs.Common.{◌≡◌, ℕ, suc, ◌+◌, ◌<◌, List, ◌∷◌, length, drop, get_or, drop-cons, Option, Some, None, Result, ap, sym, ◌∙◌, arith}
use Rattle.gtrbac_model.specs.Period.{Expr}
use Rattle.periodic_expr.specs.declared.faults.ExprFault.{ExprFault}
use Rattle.periodic_expr.specs.declared.scan.ScanPlace.{ScanPlace}
use Rattle.periodic_expr.specs.declared.scan.Move.{Move}
use Rattle.periodic_expr.specs.Scan.{moved}
use Rattle.periodic_expr.specs.Sketch.{Sketch, acted}
use Rattle.periodic_expr.specs.Reading.{syntax, read_from, read_expr}

abbrev after : ℕ → Sketch → List ℕ → Option Move → Result Expr ExprFault
after at s bs o = elim o [ None ↦ syntax at | Some m ↦ read_from (at + 1) m.place (acted m.act at s) bs ]

pub read_step : (at : ℕ) (place : ScanPlace) (s : Sketch) (b : ℕ) (bs : List ℕ) (o : Option Move) → moved place b ≡ o → read_from at place s (b ∷ bs) ≡ after at s bs o
read_step at place s b bs o e = ap (after at s bs) e

dropped : (text : List ℕ) (i : ℕ) → i < length text → drop i text ≡ get_or text i 0 ∷ drop (i + 1) text
dropped text i h =
    let e : i + 1 ≡ suc i = omega arith in
    rw e (drop-cons text i 0 h)

pub read_more : (text : List ℕ) (i : ℕ) (place : ScanPlace) (s t : Sketch) (m : Move) → i < length text → moved place (get_or text i 0) ≡ Some m → t ≡ acted m.act i s → read_from i place s (drop i text) ≡ read_expr text → read_from (i + 1) m.place t (drop (i + 1) text) ≡ read_expr text
read_more text i place s t m h goes draft same =
    ap (λ x. read_from (i + 1) m.place x (drop (i + 1) text)) draft
    ∙ sym (ap (read_from i place s) (dropped text i h) ∙ read_step i place s (get_or text i 0) (drop (i + 1) text) (Some m) goes) ∙ same
