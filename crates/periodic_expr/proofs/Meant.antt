-- A text that the grammar spells is read as the grammar says.
use Rattle.std.proofs.Common.{◌≡◌, ℕ, List, [], ◌∷◌, map, None, Ok, Err, refl, ap, sym, ◌∙◌}
use Rattle.gtrbac_model.specs.Period.{Part, Expr}
use Rattle.periodic_expr.specs.declared.faults.ExprFault.{ExprFault}
use Rattle.periodic_expr.specs.Sketch.{Sketch, empty}
use Rattle.periodic_expr.specs.Reading.{read_expr, judged}
use Rattle.periodic_expr.specs.Grammar.{RawExpr, Spelled, Says, HasFault, first_faults, later_faults, faults_of, part_of, expr_of}
use Rattle.periodic_expr.proofs.Trees.{part_seen, parts_seen, span_seen, tree_read}
use Rattle.periodic_expr.proofs.Findings.{firstly, firstly_more, tree_found}

abbrev seen : RawExpr → Sketch
seen e = span_seen e.span (parts_seen e.more (part_seen e.first empty))

fault_is : (e : RawExpr) → (seen e).fault ≡ firstly None (faults_of e)
fault_is e =
    let w = tree_found e in
    w.fault_is ∙ firstly_more None (first_faults e.first.place e.first.set) (later_faults e.first.calendar e.more e.span)

judged_ok : (n : ℕ) (p : Part) (ps : List Part) (s : Sketch) → judged n (p ∷ ps) s None ≡ Ok (record { parts = s.parts; count = s.count; unit = s.unit })
judged_ok n p ps s = refl

pub said : (text : List ℕ) (e : RawExpr) → Spelled text e → faults_of e ≡ [] → read_expr text ≡ Ok (expr_of e)
said text e sp none =
    let r = tree_read text e sp in
    let w = tree_found e in
    let s = seen e in
    r.1 ∙ ap (λ ps. judged r.0 ps s s.fault) w.parts_are ∙ ap (judged r.0 (part_of e.first ∷ map part_of e.more) s) (fault_is e ∙ ap (firstly None) none) ∙ ap (λ x. Ok x) w.means

pub faulty : (text : List ℕ) (e : RawExpr) (f : ExprFault) (fs : List ExprFault) → Spelled text e → faults_of e ≡ f ∷ fs → read_expr text ≡ Err f
faulty text e f fs sp some =
    let r = tree_read text e sp in
    let w = tree_found e in
    let s = seen e in
    r.1 ∙ ap (λ ps. judged r.0 ps s s.fault) w.parts_are ∙ ap (judged r.0 (part_of e.first ∷ map part_of e.more) s) (fault_is e ∙ ap (firstly None) some)

pub grammar_said : (text : List ℕ) (e : Expr) → Says text e → read_expr text ≡ Ok e
grammar_said text e h = said text h.tree h.spelled h.faultless ∙ ap (λ x. Ok x) (sym h.means)

pub grammar_fault : (text : List ℕ) (f : ExprFault) → HasFault text f → read_expr text ≡ Err f
grammar_fault text f h = faulty text h.tree f h.later h.spelled h.faults
