-- Reading by the scan is reading by the grammar.
use Rattle.std.proofs.Common.{◌≡◌, ◌≢◌, ◌↔◌, ℕ, ◌+◌, Bool, true, false, ◌&&◌, ◌||◌, nat_le, nat_lt, List, [], ◌∷◌, ◌++◌, Option, Some, None, Result, Ok, Err, refl, ap, sym, subst, ◌∙◌, inl, inr}
use Rattle.std.proofs.lemmas.Bool.{false≢true, cases_Bool}
use Rattle.gtrbac_model.specs.declared.calendars.Calendar.{Calendar}
use Rattle.gtrbac_model.specs.Period.{Expr}
use Rattle.gtrbac_model.specs.Valid.{is_below, is_same}
use Rattle.periodic_expr.specs.declared.faults.ExprFault.{ExprFault}
use Rattle.periodic_expr.specs.declared.faults.ExprKind.{ExprKind}
use Rattle.periodic_expr.specs.declared.faults.ExprKind.TheVariants.{Syntax, FirstNotAll, NotFiner, ZeroIndex, EmptySet, BadLength}
use Rattle.periodic_expr.specs.declared.scan.ScanPlace.{ScanPlace}
use Rattle.periodic_expr.specs.declared.scan.ScanPlace.TheVariants.{Start, PartDone, Finished}
use Rattle.periodic_expr.specs.declared.scan.Move.{Move}
use Rattle.periodic_expr.specs.Scan.{moved}
use Rattle.periodic_expr.specs.Sketch.{Sketch, empty, acted}
use Rattle.periodic_expr.specs.Reading.{syntax, read_from, read_expr}
use Rattle.periodic_expr.specs.Grammar.{Number, RawPart, RawLength, RawExpr, Spelled, InGrammar, Says, HasFault, where_not, zero_faults, set_faults, first_faults, span_faults, later_faults, faults_of, expr_of}
use Rattle.periodic_expr.proofs.Steps.{read_step}
use Rattle.periodic_expr.proofs.Meant.{said, faulty, grammar_said, grammar_fault}
use Rattle.periodic_expr.proofs.Sound.{accepts, is_end, accepted_in_grammar}

-- a text that the scan does not accept is refused for its syntax
abbrev Refused : ℕ → ScanPlace → Sketch → List ℕ → Type 0
Refused at place s ys = (n : ℕ) × (read_from at place s ys ≡ syntax n)

ends_badly : (at : ℕ) (place : ScanPlace) (s : Sketch) → is_end place ≡ false → Refused at place s []
ends_badly at PartDone s h = absurd (false≢true (sym h))
ends_badly at Finished s h = absurd (false≢true (sym h))
ends_badly at _ s h = (at, refl)

refused_by : (at : ℕ) (place : ScanPlace) (s : Sketch) (b : ℕ) (bs : List ℕ) (o : Option Move) → moved place b ≡ o → ((m : Move) → accepts m.place bs ≡ false → Refused (at + 1) m.place (acted m.act at s) bs) → elim o [ None ↦ false | Some m ↦ accepts m.place bs ] ≡ false → Refused at place s (b ∷ bs)
refused_by at place s b bs None e go h = (at, read_step at place s b bs None e)
refused_by at place s b bs (Some m) e go h = let r = go m h in (r.0, read_step at place s b bs (Some m) e ∙ r.1)

refused : (ys : List ℕ) (at : ℕ) (place : ScanPlace) (s : Sketch) → accepts place ys ≡ false → Refused at place s ys
refused [] at place s h = ends_badly at place s h
refused (b ∷ bs) at place s h = refused_by at place s b bs (moved place b) refl (λ m a. refused bs (at + 1) m.place (acted m.act at s) a) h

-- faults of a tree are none of syntax
abbrev Apart : List ExprFault → Type 0
Apart [] = Unit {0}
Apart (f ∷ fs) = (f.kind ≢ Syntax) × Apart fs

apart_more : (fs gs : List ExprFault) → Apart fs → Apart gs → Apart (fs ++ gs)
apart_more [] gs a b = b
apart_more (f ∷ fs) gs a b = (a.0, apart_more fs gs a.1 b)

apart_where : (good : Bool) (n : ℕ) (kind : ExprKind) → kind ≢ Syntax → Apart (where_not good n kind)
apart_where true n kind h = tt
apart_where false n kind h = (h, tt)

first_kind : FirstNotAll ≢ Syntax
first_kind e = cc

finer_kind : NotFiner ≢ Syntax
finer_kind e = cc

zero_kind : ZeroIndex ≢ Syntax
zero_kind e = cc

empty_kind : EmptySet ≢ Syntax
empty_kind e = cc

length_kind : BadLength ≢ Syntax
length_kind e = cc

apart_zeros : (ns : List Number) → Apart (zero_faults ns)
apart_zeros [] = tt
apart_zeros (n ∷ ns) = apart_more (where_not (nat_lt 0 n.value) n.place ZeroIndex) (zero_faults ns) (apart_where (nat_lt 0 n.value) n.place ZeroIndex zero_kind) (apart_zeros ns)

apart_set : (place : ℕ) (set : Option (List Number)) → Apart (set_faults place set)
apart_set place None = tt
apart_set place (Some []) = (empty_kind, tt)
apart_set place (Some (n ∷ ns)) = apart_zeros (n ∷ ns)

apart_first : (place : ℕ) (set : Option (List Number)) → Apart (first_faults place set)
apart_first place None = tt
apart_first place (Some ns) = (first_kind, apart_zeros ns)

apart_span : (c : Calendar) (span : Option RawLength) → Apart (span_faults c span)
apart_span c None = tt
apart_span c (Some l) =
    let low = nat_le 1 l.count.value && nat_le l.count.value 1000 in
    let below = is_same c l.unit || is_below c l.unit in
    apart_more (where_not low l.count.place BadLength) (where_not below l.unit_place NotFiner) (apart_where low l.count.place BadLength length_kind) (apart_where below l.unit_place NotFiner finer_kind)

apart_later : (c : Calendar) (ps : List RawPart) (span : Option RawLength) → Apart (later_faults c ps span)
apart_later c [] span = apart_span c span
apart_later c (p ∷ ps) span =
    let mine = set_faults p.place p.set ++ where_not (is_below c p.calendar) p.calendar_place NotFiner in
    apart_more mine (later_faults p.calendar ps span)
    (apart_more (set_faults p.place p.set) (where_not (is_below c p.calendar) p.calendar_place NotFiner) (apart_set p.place p.set) (apart_where (is_below c p.calendar) p.calendar_place NotFiner finer_kind))
    (apart_later p.calendar ps span)

apart : (e : RawExpr) → Apart (faults_of e)
apart e =
    apart_more (first_faults e.first.place e.first.set) (later_faults e.first.calendar e.more e.span) (apart_first e.first.place e.first.set) (apart_later e.first.calendar e.more e.span)

-- what the reading of a text in the grammar can be
data Outcome (text : List ℕ) : Type 0 where
  means : (e : Expr) → Says text e → read_expr text ≡ Ok e → Outcome text
  fails : (f : ExprFault) → HasFault text f → f.kind ≢ Syntax → read_expr text ≡ Err f → Outcome text

outcome_by : (text : List ℕ) (e : RawExpr) → Spelled text e → (fs : List ExprFault) → faults_of e ≡ fs → Apart fs → Outcome text
outcome_by text e sp [] q a = means (expr_of e) (record { tree = e; spelled = sp; faultless = q; means = refl }) (said text e sp q)
outcome_by text e sp (f ∷ fs) q a = fails f (record { tree = e; spelled = sp; later = fs; faults = q }) a.0 (faulty text e f fs sp q)

outcome : (text : List ℕ) → InGrammar text → Outcome text
outcome text (e, sp) = outcome_by text e sp (faults_of e) refl (apart e)

data Reading (text : List ℕ) : Type 0 where
  within : Outcome text → Reading text
  without : accepts Start text ≡ false → Refused 0 Start empty text → Reading text

reading : (text : List ℕ) → Reading text
reading text =
    elim (cases_Bool (accepts Start text)) [
      | inl a ↦ within (outcome text (accepted_in_grammar text a))
      | inr a ↦ without a (refused text 0 Start empty a)
    ]

ok_err : (e : Expr) (f : ExprFault) (r : Result Expr ExprFault) → r ≡ Ok e → r ≡ Err f → ⊥
ok_err e f r p q = cc

one_expr : (e d : Expr) (r : Result Expr ExprFault) → r ≡ Ok e → r ≡ Ok d → e ≡ d
one_expr e d r p q = cc

pub one_fault : (f g : ExprFault) (r : Result Expr ExprFault) → r ≡ Err f → r ≡ Err g → f ≡ g
one_fault f g r p q = cc

said_back : (text : List ℕ) (e : Expr) → read_expr text ≡ Ok e → Reading text → Says text e
said_back text e p (within (means d s q)) = subst (Says text) (one_expr d e (read_expr text) q p) s
said_back text e p (within (fails f h k q)) = absurd (ok_err e f (read_expr text) p q)
said_back text e p (without a r) = absurd (ok_err e (record { at = r.0; kind = Syntax }) (read_expr text) p r.1)

fault_back : (text : List ℕ) (f : ExprFault) → f.kind ≢ Syntax → read_expr text ≡ Err f → Reading text → HasFault text f
fault_back text f n p (within (means d s q)) = absurd (ok_err d f (read_expr text) q p)
fault_back text f n p (within (fails g h k q)) = subst (HasFault text) (one_fault g f (read_expr text) q p) h
fault_back text f n p (without a r) = absurd (n (ap (λ x. x.kind) (one_fault f (record { at = r.0; kind = Syntax }) (read_expr text) p r.1)))

pub said_both : (text : List ℕ) (e : Expr) → (read_expr text ≡ Ok e) ↔ Says text e
said_both text e = (λ p. said_back text e p (reading text), grammar_said text e)

pub fault_both : (text : List ℕ) (f : ExprFault) → f.kind ≢ Syntax → (read_expr text ≡ Err f) ↔ HasFault text f
fault_both text f n = (λ p. fault_back text f n p (reading text), grammar_fault text f)

-- a text of the grammar is accepted
pub grammar_accepted : (text : List ℕ) → InGrammar text → accepts Start text ≡ true
grammar_accepted text g = by_reading (reading text)
  where
    by_outcome : accepts Start text ≡ false → Refused 0 Start empty text → Outcome text → ⊥
    by_outcome a r (means e s q) = ok_err e (record { at = r.0; kind = Syntax }) (read_expr text) q r.1
    by_outcome a r (fails f h k q) = k (ap (λ x. x.kind) (one_fault f (record { at = r.0; kind = Syntax }) (read_expr text) q r.1))

    by_bool : (b : Bool) → accepts Start text ≡ b → accepts Start text ≡ true
    by_bool true e = e
    by_bool false e = absurd (by_outcome e (refused text 0 Start empty e) (outcome text g))

    by_reading : Reading text → accepts Start text ≡ true
    by_reading r = by_bool (accepts Start text) refl

no_outcome : (text : List ℕ) (at : ℕ) → read_expr text ≡ syntax at → Outcome text → ⊥
no_outcome text at p (means e s q) = ok_err e (record { at = at; kind = Syntax }) (read_expr text) q p
no_outcome text at p (fails f h k q) = k (ap (λ x. x.kind) (one_fault f (record { at = at; kind = Syntax }) (read_expr text) q p))

pub no_syntax : (text : List ℕ) (at : ℕ) → accepts Start text ≡ true → read_expr text ≡ syntax at → ⊥
no_syntax text at a p = no_outcome text at p (outcome text (accepted_in_grammar text a))
