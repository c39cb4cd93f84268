-- The scan over the tokens of a whole tree.
use Rattle.std.proofs.Common.{◌≡◌, ℕ, true, false, List, [], ◌∷◌, ◌++◌, length, flat_map, Option, Some, None, refl, ap, sym, subst, ◌∙◌, arith, append_assoc, codes}
use Rattle.std.specs.List.{list_all}
use Rattle.std.proofs.lemmas.Bool.{and_parts}
use Rattle.periodic_expr.specs.declared.scan.ScanPlace.{ScanPlace}
use Rattle.periodic_expr.specs.declared.scan.ScanPlace.TheVariants.{Start, PartNext, DotNext, CalendarNext, PartDone, SetFirst, SetNext, Digits, LengthNext, Finished}
use Rattle.periodic_expr.specs.declared.scan.Act.TheVariants.{Open, Begin, Index, Length}
use Rattle.periodic_expr.specs.Scan.{calendar_word}
use Rattle.periodic_expr.specs.Sketch.{Sketch, empty, acted}
use Rattle.periodic_expr.specs.Reading.{read_from, judged}
use Rattle.periodic_expr.specs.Grammar.{Number, RawPart, RawLength, RawExpr, Token, mark, placed, number_token, later_numbers, numbers, set_tokens, part_tokens, span_tokens, tokens_of, Lies, is_short, short_set, short_span, Spelled}
use Rattle.periodic_expr.proofs.Tokens.{part_ended, unit_ended, first_begins, next_begins, length_begins}
use Rattle.periodic_expr.proofs.Lying.{Reads, and_then, dot, calendar, unit, counted, all, brace, closed, comma, close, length_dot, behind_part, first_stays, set_stays, length_stays}

-- what the scan has found after a part of the tree

abbrev pub numbers_seen : List Number → Sketch → Sketch
numbers_seen [] s = s
numbers_seen (n ∷ ns) s = numbers_seen ns (acted (Index n.value) 0 (acted Begin n.place s))

abbrev pub set_seen : ℕ → Option (List Number) → Sketch → Sketch
set_seen place None s = s
set_seen place (Some ns) s = numbers_seen ns (acted Open place s)

abbrev pub part_seen : RawPart → Sketch → Sketch
part_seen p s = part_ended p.calendar p.calendar_place (set_seen p.place p.set s)

abbrev pub parts_seen : List RawPart → Sketch → Sketch
parts_seen [] s = s
parts_seen (p ∷ ps) s = parts_seen ps (part_seen p s)

abbrev pub span_seen : Option RawLength → Sketch → Sketch
span_seen None s = s
span_seen (Some l) s = unit_ended l.unit l.unit_place (acted (Length l.count.value) 0 (acted Begin l.count.place s))

lies_as : (at : ℕ) (text : List ℕ) (ts us : List Token) → ts ≡ us → Lies at ts text → Lies at us text
lies_as at text ts us e h = let P : List Token → Type 0 = λ x. Lies at x text in subst P e h

later_read : (ns : List Number) → list_all is_short ns ≡ true → (us : List Token) (at : ℕ) (text : List ℕ) (v : ℕ) (s : Sketch) → Lies at (later_numbers ns ++ mark (codes "}") ∷ us) text → Reads at (Digits false v) s text us DotNext (numbers_seen ns (acted (Index v) 0 s))
later_read [] short us at text v s h = close v us at text s h
later_read (n ∷ ns) short us at text v s h =
    let both = and_parts (is_short n) (list_all is_short ns) short in
    let more = later_numbers ns ++ mark (codes "}") ∷ us in
    let t = acted (Index v) 0 s in
    let a = comma v (number_token n ∷ more) at text s h in
    let b = counted false SetNext set_stays next_begins n both.0 more a.to_at a.rest t a.lies in
    let c = later_read ns both.1 us b.to_at b.rest n.value (acted Begin n.place t) b.lies in
    and_then at (Digits false v) s text (number_token n ∷ more) us SetNext DotNext t (numbers_seen (n ∷ ns) t) a
    (and_then a.to_at SetNext t a.rest more us (Digits false n.value) DotNext (acted Begin n.place t) (numbers_seen (n ∷ ns) t) b c)

set_read : (place : ℕ) (set : Option (List Number)) → short_set set ≡ true → (us : List Token) (at : ℕ) (text : List ℕ) (s : Sketch) → Lies at (set_tokens place set ++ us) text → Reads at PartNext s text us DotNext (set_seen place set s)
set_read place None short us at text s h = all place us at text s h
set_read place (Some []) short us at text s h =
    let a = brace place (mark (codes "}") ∷ us) at text s h in
    and_then at PartNext s text (mark (codes "}") ∷ us) us SetFirst DotNext (acted Open place s) (acted Open place s) a (closed us a.to_at a.rest (acted Open place s) a.lies)
set_read place (Some (n ∷ ns)) short us at text s h =
    let both = and_parts (is_short n) (list_all is_short ns) short in
    let t = acted Open place s in
    let u = acted Begin n.place t in
    let flat = (later_numbers ns ++ mark (codes "}") ∷ []) ++ us in
    let more = later_numbers ns ++ mark (codes "}") ∷ us in
    let same : flat ≡ more = rw append_assoc in
    let a = brace place (number_token n ∷ flat) at text s h in
    let b = counted false SetFirst first_stays first_begins n both.0 flat a.to_at a.rest t a.lies in
    let c = later_read ns both.1 us b.to_at b.rest n.value u (lies_as b.to_at b.rest flat more same b.lies) in
    and_then at PartNext s text (number_token n ∷ flat) us SetFirst DotNext t (numbers_seen (n ∷ ns) t) a
    (and_then a.to_at SetFirst t a.rest flat us (Digits false n.value) DotNext u (numbers_seen (n ∷ ns) t) b c)

part_read : (p : RawPart) → short_set p.set ≡ true → (us : List Token) (at : ℕ) (text : List ℕ) (s : Sketch) → Lies at (part_tokens p ++ us) text → Reads at PartNext s text us PartDone (part_seen p s)
part_read p short us at text s h =
    let name = placed p.calendar_place (calendar_word p.calendar) in
    let more = mark (codes ".") ∷ name ∷ us in
    let same : part_tokens p ++ us ≡ set_tokens p.place p.set ++ more = rw append_assoc in
    let t = set_seen p.place p.set s in
    let a = set_read p.place p.set short more at text s (lies_as at text (part_tokens p ++ us) (set_tokens p.place p.set ++ more) same h) in
    let b = dot (name ∷ us) a.to_at a.rest t a.lies in
    let c = calendar p.calendar p.calendar_place us b.to_at b.rest t b.lies in
    and_then at PartNext s text more us DotNext PartDone t (part_seen p s) a (and_then a.to_at DotNext t a.rest (name ∷ us) us CalendarNext PartDone t (part_seen p s) b c)

abbrev plus : RawPart → List Token
plus p = mark (codes "+") ∷ part_tokens p

-- the end of the text, with what was found
abbrev pub Ends : ℕ → ScanPlace → Sketch → List ℕ → Sketch → Type 0
Ends at place s text t = (n : ℕ) × (read_from at place s text ≡ judged n t.parts t t.fault)

ends_after : (at : ℕ) (place : ScanPlace) (s : Sketch) (text : List ℕ) (us : List Token) (next : ScanPlace) (t u : Sketch) → (r : Reads at place s text us next t) → Ends r.to_at next t r.rest u → Ends at place s text u
ends_after at place s text us next t u r e = (e.0, r.same ∙ e.1)

span_read : (span : Option RawLength) → short_span span ≡ true → (at : ℕ) (text : List ℕ) (s : Sketch) → Lies at (span_tokens span) text → Ends at PartDone s text (span_seen span s)
span_read None short at text s h = (at, ap (read_from at PartDone s) h)
span_read (Some l) short at text s h =
    let name = placed l.unit_place (calendar_word l.unit) in
    let t = acted Begin l.count.place s in
    let u = acted (Length l.count.value) 0 t in
    let a = behind_part 62 LengthNext refl (number_token l.count ∷ mark (codes ".") ∷ name ∷ []) at text s h in
    let b = counted true LengthNext length_stays length_begins l.count short (mark (codes ".") ∷ name ∷ []) a.to_at a.rest s a.lies in
    let c = length_dot l.count.value (name ∷ []) b.to_at b.rest t b.lies in
    let d = unit l.unit l.unit_place [] c.to_at c.rest u c.lies in
    (d.to_at, a.same ∙ b.same ∙ c.same ∙ d.same ∙ ap (read_from d.to_at Finished (span_seen (Some l) s)) d.lies)

more_read : (ps : List RawPart) (span : Option RawLength) → list_all (λ p. short_set p.set) ps ≡ true → short_span span ≡ true → (at : ℕ) (text : List ℕ) (s : Sketch) → Lies at (flat_map plus ps ++ span_tokens span) text → Ends at PartDone s text (span_seen span (parts_seen ps s))
more_read [] span short last at text s h = span_read span last at text s h
more_read (p ∷ ps) span short last at text s h =
    let both = and_parts (short_set p.set) (list_all (λ p. short_set p.set) ps) short in
    let flat = (part_tokens p ++ flat_map plus ps) ++ span_tokens span in
    let more = flat_map plus ps ++ span_tokens span in
    let same : flat ≡ part_tokens p ++ more = rw append_assoc in
    let a = behind_part 43 PartNext refl flat at text s h in
    let b = part_read p both.0 more a.to_at a.rest s (lies_as a.to_at a.rest flat (part_tokens p ++ more) same a.lies) in
    let c = more_read ps span both.1 last b.to_at b.rest (part_seen p s) b.lies in
    (c.0, a.same ∙ b.same ∙ c.1)

-- at the start of a text a part begins without blanks

no_gap : (gap : List ℕ) → 0 ≡ length gap → gap ≡ []
no_gap [] e = refl
no_gap (g ∷ gs) e = absurd (omega arith)

at_once : (token : Token) (ts : List Token) (n : ℕ) (text : List ℕ) → n ≡ 0 → Lies 0 (placed n token.text ∷ ts) text → (rest : List ℕ) × (text ≡ token.text ++ rest)
at_once token ts n text z (gap, rest, e, blanks, is_at, lies) =
    let none : gap ≡ [] = no_gap gap (omega arith) in
    (rest, e ∙ ap (λ g. g ++ token.text ++ rest) none)

start_is_next : (p : RawPart) (us : List Token) (text : List ℕ) (s : Sketch) → p.place ≡ 0 → (set : Option (List Number)) → p.set ≡ set → Lies 0 (set_tokens p.place set ++ us) text → read_from 0 Start s text ≡ read_from 0 PartNext s text
start_is_next p us text s z None e h =
    let r = at_once (mark (codes "all")) us p.place text z h in
    ap (read_from 0 Start s) r.1 ∙ sym (ap (read_from 0 PartNext s) r.1)
start_is_next p us text s z (Some ns) e h =
    let r = at_once (mark (codes "{")) ((numbers ns ++ mark (codes "}") ∷ []) ++ us) p.place text z h in
    ap (read_from 0 Start s) r.1 ∙ sym (ap (read_from 0 PartNext s) r.1)

-- a text that is spelled by a tree ends with what the tree has
pub tree_read : (text : List ℕ) (e : RawExpr) → Spelled text e → Ends 0 Start empty text (span_seen e.span (parts_seen e.more (part_seen e.first empty)))
tree_read text e sp =
    let a = and_parts (list_all (λ p. short_set p.set) (e.first ∷ e.more)) (short_span e.span) sp.short in
    let b = and_parts (short_set e.first.set) (list_all (λ p. short_set p.set) e.more) a.0 in
    let more = flat_map plus e.more ++ span_tokens e.span in
    let flat : tokens_of e ≡ part_tokens e.first ++ more = rw append_assoc in
    let rest = mark (codes ".") ∷ placed e.first.calendar_place (calendar_word e.first.calendar) ∷ more in
    let split : part_tokens e.first ++ more ≡ set_tokens e.first.place e.first.set ++ rest = rw append_assoc in
    let lies = lies_as 0 text (tokens_of e) (part_tokens e.first ++ more) flat sp.lies in
    let start = start_is_next e.first rest text empty sp.begins e.first.set refl (lies_as 0 text (part_tokens e.first ++ more) (set_tokens e.first.place e.first.set ++ rest) split lies) in
    let c = part_read e.first b.0 more 0 text empty lies in
    let d = more_read e.more e.span b.1 a.1 c.to_at c.rest (part_seen e.first empty) c.lies in
    (d.0, start ∙ c.same ∙ d.1)
