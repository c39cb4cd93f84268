-- An expression that is written is hardly longer than the text that it was read from.
use Rattle.std.proofs.Common.{◌≡◌, ℕ, ◌+◌, ◌*◌, ◌≤◌, Bool, true, false, nat_eq, nat_lt, List, [], ◌∷◌, ◌++◌, length, map, flat_map, Option, Some, None, Ok, refl, ◌∙◌, ap, arith, length-append, if◌then◌else◌}
use Rattle.std.specs.Prelude.{codes, decimal}
use Rattle.std.specs.List.{sum_by, insert, list_any, take_while}
use Rattle.std.proofs.lemmas.List.Sums.{sum_by-cons, sum_by-insert}
use Rattle.std.proofs.lemmas.Fmt.{length-decimal-le}
use Rattle.gtrbac_model.specs.declared.calendars.Calendar.{Calendar}
use Rattle.gtrbac_model.specs.declared.calendars.Calendar.TheVariants.{Years, Months, Weeks, Days, Hours, Minutes}
use Rattle.gtrbac_model.specs.Period.{Part, Expr}
use Rattle.gtrbac_model.specs.Valid.{is_below}
use Rattle.periodic_expr.specs.declared.faults.ExprKind.TheVariants.{NotFiner}
use Rattle.periodic_expr.specs.Scan.{calendar_word}
use Rattle.periodic_expr.specs.Sketch.{put_in}
use Rattle.periodic_expr.specs.Reading.{read_expr}
use Rattle.periodic_expr.specs.Printed.{numbers_text, later_number, set_text, part_text, later_part, parts_text, expr_text}
use Rattle.periodic_expr.specs.Grammar.{Number, RawPart, RawLength, RawExpr, Token, later_numbers, numbers, set_tokens, part_tokens, span_tokens, tokens_of, Lies, where_not, set_faults, later_faults, faults_of, first_faults, gathered, set_of, part_of, last_calendar, with_span, expr_of, Says}
use Rattle.periodic_expr.proofs.Accepted.{said_both}

abbrev weight : List Token → ℕ
weight [] = 0
weight (t ∷ ts) = length t.text + weight ts

weight-append : (ts us : List Token) → weight (ts ++ us) ≡ weight ts + weight us
weight-append [] us = omega arith
weight-append (t ∷ ts) us = omega (arith, weight-append ts us)

-- tokens lie in a text that is no shorter
lies_within : (at : ℕ) (ts : List Token) (text : List ℕ) → Lies at ts text → weight ts ≤ length text
lies_within at [] text lies = omega arith
lies_within at (t ∷ ts) text (gap, rest, is, blank, place, more) =
    let later = lies_within (at + length gap + length t.text) ts rest more in
    let whole : length text ≡ length gap + length t.text + length rest = ap length is ∙ length-append (gap ++ t.text) rest ∙ ap (λ n. n + length rest) (length-append gap t.text) in
    omega (arith, later, whole)

-- numbers, each with a sign behind it

abbrev sized : ℕ → ℕ
sized n = length (decimal n) + 1

abbrev cost : List ℕ → ℕ
cost [] = 0
cost (n ∷ ns) = sized n + cost ns

as_sum : (ns : List ℕ) → cost ns ≡ sum_by sized ns
as_sum [] = refl
as_sum (n ∷ ns) = omega (arith, as_sum ns, sum_by-cons sized n ns)

later_cost : (ns : List ℕ) → length (flat_map later_number ns) ≡ cost ns
later_cost [] = refl
later_cost (n ∷ ns) = omega (arith, length-append (later_number n) (flat_map later_number ns), later_cost ns)

numbers_cost : (n : ℕ) (ns : List ℕ) → length (numbers_text (n ∷ ns)) + 1 ≡ cost (n ∷ ns)
numbers_cost n ns = omega (arith, length-append (decimal n) (flat_map later_number ns), later_cost ns)

put_cost : (n : ℕ) (ns : List ℕ) → cost (put_in n ns) ≤ cost ns + length (decimal n) + 1
put_cost n ns = by (list_any (nat_eq n) ns)
  where
    by : (b : Bool) → cost (if b then ns else insert ns (length (take_while (λ m. nat_lt m n) ns)) n) ≤ cost ns + length (decimal n) + 1
    by true = omega arith
    by false =
        let at = length (take_while (λ m. nat_lt m n) ns) in
        omega (arith, sum_by-insert sized ns at n, as_sum ns, as_sum (insert ns at n))

gathered_cost : (set ns : List ℕ) → cost (gathered set ns) ≤ cost set + cost ns
gathered_cost set [] = omega arith
gathered_cost set (n ∷ ns) = omega (arith, gathered_cost (put_in n set) ns, put_cost n set)

later_weight : (ns : List Number) → weight (later_numbers ns) ≡ cost (map (λ n. n.value) ns)
later_weight [] = refl
later_weight (n ∷ ns) =
    omega (arith, later_weight ns)

numbers_weight : (ns : List Number) → length (numbers_text (gathered [] (map (λ n. n.value) ns))) ≤ weight (numbers ns)
numbers_weight [] = omega arith
numbers_weight (n ∷ ns) = by (gathered [] (map (λ n. n.value) (n ∷ ns))) (gathered_cost [] (map (λ n. n.value) (n ∷ ns)))
  where
    by : (set : List ℕ) → cost set ≤ cost [] + cost (map (λ n. n.value) (n ∷ ns)) → length (numbers_text set) ≤ weight (numbers (n ∷ ns))
    by [] h = omega arith
    by (m ∷ ms) h =
        omega (arith, h, numbers_cost m ms, later_weight ns)

set_weight : (place : ℕ) (set : Option (List Number)) → length (set_text (set_of set)) ≤ weight (set_tokens place set)
set_weight place None = omega arith
set_weight place (Some ns) =
    let text = numbers_text (gathered [] (map (λ n. n.value) ns)) in
    omega (arith, numbers_weight ns, length-append (codes "{" ++ text) (codes "}"), weight-append (numbers ns) (record { place = None; text = codes "}" } ∷ []))

part_weight : (p : RawPart) → length (part_text (part_of p)) ≤ weight (part_tokens p)
part_weight p =
    let text = set_text (set_of p.set) in
    omega (
      arith,
      set_weight p.place p.set,
      length-append (text ++ codes ".") (calendar_word p.calendar),
      length-append text (codes "."),
      weight-append (set_tokens p.place p.set) (record { place = None; text = codes "." } ∷ record { place = Some p.calendar_place; text = calendar_word p.calendar } ∷ []),
    )

abbrev plus : RawPart → List Token
plus p = record { place = None; text = codes "+" } ∷ part_tokens p

later_parts : (ps : List RawPart) → length (flat_map later_part (map part_of ps)) ≤ weight (flat_map plus ps) + 2 * length ps
later_parts [] = omega arith
later_parts (p ∷ ps) =
    omega (
      arith,
      part_weight p,
      later_parts ps,
      length-append (later_part (part_of p)) (flat_map later_part (map part_of ps)),
      weight-append (plus p) (flat_map plus ps),
    )

-- how many calendars can stand below one, each below the one before it
abbrev rank : Calendar → ℕ
rank Years = 4
rank Months = 3
rank Weeks = 3
rank Days = 2
rank Hours = 1
rank Minutes = 0

ranked : (c d : Calendar) → is_below c d ≡ true → rank d + 1 ≤ rank c
ranked Years Months h = omega arith
ranked Years Days h = omega arith
ranked Years Hours h = omega arith
ranked Years Minutes h = omega arith
ranked Months Days h = omega arith
ranked Months Hours h = omega arith
ranked Months Minutes h = omega arith
ranked Weeks Days h = omega arith
ranked Weeks Hours h = omega arith
ranked Weeks Minutes h = omega arith
ranked Days Hours h = omega arith
ranked Days Minutes h = omega arith
ranked Hours Minutes h = omega arith
ranked _ _ h = cc

at_most_four : (c : Calendar) → rank c ≤ 4
at_most_four Years = omega arith
at_most_four Months = omega arith
at_most_four Weeks = omega arith
at_most_four Days = omega arith
at_most_four Hours = omega arith
at_most_four Minutes = omega arith

at_most_seven : (c : Calendar) → length (calendar_word c) ≤ 7
at_most_seven Years = omega arith
at_most_seven Months = omega arith
at_most_seven Weeks = omega arith
at_most_seven Days = omega arith
at_most_seven Hours = omega arith
at_most_seven Minutes = omega arith

second_none : {A : Type 0} (xs ys : List A) → xs ++ ys ≡ [] → ys ≡ []
second_none [] ys h = h
second_none (x ∷ xs) ys h = cc

first_none : {A : Type 0} (xs ys : List A) → xs ++ ys ≡ [] → xs ≡ []
first_none [] ys h = refl
first_none (x ∷ xs) ys h = cc

few_parts : (above : Calendar) (ps : List RawPart) (span : Option RawLength) → later_faults above ps span ≡ [] → length ps ≤ rank above
few_parts above [] span none = omega arith
few_parts above (p ∷ ps) span none =
    let faults = set_faults p.place p.set ++ where_not (is_below above p.calendar) p.calendar_place NotFiner in
    let finer = second_none (set_faults p.place p.set) (where_not (is_below above p.calendar) p.calendar_place NotFiner) (first_none faults (later_faults p.calendar ps span) none) in
    omega (arith, few_parts p.calendar ps span (second_none faults (later_faults p.calendar ps span) none), ranked above p.calendar (it_is _ finer))
  where
    it_is : (b : Bool) → where_not b p.calendar_place NotFiner ≡ [] → b ≡ true
    it_is true h = refl
    it_is false h = cc

span_weight : (parts : List Part) (c : Calendar) (span : Option RawLength) → length (expr_text (with_span parts c span)) ≤ length (parts_text parts) + weight (span_tokens span) + 12
span_weight parts c None =
    omega (
      arith,
      length-decimal-le 1 1 (omega arith) (omega arith) (omega arith),
      at_most_seven c,
      length-append (parts_text parts ++ codes " > " ++ decimal 1 ++ codes ".") (calendar_word c),
      length-append (parts_text parts ++ codes " > " ++ decimal 1) (codes "."),
      length-append (parts_text parts ++ codes " > ") (decimal 1),
      length-append (parts_text parts) (codes " > "),
    )
span_weight parts c (Some l) =
    omega (
      arith,
      length-append (parts_text parts ++ codes " > " ++ decimal l.count.value ++ codes ".") (calendar_word l.unit),
      length-append (parts_text parts ++ codes " > " ++ decimal l.count.value) (codes "."),
      length-append (parts_text parts ++ codes " > ") (decimal l.count.value),
      length-append (parts_text parts) (codes " > "),
    )

tree_weight : (e : RawExpr) → faults_of e ≡ [] → length (expr_text (expr_of e)) ≤ weight (tokens_of e) + 20
tree_weight e none =
    let first = e.first in
    let last = last_calendar first.calendar e.more in
    let few = few_parts first.calendar e.more e.span (second_none (first_faults first.place first.set) (later_faults first.calendar e.more e.span) none) in
    omega (
      arith,
      few,
      at_most_four first.calendar,
      span_weight (map part_of (first ∷ e.more)) last e.span,
      part_weight first,
      later_parts e.more,
      length-append (part_text (part_of first)) (flat_map later_part (map part_of e.more)),
      weight-append (part_tokens first ++ flat_map plus e.more) (span_tokens e.span),
      weight-append (part_tokens first) (flat_map plus e.more),
    )

pub printed_short : (text : List ℕ) (e : Expr) → Says text e → length (expr_text e) ≤ length text + 20
printed_short text e says =
    let lies = lies_within 0 (tokens_of says.tree) text says.spelled.lies in
    let tree = tree_weight says.tree says.faultless in
    let same = ap (λ x. length (expr_text x)) says.means in
    omega (arith, lies, tree, same)

pub read_short : (text : List ℕ) (e : Expr) → read_expr text ≡ Ok e → length (expr_text e) ≤ length text + 20
read_short text e h = printed_short text e ((said_both text e).0 h)
