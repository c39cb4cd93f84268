-- An expression that is read is valid.
use Rattle.std.proofs.Common.{◌≡◌, ℕ, zero, suc, ◌<◌, Bool, true, false, not, ◌&&◌, ◌||◌, List, [], ◌∷◌, ◌++◌, length, map, Option, Some, None, Ok, refl, ◌∙◌, ap, arith, if◌then◌else◌}
use Rattle.std.specs.Prelude.{nat_eq, nat_le, nat_lt, is_some}
use Rattle.std.specs.List.{list_all, list_any, insert, take_while}
use Rattle.std.proofs.lemmas.Bool.{and_parts, and_from, leb-true, ltb-true, false≢true}
use Rattle.gtrbac_model.specs.declared.calendars.Calendar.{Calendar}
use Rattle.gtrbac_model.specs.Period.{Part, Expr}
use Rattle.gtrbac_model.specs.Valid.{is_same, is_below, is_set, rises_above, goes_down, from_all, is_expr}
use Rattle.periodic_expr.specs.declared.faults.ExprKind.{ExprKind}
use Rattle.periodic_expr.specs.Sketch.{put_in}
use Rattle.periodic_expr.specs.Grammar.{Number, RawPart, RawLength, RawExpr, is_short, short_set, short_span, where_not, zero_faults, set_faults, first_faults, span_faults, later_faults, faults_of, gathered, set_of, part_of, last_calendar, with_span, expr_of}
use Rattle.periodic_expr.specs.Reading.{read_expr}
use Rattle.periodic_expr.proofs.Sets.{put_rises, has_nine}
use Rattle.periodic_expr.proofs.Chains.{same_itself}
use Rattle.periodic_expr.proofs.Accepted.{said_both}

record NoneOf {A : Type 0} (a b : List A) : Type 0 where
  left : a ≡ []
  right : b ≡ []

none_of : {A : Type 0} (a b : List A) → a ++ b ≡ [] → NoneOf a b
none_of [] b e = record { left = refl; right = e }
none_of (x ∷ a) b e = absurd (some_left e)
  where
    some_left : (x ∷ a) ++ b ≡ [] → ⊥
    some_left e = cc

some_none : {A : Type 0} {x : A} {xs : List A} → x ∷ xs ≡ [] → ⊥
some_none e = cc

holds : (good : Bool) (n : ℕ) (kind : ExprKind) → where_not good n kind ≡ [] → good ≡ true
holds true n kind e = refl
holds false n kind e = absurd (some_none e)

-- sets

record GoodSet (set : List ℕ) : Type 0 where
  rises : (rises_above 0 set && list_all has_nine set) ≡ true
  some : 0 < length set

some_insert : (ns : List ℕ) (k n : ℕ) → 0 < length (insert ns k n)
some_insert ns zero n = omega arith
some_insert [] (suc k) n = omega arith
some_insert (m ∷ ms) (suc k) n = omega arith

some_put : (n : ℕ) (ns : List ℕ) → 0 < length (put_in n ns)
some_put n ns = by (list_any (nat_eq n) ns) refl
  where
    found : (ns : List ℕ) → list_any (nat_eq n) ns ≡ true → 0 < length ns
    found [] h = absurd (false≢true h)
    found (m ∷ ms) h = omega arith

    by : (b : Bool) → list_any (nat_eq n) ns ≡ b → 0 < length (if b then ns else insert ns (length (take_while (λ m. nat_lt m n) ns)) n)
    by true e = found ns e
    by false e = some_insert ns (length (take_while (λ m. nat_lt m n) ns)) n

put_good : (n : Number) (ns : List ℕ) → is_short n ≡ true → nat_lt 0 n.value ≡ true → (rises_above 0 ns && list_all has_nine ns) ≡ true → GoodSet (put_in n.value ns)
put_good n ns short above rises = record {
  rises = put_rises n.value ns (ltb-true 0 n.value above) (leb-true n.value 999_999_999 short) rises;
  some = some_put n.value ns;
}

more_good : (ns : List Number) (set : List ℕ) → list_all is_short ns ≡ true → zero_faults ns ≡ [] → GoodSet set → GoodSet (gathered set (map (λ n. n.value) ns))
more_good [] set short faults good = good
more_good (n ∷ ns) set short faults good =
    let parts = and_parts (is_short n) (list_all is_short ns) short in
    let none = none_of (where_not (nat_lt 0 n.value) n.place _) (zero_faults ns) faults in
    more_good ns (put_in n.value set) parts.1 none.right (put_good n set parts.0 (holds (nat_lt 0 n.value) n.place _ none.left) good.rises)

good_is_set : (set : List ℕ) → GoodSet set → is_set (Some set) ≡ true
good_is_set [] good = absurd (omega (arith, good.some))
good_is_set (n ∷ ns) good = good.rises

set_valid : (place : ℕ) (set : Option (List Number)) → short_set set ≡ true → set_faults place set ≡ [] → is_set (set_of set) ≡ true
set_valid place None short faults = refl
set_valid place (Some []) short faults = absurd (some_none faults)
set_valid place (Some (n ∷ ns)) short faults =
    let parts = and_parts (is_short n) (list_all is_short ns) short in
    let none = none_of (where_not (nat_lt 0 n.value) n.place _) (zero_faults ns) faults in
    good_is_set (gathered (put_in n.value []) (map (λ n. n.value) ns))
    (more_good ns (put_in n.value []) parts.1 none.right (put_good n [] parts.0 (holds (nat_lt 0 n.value) n.place _ none.left) refl))

-- parts and the length

abbrev unit_of : Calendar → Option RawLength → Calendar
unit_of last None = last
unit_of last (Some l) = l.unit

abbrev count_of : Option RawLength → ℕ
count_of None = 1
count_of (Some l) = l.count.value

spanned : (parts : List Part) (last : Calendar) (span : Option RawLength) → with_span parts last span ≡ record { parts = parts; count = count_of span; unit = unit_of last span }
spanned parts last None = refl
spanned parts last (Some l) = refl

record SpanGood (above : Calendar) (span : Option RawLength) : Type 0 where
  unit : (is_same above (unit_of above span) || is_below above (unit_of above span)) ≡ true
  count : (nat_le 1 (count_of span) && nat_le (count_of span) 1000) ≡ true

span_good : (above : Calendar) (span : Option RawLength) → span_faults above span ≡ [] → SpanGood above span
span_good above None faults = record { unit = ap (λ b. b || is_below above above) (same_itself above); count = refl }
span_good above (Some l) faults =
    let none = none_of (where_not (nat_le 1 l.count.value && nat_le l.count.value 1000) l.count.place _) (where_not (is_same above l.unit || is_below above l.unit) l.unit_place _) faults in
    record { unit = holds (is_same above l.unit || is_below above l.unit) l.unit_place _ none.right; count = holds (nat_le 1 l.count.value && nat_le l.count.value 1000) l.count.place _ none.left }

record DownGood (above : Calendar) (ps : List RawPart) (span : Option RawLength) : Type 0 where
  down : goes_down above (map part_of ps) (unit_of (last_calendar above ps) span) ≡ true
  count : (nat_le 1 (count_of span) && nat_le (count_of span) 1000) ≡ true

down_good : (above : Calendar) (ps : List RawPart) (span : Option RawLength) → list_all (λ p. short_set p.set) ps ≡ true → later_faults above ps span ≡ [] → DownGood above ps span
down_good above [] span short faults = let good = span_good above span faults in record { down = good.unit; count = good.count }
down_good above (p ∷ ps) span short faults =
    let parts = and_parts (short_set p.set) (list_all (λ p. short_set p.set) ps) short in
    let none = none_of (set_faults p.place p.set ++ where_not (is_below above p.calendar) p.calendar_place _) (later_faults p.calendar ps span) faults in
    let first = none_of (set_faults p.place p.set) (where_not (is_below above p.calendar) p.calendar_place _) none.left in
    let rest = down_good p.calendar ps span parts.1 none.right in
    record {
      down = and_from (is_set (set_of p.set) && is_below above p.calendar) (goes_down p.calendar (map part_of ps) (unit_of (last_calendar p.calendar ps) span))
          (and_from (is_set (set_of p.set)) (is_below above p.calendar) (set_valid p.place p.set parts.0 first.left) (holds (is_below above p.calendar) p.calendar_place _ first.right)) rest.down;
      count = rest.count;
    }

no_set : (place : ℕ) (set : Option (List Number)) → first_faults place set ≡ [] → not (is_some (set_of set)) ≡ true
no_set place None faults = refl
no_set place (Some ns) faults = absurd (some_none faults)

tree_valid : (e : RawExpr) → (list_all (λ p. short_set p.set) (e.first ∷ e.more) && short_span e.span) ≡ true → faults_of e ≡ [] → is_expr (expr_of e) ≡ true
tree_valid e short faults =
    let none = none_of (first_faults e.first.place e.first.set) (later_faults e.first.calendar e.more e.span) faults in
    let all_short = (and_parts (list_all (λ p. short_set p.set) (e.first ∷ e.more)) (short_span e.span) short).0 in
    let good = down_good e.first.calendar e.more e.span (and_parts (short_set e.first.set) (list_all (λ p. short_set p.set) e.more) all_short).1 none.right in
    let unit = unit_of (last_calendar e.first.calendar e.more) e.span in
    let chain : from_all (map part_of (e.first ∷ e.more)) unit ≡ true =
    and_from (not (is_some (set_of e.first.set))) (goes_down e.first.calendar (map part_of e.more) unit) (no_set e.first.place e.first.set none.left) good.down in
    let count = and_parts (nat_le 1 (count_of e.span)) (nat_le (count_of e.span) 1000) good.count in
    ap is_expr (spanned (map part_of (e.first ∷ e.more)) (last_calendar e.first.calendar e.more) e.span)
    ∙ and_from (from_all (map part_of (e.first ∷ e.more)) unit && nat_le 1 (count_of e.span)) (nat_le (count_of e.span) 1000)
    (and_from (from_all (map part_of (e.first ∷ e.more)) unit) (nat_le 1 (count_of e.span)) chain count.0) count.1

pub read_valid : (text : List ℕ) (e : Expr) → read_expr text ≡ Ok e → is_expr e ≡ true
read_valid text e is = let says = (said_both text e).0 is in ap is_expr says.means ∙ tree_valid says.tree says.spelled.short says.faultless
