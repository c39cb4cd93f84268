-- The canonical text is spelled by a tree.
use Rattle.std.proofs.Common.{◌≡◌, ℕ, suc, ◌+◌, ◌<◌, true, false, not, ◌&&◌, ◌||◌, nat_le, nat_lt, nat_eq, List, [], ◌∷◌, ◌++◌, length, map, flat_map, Option, Some, None, is_some, refl, ap, sym, subst, ◌∙◌, arith, append_assoc, codes, decimal}
use Rattle.std.specs.List.{list_any, list_all}
use Rattle.std.proofs.lemmas.Bool.{false≢true, and_parts, and_from, ltb-true, lt-ltb, leb-true, le-leb, or_from, ne_eqb}
use Rattle.gtrbac_model.specs.declared.calendars.Calendar.{Calendar}
use Rattle.gtrbac_model.specs.Period.{Part, Expr}
use Rattle.gtrbac_model.specs.Valid.{is_below, is_same, is_set, rises_above, goes_down, from_all, is_expr}
use Rattle.gtrbac_model.specs.Selects.{last_of}
use Rattle.gtrbac_model.proofs.Downward.{lower, goes_to_unit}
use Rattle.periodic_expr.specs.declared.faults.ExprKind.TheVariants.{ZeroIndex, NotFiner, BadLength}
use Rattle.periodic_expr.specs.Scan.{is_blank, calendar_word}
use Rattle.periodic_expr.specs.Sketch.{put_in}
use Rattle.periodic_expr.specs.Printed.{later_number, set_text, part_text, later_part, parts_text, expr_text}
use Rattle.periodic_expr.specs.Grammar.{Number, RawPart, RawLength, RawExpr, Token, mark, placed, number_token, later_numbers, numbers, set_tokens, part_tokens, span_tokens, tokens_of, IsAt, Lies, is_short, short_set, Spelled, where_not, zero_faults, set_faults, first_faults, span_faults, later_faults, faults_of, gathered, set_of, part_of, last_calendar, expr_of}
use Rattle.periodic_expr.proofs.Sets.{below, put_at, put_behind, put_new}

-- ascending numbers are gathered one behind the other

rises_last : (a n : ℕ) (ks ns : List ℕ) → rises_above a (ks ++ n ∷ ns) ≡ true → a < n
rises_last a n [] ns h = ltb-true a n (and_parts (nat_lt a n) (rises_above n ns) h).0
rises_last a n (k ∷ ks) ns h =
    let both = and_parts (nat_lt a k) (rises_above k (ks ++ n ∷ ns)) h in
    let lt = ltb-true a k both.0 in
    let more = rises_last k n ks ns both.1 in
    omega arith

new_number : (a n : ℕ) (ks ns : List ℕ) → rises_above a (ks ++ n ∷ ns) ≡ true → list_any (nat_eq n) ks ≡ false
new_number a n [] ns h = refl
new_number a n (k ∷ ks) ns h =
    let both = and_parts (nat_lt a k) (rises_above k (ks ++ n ∷ ns)) h in
    let lt = rises_last k n ks ns both.1 in
    or_from (nat_eq n k) (list_any (nat_eq n) ks) (ne_eqb n k (λ e. omega arith)) (new_number k n ks ns both.1)

put_end : (a n : ℕ) (ks ns : List ℕ) → rises_above a (ks ++ n ∷ ns) ≡ true → put_at n ks ≡ ks ++ n ∷ []
put_end a n [] ns h = refl
put_end a n (k ∷ ks) ns h =
    let both = and_parts (nat_lt a k) (rises_above k (ks ++ n ∷ ns)) h in
    put_behind n k ks (lt-ltb k n (rises_last k n ks ns both.1)) ∙ ap (λ xs. k ∷ xs) (put_end k n ks ns both.1)

append_nil : (xs : List ℕ) → xs ++ [] ≡ xs
append_nil [] = refl
append_nil (x ∷ xs) = ap (λ ys. x ∷ ys) (append_nil xs)

gathered_rising : (ks ns : List ℕ) → rises_above 0 (ks ++ ns) ≡ true → gathered ks ns ≡ ks ++ ns
gathered_rising ks [] h = sym (append_nil ks)
gathered_rising ks (n ∷ ns) h =
    let put : put_in n ks ≡ ks ++ n ∷ [] = put_new n ks (new_number 0 n ks ns h) ∙ put_end 0 n ks ns h in
    let same : (ks ++ n ∷ []) ++ ns ≡ ks ++ n ∷ ns = rw append_assoc in
    ap (λ x. gathered x ns) put ∙ gathered_rising (ks ++ n ∷ []) ns (ap (rises_above 0) same ∙ h) ∙ same

-- a token without blanks before it

pub here : (at : ℕ) (token : Token) (ts : List Token) (rest : List ℕ) → IsAt token.place (at + length {A = ℕ} []) → Lies (at + length {A = ℕ} [] + length token.text) ts rest → Lies at (token ∷ ts) (token.text ++ rest)
here at token ts rest told h = ([], rest, refl, refl, told, h)

after_blank : (at : ℕ) (token : Token) (ts : List Token) (rest : List ℕ) → IsAt token.place (at + length {A = ℕ} (32 ∷ [])) → Lies (at + length {A = ℕ} (32 ∷ []) + length token.text) ts rest → Lies at (token ∷ ts) (32 ∷ token.text ++ rest)
after_blank at token ts rest told h = (32 ∷ [], rest, refl, refl, told, h)

blank_more : (at : ℕ) (token : Token) (ts : List Token) (text : List ℕ) → Lies (at + 1) (token ∷ ts) text → Lies at (token ∷ ts) (32 ∷ text)
blank_more at token ts text (gap, rest, e, blanks, told, lies) =
    let same : at + 1 + length gap ≡ at + suc (length gap) = omega arith in
    (32 ∷ gap, rest, ap (λ x. 32 ∷ x) e, blanks, subst (λ (n : ℕ). IsAt token.place n) same told, subst (λ (n : ℕ). Lies (n + length token.text) ts rest) same lies)

-- tokens that lie on a text, whatever place it begins at
abbrev pub Fits : (List Token → Type 0) → List ℕ → Type 0
Fits P text = (at : ℕ) → (ts : List Token) × Lies at ts text × P ts

-- numbers
record Behind (ns : List ℕ) (P : List Token → Type 0) (ts : List Token) : Type 0 where
  nums : List Number
  more : List Token
  tokens : ts ≡ later_numbers nums ++ more
  values : map (λ n. n.value) nums ≡ ns
  fits : P more

later_lies : (ns : List ℕ) (P : List Token → Type 0) (rest : List ℕ) → Fits P rest → Fits (Behind ns P) (flat_map later_number ns ++ rest)
later_lies [] P rest tail at = let t = tail at in (t.0, t.1, record { nums = []; more = t.0; tokens = refl; values = refl; fits = t.2 })
later_lies (n ∷ ns) P rest tail at =
    let k = at + length {A = ℕ} [] + length (codes ",") in
    let num : Number = record { place = k + length {A = ℕ} []; value = n } in
    let m = later_lies ns P rest tail (k + length {A = ℕ} [] + length (decimal n)) in
    let b = m.2 in
    let same : later_number n ++ flat_map later_number ns ++ rest ≡ codes "," ++ (decimal n ++ (flat_map later_number ns ++ rest)) = rw append_assoc in (
      mark (codes ",") ∷ number_token num ∷ m.0,
      subst (λ x. Lies at (mark (codes ",") ∷ number_token num ∷ m.0) x) (sym same) (here at (mark (codes ",")) (number_token num ∷ m.0) (decimal n ++ (flat_map later_number ns ++ rest)) tt (here k (number_token num) m.0 (flat_map later_number ns ++ rest) refl m.1)),
      record { nums = num ∷ b.nums; more = b.more; tokens = ap (λ ts. mark (codes ",") ∷ number_token num ∷ ts) b.tokens; values = ap (λ vs. n ∷ vs) b.values; fits = b.fits },
    )

-- a set
record SetThen (set : Option (List ℕ)) (P : List Token → Type 0) (ts : List Token) : Type 0 where
  place : ℕ
  nums : Option (List Number)
  more : List Token
  tokens : ts ≡ set_tokens place nums ++ more
  means : set_of nums ≡ set
  short : short_set nums ≡ true
  good : set_faults place nums ≡ []
  all : is_some set ≡ false → nums ≡ None
  fits : P more

abbrev values : List Number → List ℕ
values ns = map (λ n. n.value) ns

zero_free : (a : ℕ) (ns : List Number) → rises_above a (values ns) ≡ true → zero_faults ns ≡ []
zero_free a [] h = refl
zero_free a (n ∷ ns) h =
    let both = and_parts (nat_lt a n.value) (rises_above n.value (values ns)) h in
    let lt = ltb-true a n.value both.0 in
    ap (λ b. where_not b n.place ZeroIndex ++ zero_faults ns) (lt-ltb 0 n.value (omega arith)) ∙ zero_free n.value ns both.1

all_short : (ns : List Number) → list_all (λ m. nat_le m 999_999_999) (values ns) ≡ true → list_all is_short ns ≡ true
all_short [] h = refl
all_short (n ∷ ns) h =
    let both = and_parts (nat_le n.value 999_999_999) (list_all (λ m. nat_le m 999_999_999) (values ns)) h in
    and_from (is_short n) (list_all is_short ns) both.0 (all_short ns both.1)

-- the numbers of a set that ascends
record Rising (nums : List Number) (ns : List ℕ) : Type 0 where
  means : gathered [] (values nums) ≡ ns
  short : list_all is_short nums ≡ true
  good : zero_faults nums ≡ []

rising : (nums : List Number) (ns : List ℕ) → values nums ≡ ns → (rises_above 0 ns && list_all (λ m. nat_le m 999_999_999) ns) ≡ true → Rising nums ns
rising nums ns e h =
    let both = and_parts (rises_above 0 ns) (list_all (λ m. nat_le m 999_999_999) ns) h in
    record {
      means = ap (gathered []) e ∙ gathered_rising [] ns both.0;
      short = all_short nums (ap (list_all (λ m. nat_le m 999_999_999)) e ∙ both.1);
      good = zero_free 0 nums (ap (rises_above 0) e ∙ both.0);
    }

set_lies : (set : Option (List ℕ)) (P : List Token → Type 0) (rest : List ℕ) → is_set set ≡ true → Fits P rest → Fits (SetThen set P) (set_text set ++ rest)
set_lies None P rest h tail at =
    let place = at + length {A = ℕ} [] in
    let t = tail (place + length (codes "all")) in (
      placed place (codes "all") ∷ t.0,
      here at (placed place (codes "all")) t.0 rest refl t.1,
      record { place = place; nums = None; more = t.0; tokens = refl; means = refl; short = refl; good = refl; all = λ e. refl; fits = t.2 },
    )
set_lies (Some []) P rest h tail at = absurd (false≢true h)
set_lies (Some (n ∷ ns)) P rest h tail at =
    let place = at + length {A = ℕ} [] in
    let k = place + length (codes "{") in
    let num : Number = record { place = k + length {A = ℕ} []; value = n } in
    let closing : Fits (λ ts. (us : List Token) × (ts ≡ mark (codes "}") ∷ us) × P us) (codes "}" ++ rest) = λ x.
    (let t = tail (x + length {A = ℕ} [] + length (codes "}")) in
    (mark (codes "}") ∷ t.0, here x (mark (codes "}")) t.0 rest tt t.1, (t.0, refl, t.2))) in
    let m = later_lies ns (λ ts. (us : List Token) × (ts ≡ mark (codes "}") ∷ us) × P us) (codes "}" ++ rest) closing (k + length {A = ℕ} [] + length (decimal n)) in
    let b = m.2 in
    let us = b.fits.0 in
    let nums = num ∷ b.nums in
    let r = rising nums (n ∷ ns) (ap (λ vs. n ∷ vs) b.values) h in
    let text = decimal n ++ (flat_map later_number ns ++ (codes "}" ++ rest)) in
    let same : set_text (Some (n ∷ ns)) ++ rest ≡ codes "{" ++ text = simp append_assoc in
    let toks : later_numbers b.nums ++ b.more ≡ (later_numbers b.nums ++ mark (codes "}") ∷ []) ++ us = ap (λ x. later_numbers b.nums ++ x) b.fits.1 ∙ (rw append_assoc) in (
      placed place (codes "{") ∷ number_token num ∷ m.0,
      subst (λ x. Lies at (placed place (codes "{") ∷ number_token num ∷ m.0) x) (sym same) (here at (placed place (codes "{")) (number_token num ∷ m.0) text refl (here k (number_token num) m.0 (flat_map later_number ns ++ (codes "}" ++ rest)) refl m.1)),
      record {
        place = place;
        nums = Some nums;
        more = us;
        tokens = ap (λ ts. placed place (codes "{") ∷ number_token num ∷ ts) (b.tokens ∙ toks);
        means = ap (λ x. Some x) r.means;
        short = r.short;
        good = r.good;
        all = λ e. absurd (false≢true (sym e));
        fits = b.fits.2;
      },
    )

-- a part
record PartThen (part : Part) (P : List Token → Type 0) (ts : List Token) : Type 0 where
  raw : RawPart
  more : List Token
  tokens : ts ≡ part_tokens raw ++ more
  means : part_of raw ≡ part
  calendar : raw.calendar ≡ part.calendar
  short : short_set raw.set ≡ true
  good : set_faults raw.place raw.set ≡ []
  all : is_some part.set ≡ false → raw.set ≡ None
  fits : P more

part_lies : (part : Part) (P : List Token → Type 0) (rest : List ℕ) → is_set part.set ≡ true → Fits P rest → Fits (PartThen part P) (part_text part ++ rest)
part_lies part P rest h tail at =
    let Q : List Token → Type 0 = λ ts. (n : ℕ) × (us : List Token) × (ts ≡ mark (codes ".") ∷ placed n (calendar_word part.calendar) ∷ us) × P us in
    let named : Fits Q (codes "." ++ (calendar_word part.calendar ++ rest)) = λ x.
    (let k = x + length {A = ℕ} [] + length (codes ".") in
    let n = k + length {A = ℕ} [] in
    let t = tail (n + length (calendar_word part.calendar)) in
    let name = placed n (calendar_word part.calendar) in
    (mark (codes ".") ∷ name ∷ t.0, here x (mark (codes ".")) (name ∷ t.0) (calendar_word part.calendar ++ rest) tt (here k name t.0 rest refl t.1), (n, t.0, refl, t.2))) in
    let s = set_lies part.set Q (codes "." ++ (calendar_word part.calendar ++ rest)) h named at in
    let b = s.2 in
    let q = b.fits in
    let raw : RawPart = record { place = b.place; set = b.nums; calendar_place = q.0; calendar = part.calendar } in
    let same : part_text part ++ rest ≡ set_text part.set ++ (codes "." ++ (calendar_word part.calendar ++ rest)) = simp append_assoc in
    let toks : set_tokens b.place b.nums ++ b.more ≡ part_tokens raw ++ q.1 = ap (λ x. set_tokens b.place b.nums ++ x) q.2 ∙ (rw append_assoc) in (
      s.0,
      subst (λ x. Lies at s.0 x) (sym same) s.1,
      record {
        raw = raw;
        more = q.1;
        tokens = b.tokens ∙ toks;
        means = ap (λ x. record { calendar = part.calendar; set = x }) b.means;
        calendar = refl;
        short = b.short;
        good = b.good;
        all = b.all;
        fits = q.3;
      },
    )

-- the length
record LengthThen (e : Expr) (ts : List Token) : Type 0 where
  raw : RawLength
  tokens : ts ≡ span_tokens (Some raw)
  count : raw.count.value ≡ e.count
  unit : raw.unit ≡ e.unit

length_lies : (e : Expr) → Fits (LengthThen e) (codes " > " ++ decimal e.count ++ codes "." ++ calendar_word e.unit)
length_lies e at =
    let a = at + length {A = ℕ} (32 ∷ []) + length (codes ">") in
    let num : Number = record { place = a + length {A = ℕ} (32 ∷ []); value = e.count } in
    let b = a + length {A = ℕ} (32 ∷ []) + length (decimal e.count) in
    let c = b + length {A = ℕ} [] + length (codes ".") in
    let n = c + length {A = ℕ} [] in
    let name = placed n (calendar_word e.unit) in
    let raw : RawLength = record { count = num; unit_place = n; unit = e.unit } in
    let same : codes " > " ++ decimal e.count ++ codes "." ++ calendar_word e.unit ≡ 32 ∷ codes ">" ++ (32 ∷ decimal e.count ++ (codes "." ++ (calendar_word e.unit ++ []))) = rw (append_assoc, append_assoc, append_nil (calendar_word e.unit)) in (
      span_tokens (Some raw),
      subst (λ x. Lies at (span_tokens (Some raw)) x) (sym same)
          (after_blank at (mark (codes ">")) (number_token num ∷ mark (codes ".") ∷ name ∷ []) (32 ∷ decimal e.count ++ (codes "." ++ (calendar_word e.unit ++ []))) tt
          (after_blank a (number_token num) (mark (codes ".") ∷ name ∷ []) (codes "." ++ (calendar_word e.unit ++ [])) refl (here b (mark (codes ".")) (name ∷ []) (calendar_word e.unit ++ []) tt (here c name [] [] refl refl)))),
      record { raw = raw; tokens = refl; count = refl; unit = refl },
    )

-- further parts, which go down
abbrev plus : RawPart → List Token
plus p = mark (codes "+") ∷ part_tokens p

record PartsThen (above : Calendar) (ps : List Part) (P : List Token → Type 0) (ts : List Token) : Type 0 where
  raws : List RawPart
  more : List Token
  tokens : ts ≡ flat_map plus raws ++ more
  means : map part_of raws ≡ ps
  short : list_all (λ p. short_set p.set) raws ≡ true
  good : (span : Option RawLength) → later_faults above raws span ≡ span_faults (last_calendar above raws) span
  fits : P more

-- one blank more before a part
set_blank : (place : ℕ) (nums : Option (List Number)) (us : List Token) (at : ℕ) (text : List ℕ) → Lies (at + 1) (set_tokens place nums ++ us) text → Lies at (set_tokens place nums ++ us) (32 ∷ text)
set_blank place None us at text h = blank_more at (placed place (codes "all")) us text h
set_blank place (Some ns) us at text h = blank_more at (placed place (codes "{")) ((numbers ns ++ mark (codes "}") ∷ []) ++ us) text h

part_blank : (raw : RawPart) (more : List Token) (at : ℕ) (ts : List Token) (text : List ℕ) → ts ≡ part_tokens raw ++ more → Lies (at + 1) ts text → Lies at ts (32 ∷ text)
part_blank raw more at ts text e h =
    let us = mark (codes ".") ∷ placed raw.calendar_place (calendar_word raw.calendar) ∷ more in
    let toks : ts ≡ set_tokens raw.place raw.set ++ us = e ∙ (rw append_assoc) in
    let split = subst (λ x. Lies (at + 1) x text) toks h in
    subst (λ x. Lies at x (32 ∷ text)) (sym toks) (set_blank raw.place raw.set us at text split)

faultless : (above : Calendar) (p : Part) (raw : RawPart) (raws : List RawPart) (span : Option RawLength) → set_faults raw.place raw.set ≡ [] → raw.calendar ≡ p.calendar → is_below above p.calendar ≡ true → later_faults p.calendar raws span ≡ span_faults (last_calendar p.calendar raws) span
    → later_faults above (raw ∷ raws) span ≡ span_faults (last_calendar above (raw ∷ raws)) span
faultless above p raw raws span good calendar below more =
    let below' : is_below above raw.calendar ≡ true = ap (is_below above) calendar ∙ below in
    let more' : later_faults raw.calendar raws span ≡ span_faults (last_calendar raw.calendar raws) span = subst (λ (c : Calendar). later_faults c raws span ≡ span_faults (last_calendar c raws) span) (sym calendar) more in
    ap (λ x. x ++ where_not (is_below above raw.calendar) raw.calendar_place NotFiner ++ later_faults raw.calendar raws span) good
    ∙ ap (λ t. where_not t raw.calendar_place NotFiner ++ later_faults raw.calendar raws span) below' ∙ more'

parts_lie : (above : Calendar) (ps : List Part) (unit : Calendar) (P : List Token → Type 0) (rest : List ℕ) → goes_down above ps unit ≡ true → Fits P rest → Fits (PartsThen above ps P) (flat_map later_part ps ++ rest)
parts_lie above [] unit P rest h tail at =
    let t = tail at in
    (t.0, t.1, record { raws = []; more = t.0; tokens = refl; means = refl; short = refl; good = λ span. refl; fits = t.2 })
parts_lie above (p ∷ ps) unit P rest h tail at =
    let low = lower above p ps unit h in
    let k = at + length {A = ℕ} (32 ∷ []) + length (codes "+") in
    let more = flat_map later_part ps ++ rest in
    let m = part_lies p (PartsThen p.calendar ps P) more low.set (parts_lie p.calendar ps unit P rest low.more tail) (k + 1) in
    let b = m.2 in
    let w = b.fits in
    let raws = b.raw ∷ w.raws in
    let same : flat_map later_part (p ∷ ps) ++ rest ≡ 32 ∷ codes "+" ++ (32 ∷ part_text p ++ more) = simp append_assoc in
    let spaced : Lies k m.0 (32 ∷ part_text p ++ more) = part_blank b.raw b.more k m.0 (part_text p ++ more) b.tokens m.1 in
    let toks : m.0 ≡ (part_tokens b.raw ++ flat_map plus w.raws) ++ w.more = b.tokens ∙ ap (λ x. part_tokens b.raw ++ x) w.tokens ∙ (simp append_assoc) in (
      mark (codes "+") ∷ m.0,
      subst (λ x. Lies at (mark (codes "+") ∷ m.0) x) (sym same) (after_blank at (mark (codes "+")) m.0 (32 ∷ part_text p ++ more) tt spaced),
      record {
        raws = raws;
        more = w.more;
        tokens = ap (λ x. mark (codes "+") ∷ x) toks;
        means = ap (λ x. x ∷ map part_of w.raws) b.means ∙ ap (λ x. p ∷ x) w.means;
        short = and_from (short_set b.raw.set) (list_all (λ p. short_set p.set) w.raws) b.short w.short;
        good = λ span. faultless above p b.raw w.raws span b.good b.calendar low.below (w.good span);
        fits = w.fits;
      },
    )

-- the whole text

last_same : (c : Calendar) (raws : List RawPart) → last_calendar c raws ≡ last_of c (map part_of raws)
last_same c [] = refl
last_same c (r ∷ rs) = last_same r.calendar rs

all_set : (set : Option (List ℕ)) → not (is_some set) ≡ true → is_set set ≡ true
all_set None h = refl
all_set (Some ns) h = absurd (false≢true h)

all_none : (set : Option (List ℕ)) → not (is_some set) ≡ true → is_some set ≡ false
all_none None h = refl
all_none (Some ns) h = absurd (false≢true h)

all_text : (set : Option (List ℕ)) → not (is_some set) ≡ true → set_text set ≡ codes "all"
all_text None h = refl
all_text (Some ns) h = absurd (false≢true h)

at_zero : (n : ℕ) (word : List ℕ) (ts : List Token) (text xs : List ℕ) → text ≡ 97 ∷ xs → Lies 0 (placed n word ∷ ts) text → n ≡ 0
at_zero n word ts text xs a ([], rest, e, blanks, told, lies) = omega arith
at_zero n word ts text xs a (g ∷ gs, rest, e, blanks, told, lies) =
    let same : 97 ≡ g = cc (a, e) in
    let blank = (and_parts (is_blank g) (list_all is_blank gs) blanks).0 in
    absurd (false≢true (ap is_blank same ∙ blank))

pub record Canon (e : Expr) : Type 0 where
  pub tree : RawExpr
  pub spelled : Spelled (expr_text e) tree
  pub good : faults_of tree ≡ []
  pub means : expr_of tree ≡ e

abbrev with_parts : List Part → ℕ → Calendar → Expr
with_parts parts count unit = record { parts = parts; count = count; unit = unit }

-- what is known of the tree of a canonical text
record Known (e : Expr) (p : Part) (ps : List Part) (raw : RawPart) (raws : List RawPart) (l : RawLength) : Type 0 where
  set : raw.set ≡ None
  calendar : raw.calendar ≡ p.calendar
  first : part_of raw ≡ p
  others : map part_of raws ≡ ps
  short : list_all (λ p. short_set p.set) raws ≡ true
  good : later_faults p.calendar raws (Some l) ≡ span_faults (last_calendar p.calendar raws) (Some l)
  count : l.count.value ≡ e.count
  unit : l.unit ≡ e.unit

span_good : (c : Calendar) (l : RawLength) (count : ℕ) (u : Calendar) → l.count.value ≡ count → l.unit ≡ u → (nat_le 1 count && nat_le count 1000) ≡ true → (is_same c u || is_below c u) ≡ true → span_faults c (Some l) ≡ []
span_good c l count u n e low below =
    let a : (nat_le 1 l.count.value && nat_le l.count.value 1000) ≡ true = ap (λ x. nat_le 1 x && nat_le x 1000) n ∙ low in
    let b : (is_same c l.unit || is_below c l.unit) ≡ true = ap (λ x. is_same c x || is_below c x) e ∙ below in
    ap (λ t. where_not t l.count.place BadLength ++ where_not (is_same c l.unit || is_below c l.unit) l.unit_place NotFiner) a ∙ ap (λ t. where_not t l.unit_place NotFiner) b

begins_at : (raw : RawPart) (us : List Token) (text xs : List ℕ) (set : Option (List Number)) → set ≡ None → text ≡ 97 ∷ xs → Lies 0 (set_tokens raw.place set ++ us) text → raw.place ≡ 0
begins_at raw us text xs None e a h = at_zero raw.place (codes "all") us text xs a h
begins_at raw us text xs (Some ns) e a h = absurd (some_none e)
  where
    some_none : Some ns ≡ None → ⊥
    some_none q = cc

assembled : (e : Expr) (p : Part) (ps : List Part) (raw : RawPart) (raws : List RawPart) (l : RawLength) (xs : List ℕ) → e.parts ≡ p ∷ ps → goes_down p.calendar ps e.unit ≡ true → (nat_le 1 e.count && nat_le e.count 1000) ≡ true → expr_text e ≡ 97 ∷ xs → Known e p ps raw raws l
    → Lies 0 (tokens_of (record { first = raw; more = raws; span = Some l })) (expr_text e) → Canon e
assembled e p ps raw raws l xs parts down low text k lies =
    let tree : RawExpr = record { first = raw; more = raws; span = Some l } in
    let us = mark (codes ".") ∷ placed raw.calendar_place (calendar_word raw.calendar) ∷ flat_map plus raws ++ span_tokens (Some l) in
    let toks : tokens_of tree ≡ set_tokens raw.place raw.set ++ us = simp append_assoc in
    let split : Lies 0 (set_tokens raw.place raw.set ++ us) (expr_text e) = subst (λ x. Lies 0 x (expr_text e)) toks lies in
    let last : last_calendar p.calendar raws ≡ last_of p.calendar ps = last_same p.calendar raws ∙ ap (last_of p.calendar) k.others in
    let below : (is_same (last_calendar p.calendar raws) e.unit || is_below (last_calendar p.calendar raws) e.unit) ≡ true = ap (λ c. is_same c e.unit || is_below c e.unit) last ∙ goes_to_unit p.calendar ps e.unit down in
    let both = and_parts (nat_le 1 e.count) (nat_le e.count 1000) low in
    let most = leb-true e.count 1000 both.1 in
    let count = k.count in
    let faults : later_faults raw.calendar raws (Some l) ≡ [] = ap (λ c. later_faults c raws (Some l)) k.calendar ∙ k.good ∙ span_good (last_calendar p.calendar raws) l e.count e.unit k.count k.unit low below in
    let list : map part_of (raw ∷ raws) ≡ e.parts = ap (λ x. x ∷ map part_of raws) k.first ∙ ap (λ x. p ∷ x) k.others ∙ sym parts in
    record {
      tree = tree;
      spelled = record {
        lies = lies;
        begins = begins_at raw us (expr_text e) xs raw.set k.set text split;
        short = and_from (list_all (λ p. short_set p.set) (raw ∷ raws)) (is_short l.count) (and_from (short_set raw.set) (list_all (λ p. short_set p.set) raws) (ap short_set k.set) k.short) (le-leb l.count.value 999_999_999 (omega arith));
      };
      good = ap (λ x. first_faults raw.place x ++ later_faults raw.calendar raws (Some l)) k.set ∙ faults;
      means = ap (λ x. with_parts x l.count.value l.unit) list ∙ ap (λ x. with_parts e.parts x l.unit) k.count ∙ ap (λ x. with_parts e.parts e.count x) k.unit;
    }

canon_by : (e : Expr) (p : Part) (ps : List Part) (ts : List Token) → e.parts ≡ p ∷ ps → not (is_some p.set) ≡ true → goes_down p.calendar ps e.unit ≡ true → (nat_le 1 e.count && nat_le e.count 1000) ≡ true
    → Lies 0 ts (part_text p ++ (flat_map later_part ps ++ (codes " > " ++ decimal e.count ++ codes "." ++ calendar_word e.unit))) → PartThen p (PartsThen p.calendar ps (LengthThen e)) ts → Canon e
canon_by e p ps ts parts none down low lies b =
    let w = b.fits in
    let l = w.fits in
    let span = codes " > " ++ decimal e.count ++ codes "." ++ calendar_word e.unit in
    let text : expr_text e ≡ part_text p ++ (flat_map later_part ps ++ span) = ap (λ qs. parts_text qs ++ codes " > " ++ decimal e.count ++ codes "." ++ calendar_word e.unit) parts ∙ (simp append_assoc) in
    let toks : ts ≡ tokens_of (record { first = b.raw; more = w.raws; span = Some l.raw }) = b.tokens ∙ ap (λ x. part_tokens b.raw ++ x) (w.tokens ∙ ap (λ x. flat_map plus w.raws ++ x) l.tokens) ∙ (simp append_assoc) in
    let start = ap (λ x. x ++ codes "." ++ calendar_word p.calendar ++ (flat_map later_part ps ++ span)) (all_text p.set none) in
    assembled e p ps b.raw w.raws l.raw (108 ∷ 108 ∷ codes "." ++ calendar_word p.calendar ++ (flat_map later_part ps ++ span)) parts down low (text ∙ start)
    (record { set = b.all (all_none p.set none); calendar = b.calendar; first = b.means; others = w.means; short = w.short; good = w.good (Some l.raw); count = l.count; unit = l.unit })
    (subst (λ x. Lies 0 x (expr_text e)) toks (subst (λ x. Lies 0 ts x) (sym text) lies))

canon : (e : Expr) (p : Part) (ps : List Part) → e.parts ≡ p ∷ ps → from_all (p ∷ ps) e.unit ≡ true → (nat_le 1 e.count && nat_le e.count 1000) ≡ true → Canon e
canon e p ps parts valid low =
    let both = and_parts (not (is_some p.set)) (goes_down p.calendar ps e.unit) valid in
    let span = codes " > " ++ decimal e.count ++ codes "." ++ calendar_word e.unit in
    let more = flat_map later_part ps ++ span in
    let m = part_lies p (PartsThen p.calendar ps (LengthThen e)) more (all_set p.set both.0) (parts_lie p.calendar ps e.unit (LengthThen e) span both.1 (length_lies e)) 0 in
    canon_by e p ps m.0 parts both.0 both.1 low m.1 m.2

some_parts : (e : Expr) (qs : List Part) → e.parts ≡ qs → from_all qs e.unit ≡ true → (nat_le 1 e.count && nat_le e.count 1000) ≡ true → Canon e
some_parts e [] parts valid low = absurd (false≢true valid)
some_parts e (p ∷ ps) parts valid low = canon e p ps parts valid low

pub canonical : (e : Expr) → is_expr e ≡ true → Canon e
canonical e h =
    let a = and_parts (from_all e.parts e.unit && nat_le 1 e.count) (nat_le e.count 1000) h in
    let b = and_parts (from_all e.parts e.unit) (nat_le 1 e.count) a.0 in
    some_parts e e.parts refl b.0 (and_from (nat_le 1 e.count) (nat_le e.count 1000) b.1 a.1)
