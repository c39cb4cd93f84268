-- What the scan accepts is in the grammar.
use Rattle.std.proofs.Common.{◌≡◌, ℕ, zero, suc, ◌+◌, ◌-◌, ◌*◌, ◌/◌, ◌%◌, ◌<◌, ◌≤◌, Bool, true, false, ◌&&◌, nat_le, nat_eq, List, [], ◌∷◌, ◌++◌, length, take, drop, drop-cons, get_or, flat_map, slice_index, Option, Some, None, refl, ap, sym, subst, ◌∙◌, arith, append_assoc, codes, decimal, if◌then◌else◌}
use Rattle.std.specs.List.{list_all}
use Rattle.std.proofs.lemmas.Bool.{false≢true, and_parts, and_from, eqb-true, eqb-false, leb-true, le-leb}
use Rattle.std.proofs.lemmas.Fmt.{decimal_digit, decimal_step}
use Rattle.gt_base.specs.Names.{is_digit}
use Rattle.gtrbac_model.specs.declared.calendars.Calendar.{Calendar}
use Rattle.gtrbac_model.specs.declared.calendars.Calendar.TheVariants.{Years, Months, Weeks, Days, Hours, Minutes}
use Rattle.periodic_expr.specs.declared.scan.ScanPlace.{ScanPlace}
use Rattle.periodic_expr.specs.declared.scan.ScanPlace.TheVariants.{Start, PartNext, OneLetter, TwoLetters, DotNext, CalendarNext, Letters, PartDone, PartPast, SetFirst, Digits, NumberPast, SetNext, LengthNext, LengthDot, UnitNext, Finished}
use Rattle.periodic_expr.specs.declared.scan.Act.TheVariants.{Nothing, Open, Begin, Index, Length}
use Rattle.periodic_expr.specs.declared.scan.Move.{Move}
use Rattle.periodic_expr.specs.Scan.{is_blank, calendar_word, moved, to, on, part_start, calendar_start, calendar_end, next_letter, other_letters, number_start, after_index, after_number, after_part, set_first, IsSized}
use Rattle.periodic_expr.specs.Grammar.{Number, RawPart, RawLength, RawExpr, Token, mark, placed, number_token, later_numbers, numbers, set_tokens, part_tokens, span_tokens, tokens_of, Lies, is_short, short_set, short_span, InGrammar}
use Rattle.periodic_expr.proofs.Canonical.{Fits, here}
use Rattle.periodic_expr.proofs.Tails.{on_case, blank_case, digit_case, plus, IsRest, IsMore, IsPart, IsName, IsDot, IsPast, IsNext, IsFirst, IsUnit, IsUnitDot, IsLength, InLetters, InDigits, StartsPart, Letter, Follows, Step, HasToken, blank_fits, byte_fits, dot_token}

-- behind the marks and the words

dot_step : (b : ℕ) (bs : List ℕ) → Step DotNext b bs (moved DotNext b)
dot_step b bs =
    blank_case (Step DotNext b bs) b DotNext (on b 46 (to CalendarNext Nothing) None) (λ h. (tt, blank_fits IsDot dot_token b bs h))
    (on_case (Step DotNext b bs) b 46 (to CalendarNext Nothing) None (λ e. (tt, byte_fits IsName IsDot b 46 bs (λ ts p. record { name = ts; tokens = refl; fits = p }) e)) tt)

unit_dot : (b : ℕ) (bs : List ℕ) → b ≡ 46 → Fits IsUnit bs → Fits IsUnitDot (b ∷ bs)
unit_dot b bs e d = byte_fits IsUnit IsUnitDot b 46 bs (λ ts p. record { name = ts; tokens = refl; fits = p }) e d

unit_dot_token : HasToken IsUnitDot
unit_dot_token ts p = (mark (codes "."), p.name, p.tokens)

length_dot_step : (b : ℕ) (bs : List ℕ) → Step LengthDot b bs (moved LengthDot b)
length_dot_step b bs =
    blank_case (Step LengthDot b bs) b LengthDot (on b 46 (to UnitNext Nothing) None) (λ h. (tt, blank_fits IsUnitDot unit_dot_token b bs h))
    (on_case (Step LengthDot b bs) b 46 (to UnitNext Nothing) None (λ e. (tt, unit_dot b bs e)) tt)

-- calendars

whole : (c : Calendar) → take 1 (calendar_word c) ++ drop 1 (calendar_word c) ≡ calendar_word c
whole Years = refl
whole Months = refl
whole Weeks = refl
whole Days = refl
whole Hours = refl
whole Minutes = refl

name_text : (c : Calendar) (After : List ℕ → Type 0) (b : ℕ) (bs : List ℕ) → b ∷ [] ≡ take 1 (calendar_word c) → (i : InLetters c 1 After bs) → b ∷ bs ≡ calendar_word i.calendar ++ i.zs
name_text c After b bs e i =
    let w = calendar_word i.calendar in
    let same : (take 1 w ++ drop 1 w) ++ i.zs ≡ take 1 w ++ (drop 1 w ++ i.zs) = rw append_assoc in
    ap (λ xs. xs ++ bs) (e ∙ sym i.shared) ∙ ap (λ xs. take 1 w ++ xs) i.left ∙ sym same ∙ ap (λ xs. xs ++ i.zs) (whole i.calendar)

name_fits : (c : Calendar) (b : ℕ) (bs : List ℕ) → b ∷ [] ≡ take 1 (calendar_word c) → InLetters c 1 (Fits IsRest) bs → Fits IsName (b ∷ bs)
name_fits c b bs e i at =
    let name = placed (at + length {A = ℕ} []) (calendar_word i.calendar) in
    let r = i.after (at + length {A = ℕ} [] + length (calendar_word i.calendar)) in (
      name ∷ r.0,
      subst (λ x. Lies at (name ∷ r.0) x) (sym (name_text c (Fits IsRest) b bs e i)) (here at name r.0 i.zs refl r.1),
      record { place = at + length {A = ℕ} []; calendar = i.calendar; more = r.0; tokens = refl; rest = r.2 },
    )

unit_fits : (c : Calendar) (b : ℕ) (bs : List ℕ) → b ∷ [] ≡ take 1 (calendar_word c) → InLetters c 1 (λ zs. zs ≡ []) bs → Fits IsUnit (b ∷ bs)
unit_fits c b bs e i at =
    let name = placed (at + length {A = ℕ} []) (calendar_word i.calendar) in (
      name ∷ [],
      subst (λ x. Lies at (name ∷ []) x) (sym (name_text c (λ zs. zs ≡ []) b bs e i)) (here at name [] i.zs refl i.after),
      record { place = at + length {A = ℕ} []; calendar = i.calendar; tokens = refl },
    )

one_byte : (b c : ℕ) → b ≡ c → b ∷ [] ≡ c ∷ []
one_byte b c e = ap (λ x. x ∷ []) e

name_token : HasToken IsName
name_token ts p = (placed p.place (calendar_word p.calendar), p.more, p.tokens)

unit_token : HasToken IsUnit
unit_token ts p = (placed p.place (calendar_word p.calendar), [], p.tokens)

two : {a : ℕ} → 1 < suc (suc a)
two {a} = omega arith

calendar_step : (b : ℕ) (bs : List ℕ) → Step CalendarNext b bs (moved CalendarNext b)
calendar_step b bs =
    let K = Step CalendarNext b bs in
    blank_case K b CalendarNext (calendar_start false b) (λ h. (tt, blank_fits IsName name_token b bs h))
    (on_case K b 89 (to (Letters false Years 1) Begin) (on b 77 (to (Letters false Months 1) Begin) (on b 87 (to (Letters false Weeks 1) Begin) (on b 68 (to (Letters false Days 1) Begin) (on b 72 (to (Letters false Hours 1) Begin) None)))) (λ e. (omega arith, name_fits Years b bs (one_byte b 89 e)))
    (on_case K b 77 (to (Letters false Months 1) Begin) (on b 87 (to (Letters false Weeks 1) Begin) (on b 68 (to (Letters false Days 1) Begin) (on b 72 (to (Letters false Hours 1) Begin) None))) (λ e. (omega arith, name_fits Months b bs (one_byte b 77 e)))
    (on_case K b 87 (to (Letters false Weeks 1) Begin) (on b 68 (to (Letters false Days 1) Begin) (on b 72 (to (Letters false Hours 1) Begin) None)) (λ e. (omega arith, name_fits Weeks b bs (one_byte b 87 e)))
    (on_case K b 68 (to (Letters false Days 1) Begin) (on b 72 (to (Letters false Hours 1) Begin) None) (λ e. (omega arith, name_fits Days b bs (one_byte b 68 e)))
    (on_case K b 72 (to (Letters false Hours 1) Begin) None (λ e. (omega arith, name_fits Hours b bs (one_byte b 72 e))) tt)))))

unit_step : (b : ℕ) (bs : List ℕ) → Step UnitNext b bs (moved UnitNext b)
unit_step b bs =
    let K = Step UnitNext b bs in
    blank_case K b UnitNext (calendar_start true b) (λ h. (tt, blank_fits IsUnit unit_token b bs h))
    (on_case K b 89 (to (Letters true Years 1) Begin) (on b 77 (to (Letters true Months 1) Begin) (on b 87 (to (Letters true Weeks 1) Begin) (on b 68 (to (Letters true Days 1) Begin) (on b 72 (to (Letters true Hours 1) Begin) None)))) (λ e. (omega arith, unit_fits Years b bs (one_byte b 89 e)))
    (on_case K b 77 (to (Letters true Months 1) Begin) (on b 87 (to (Letters true Weeks 1) Begin) (on b 68 (to (Letters true Days 1) Begin) (on b 72 (to (Letters true Hours 1) Begin) None))) (λ e. (omega arith, unit_fits Months b bs (one_byte b 77 e)))
    (on_case K b 87 (to (Letters true Weeks 1) Begin) (on b 68 (to (Letters true Days 1) Begin) (on b 72 (to (Letters true Hours 1) Begin) None)) (λ e. (omega arith, unit_fits Weeks b bs (one_byte b 87 e)))
    (on_case K b 68 (to (Letters true Days 1) Begin) (on b 72 (to (Letters true Hours 1) Begin) None) (λ e. (omega arith, unit_fits Days b bs (one_byte b 68 e)))
    (on_case K b 72 (to (Letters true Hours 1) Begin) None (λ e. (omega arith, unit_fits Hours b bs (one_byte b 72 e))) tt)))))

-- numbers

record DigitOf (b : ℕ) : Type 0 where
  low : 48 ≤ b
  high : b ≤ 57

digit_of : (b : ℕ) → is_digit b ≡ true → DigitOf b
digit_of b h = let both = and_parts (nat_le 48 b) (nat_le b 57) h in record { low = leb-true 48 b both.0; high = leb-true b 57 both.1 }

number_text : (b : ℕ) (bs : List ℕ) (P : List Token → Type 0) → is_digit b ≡ true → (i : InDigits (b - 48) P bs) → b ∷ bs ≡ decimal i.value ++ i.zs
number_text b bs P h i =
    let d = digit_of b h in
    let low = d.low in
    let high = d.high in
    let same : 48 + (b - 48) ≡ b = omega arith in
    let text : decimal i.value ≡ b ∷ i.ds = i.text ∙ ap (λ x. x ++ i.ds) (decimal_digit (b - 48) (omega arith) ∙ one_byte (48 + (b - 48)) b same) in
    ap (λ x. b ∷ x) i.left ∙ sym (ap (λ x. x ++ i.zs) text)

number_fits : (b : ℕ) (bs : List ℕ) (P Q : List Token → Type 0) → ((n : Number) (ts : List Token) → is_short n ≡ true → P ts → Q (number_token n ∷ ts)) → is_digit b ≡ true → InDigits (b - 48) P bs → Fits Q (b ∷ bs)
number_fits b bs P Q make h i at =
    let num : Number = record { place = at + length {A = ℕ} []; value = i.value } in
    let r = i.after (at + length {A = ℕ} [] + length (decimal i.value)) in
    (number_token num ∷ r.0, subst (λ x. Lies at (number_token num ∷ r.0) x) (sym (number_text b bs P h i)) (here at (number_token num) r.0 i.zs refl r.1), make num r.0 (le-leb i.value 999_999_999 i.small) r.2)

first_digit : (b : ℕ) → is_digit b ≡ true → b - 48 ≤ 999_999_999
first_digit b h = let high = (digit_of b h).high in omega arith

next_number : (n : Number) (ts : List Token) → is_short n ≡ true → IsPast ts → IsNext (number_token n ∷ ts)
next_number n ts h p = record { num = n; past = ts; tokens = refl; short = h; rest = p }

first_number : (n : Number) (ts : List Token) → is_short n ≡ true → IsPast ts → IsFirst (number_token n ∷ ts)
first_number n ts h p = record { nums = n ∷ p.nums; more = p.more; tokens = ap (λ x. number_token n ∷ x) p.tokens; short = and_from (is_short n) (list_all is_short p.nums) h p.short; rest = p.rest }

length_number : (n : Number) (ts : List Token) → is_short n ≡ true → IsUnitDot ts → IsLength (number_token n ∷ ts)
length_number n ts h p = record { num = n; dot = ts; tokens = refl; short = h; fits = p }

next_token : HasToken IsNext
next_token ts p = (number_token p.num, p.past, p.tokens)

length_token : HasToken IsLength
length_token ts p = (number_token p.num, p.dot, p.tokens)

first_token : HasToken IsFirst
first_token ts p = by_nums ts p.nums p.more p.tokens
  where
    by_nums : (ts : List Token) (ns : List Number) (more : List Token) → ts ≡ numbers ns ++ mark (codes "}") ∷ more → (token : Token) × (us : List Token) × (ts ≡ token ∷ us)
    by_nums ts [] more e = (mark (codes "}"), more, e)
    by_nums ts (n ∷ ns) more e = (number_token n, later_numbers ns ++ mark (codes "}") ∷ more, e)

past_token : HasToken IsPast
past_token ts p = by_nums ts p.nums p.more p.tokens
  where
    by_nums : (ts : List Token) (ns : List Number) (more : List Token) → ts ≡ later_numbers ns ++ mark (codes "}") ∷ more → (token : Token) × (us : List Token) × (ts ≡ token ∷ us)
    by_nums ts [] more e = (mark (codes "}"), more, e)
    by_nums ts (n ∷ ns) more e = (mark (codes ","), number_token n ∷ (later_numbers ns ++ mark (codes "}") ∷ more), e)

set_step : (b : ℕ) (bs : List ℕ) → Step SetNext b bs (moved SetNext b)
set_step b bs =
    blank_case (Step SetNext b bs) b SetNext (number_start false b) (λ h. (tt, blank_fits IsNext next_token b bs h))
    (digit_case (Step SetNext b bs) b (to (Digits false (b - 48)) Begin) None (λ h. (first_digit b h, number_fits b bs IsPast IsNext next_number h)) tt)

length_step : (b : ℕ) (bs : List ℕ) → Step LengthNext b bs (moved LengthNext b)
length_step b bs =
    blank_case (Step LengthNext b bs) b LengthNext (number_start true b) (λ h. (tt, blank_fits IsLength length_token b bs h))
    (digit_case (Step LengthNext b bs) b (to (Digits true (b - 48)) Begin) None (λ h. (first_digit b h, number_fits b bs IsUnitDot IsLength length_number h)) tt)

first_step : (b : ℕ) (bs : List ℕ) → Step SetFirst b bs (moved SetFirst b)
first_step b bs =
    let K = Step SetFirst b bs in
    blank_case K b SetFirst (set_first b) (λ h. (tt, blank_fits IsFirst first_token b bs h))
    (on_case K b 125 (to DotNext Nothing) (number_start false b) (λ e. (tt, byte_fits IsDot IsFirst b 125 bs (λ ts p. record { nums = []; more = ts; tokens = refl; short = refl; rest = p }) e))
    (digit_case K b (to (Digits false (b - 48)) Begin) None (λ h. (first_digit b h, number_fits b bs IsPast IsFirst first_number h)) tt))

comma_fits : (b : ℕ) (bs : List ℕ) → b ≡ 44 → Fits IsNext bs → Fits IsPast (b ∷ bs)
comma_fits b bs e d =
    byte_fits IsNext IsPast b 44 bs (λ ts p. record {
      nums = p.num ∷ p.rest.nums;
      more = p.rest.more;
      tokens = ap (λ x. mark (codes ",") ∷ x) (p.tokens ∙ ap (λ x. number_token p.num ∷ x) p.rest.tokens);
      short = and_from (is_short p.num) (list_all is_short p.rest.nums) p.short p.rest.short;
      rest = p.rest.rest;
    }) e d

close_fits : (b : ℕ) (bs : List ℕ) → b ≡ 125 → Fits IsDot bs → Fits IsPast (b ∷ bs)
close_fits b bs e d = byte_fits IsDot IsPast b 125 bs (λ ts p. record { nums = []; more = ts; tokens = refl; short = refl; rest = p }) e d

past_step : (b : ℕ) (bs : List ℕ) → Step NumberPast b bs (moved NumberPast b)
past_step b bs =
    let K = Step NumberPast b bs in
    blank_case K b NumberPast (after_index Nothing b) (λ h. (tt, blank_fits IsPast past_token b bs h))
    (on_case K b 44 (to SetNext Nothing) (on b 125 (to DotNext Nothing) None) (λ e. (tt, comma_fits b bs e)) (on_case K b 125 (to DotNext Nothing) None (λ e. (tt, close_fits b bs e)) tt))

-- within a number

append_nil : (xs : List ℕ) → xs ++ [] ≡ xs
append_nil [] = refl
append_nil (x ∷ xs) = ap (λ ys. x ∷ ys) (append_nil xs)

ended_number : (v : ℕ) (P : List Token → Type 0) (ys : List ℕ) → v ≤ 999_999_999 → Fits P ys → InDigits v P ys
ended_number v P ys small f = record { value = v; ds = []; zs = ys; text = sym (append_nil (decimal v)); small = small; left = refl; after = f }

more_digits : (v b : ℕ) (P : List Token → Type 0) (bs : List ℕ) → is_digit b ≡ true → 1 ≤ v → v ≤ 99_999_999 → InDigits (10 * v + (b - 48)) P bs → InDigits v P (b ∷ bs)
more_digits v b P bs h low high i =
    let d = digit_of b h in
    let d_low = d.low in
    let d_high = d.high in
    let n = 10 * v + (b - 48) in
    let front : n / 10 ≡ v = omega arith in
    let last : 48 + n % 10 ≡ b = omega arith in
    let step : decimal n ≡ decimal v ++ b ∷ [] = decimal_step n (omega arith) (omega arith) ∙ ap (λ x. decimal x ++ (48 + n % 10) ∷ []) front ∙ ap (λ x. decimal v ++ x ∷ []) last in
    let same : (decimal v ++ b ∷ []) ++ i.ds ≡ decimal v ++ b ∷ i.ds = rw append_assoc in
    record { value = i.value; ds = b ∷ i.ds; zs = i.zs; text = i.text ∙ ap (λ x. x ++ i.ds) step ∙ same; small = i.small; left = ap (λ x. b ∷ x) i.left; after = i.after }

bool_case : (K : Option Move → Type 0) (t : Bool) (x y : Option Move) → (t ≡ true → K x) → K y → K (if t then x else y)
bool_case K true x y f g = f refl
bool_case K false x y f g = g

index_digits : (v b : ℕ) (bs : List ℕ) → v ≤ 999_999_999 → Step (Digits false v) b bs (moved (Digits false v) b)
index_digits v b bs small =
    let K = Step (Digits false v) b bs in
    digit_case K b (if nat_le 1 v && nat_le v 99_999_999 then to (Digits false (10 * v + (b - 48))) Nothing else None) (after_number false v b)
    (λ h. bool_case K (nat_le 1 v && nat_le v 99_999_999) (to (Digits false (10 * v + (b - 48))) Nothing) None
    (λ t. (let both = and_parts (nat_le 1 v) (nat_le v 99_999_999) t in
    let low = leb-true 1 v both.0 in
    let high = leb-true v 99_999_999 both.1 in
    let d_high = (digit_of b h).high in
    (omega arith, more_digits v b IsPast bs h low high))) tt)
    (bool_case K (is_blank b) (to NumberPast (Index v)) (after_index (Index v) b) (λ h. (tt, λ f. ended_number v IsPast (b ∷ bs) small (blank_fits IsPast past_token b bs h f)))
    (on_case K b 44 (to SetNext (Index v)) (on b 125 (to DotNext (Index v)) None) (λ e. (tt, λ f. ended_number v IsPast (b ∷ bs) small (comma_fits b bs e f)))
    (on_case K b 125 (to DotNext (Index v)) None (λ e. (tt, λ f. ended_number v IsPast (b ∷ bs) small (close_fits b bs e f))) tt)))

length_digits : (v b : ℕ) (bs : List ℕ) → v ≤ 999_999_999 → Step (Digits true v) b bs (moved (Digits true v) b)
length_digits v b bs small =
    let K = Step (Digits true v) b bs in
    digit_case K b (if nat_le 1 v && nat_le v 99_999_999 then to (Digits true (10 * v + (b - 48))) Nothing else None) (after_number true v b)
    (λ h. bool_case K (nat_le 1 v && nat_le v 99_999_999) (to (Digits true (10 * v + (b - 48))) Nothing) None
    (λ t. (let both = and_parts (nat_le 1 v) (nat_le v 99_999_999) t in
    let low = leb-true 1 v both.0 in
    let high = leb-true v 99_999_999 both.1 in
    let d_high = (digit_of b h).high in
    (omega arith, more_digits v b IsUnitDot bs h low high))) tt)
    (bool_case K (is_blank b) (to LengthDot (Length v)) (on b 46 (to UnitNext (Length v)) None) (λ h. (tt, λ f. ended_number v IsUnitDot (b ∷ bs) small (blank_fits IsUnitDot unit_dot_token b bs h f)))
    (on_case K b 46 (to UnitNext (Length v)) None (λ e. (tt, λ f. ended_number v IsUnitDot (b ∷ bs) small (unit_dot b bs e f))) tt))

-- within a calendar

record Shared (k : ℕ) (xs ys : List ℕ) : Type 0 where
  within : k < length xs
  byte : get_or xs k 0 ≡ get_or ys k 0
  front : take k xs ≡ take k ys

shared_front : (k : ℕ) (xs ys : List ℕ) → take (suc k) xs ≡ take (suc k) ys → k < length ys → Shared k xs ys
shared_front k xs [] e h = absurd (omega arith)
shared_front zero [] (y ∷ ys) e h = absurd (empty_cons e)
  where
    empty_cons : take {A = ℕ} 1 [] ≡ y ∷ take 0 ys → ⊥
    empty_cons q = cc
shared_front zero (x ∷ xs) (y ∷ ys) e h = let same : x ≡ y = cc e in record { within = omega arith; byte = same; front = refl }
shared_front (suc k) [] (y ∷ ys) e h = absurd (empty_cons e)
  where
    empty_cons : take {A = ℕ} (suc (suc k)) [] ≡ y ∷ take (suc k) ys → ⊥
    empty_cons q = cc
shared_front (suc k) (x ∷ xs) (y ∷ ys) e h =
    let head : x ≡ y = cc e in
    let tail : take (suc k) xs ≡ take (suc k) ys = cc e in
    let r = shared_front k xs ys tail (omega arith) in
    let w = r.within in
    record { within = omega arith; byte = r.byte; front = ap (λ z. z ∷ take k xs) head ∙ ap (λ zs. y ∷ zs) r.front }

dropped : (xs : List ℕ) (k : ℕ) → k < length xs → drop k xs ≡ get_or xs k 0 ∷ drop (suc k) xs
dropped xs k h = drop-cons xs k 0 h

-- one letter more
more_letters : (c : Calendar) (k b : ℕ) (After : List ℕ → Type 0) (bs : List ℕ) → k < length (calendar_word c) → b ≡ get_or (calendar_word c) k 0 → InLetters c (k + 1) After bs → InLetters c k After (b ∷ bs)
more_letters c k b After bs h e i =
    let w = calendar_word i.calendar in
    let one : k + 1 ≡ suc k = omega arith in
    let r = shared_front k w (calendar_word c) (subst (λ (n : ℕ). take n w ≡ take n (calendar_word c)) one i.shared) h in
    let text : drop k w ≡ b ∷ drop (suc k) w = dropped w k r.within ∙ ap (λ x. x ∷ drop (suc k) w) (r.byte ∙ sym e) in
    record {
      calendar = i.calendar;
      zs = i.zs;
      left = ap (λ x. b ∷ x) (i.left ∙ ap (λ n. drop n w ++ i.zs) one) ∙ sym (ap (λ x. x ++ i.zs) text);
      shared = r.front;
      after = i.after;
    }

drop-all : (k : ℕ) (xs : List ℕ) → length xs ≤ k → drop k xs ≡ []
drop-all k [] h = drop_nil k
  where
    drop_nil : (k : ℕ) → drop {A = ℕ} k [] ≡ []
    drop_nil zero = refl
    drop_nil (suc k) = refl
drop-all zero (x ∷ xs) h = absurd (omega arith)
drop-all (suc k) (x ∷ xs) h = drop-all k xs (omega arith)

-- the last letter
last_letter : (c : Calendar) (k b : ℕ) (After : List ℕ → Type 0) (bs : List ℕ) → k + 1 ≡ length (calendar_word c) → b ≡ get_or (calendar_word c) k 0 → After bs → InLetters c k After (b ∷ bs)
last_letter c k b After bs ends e a =
    let w = calendar_word c in
    let none : drop (suc k) w ≡ [] = drop-all (suc k) w (omega arith) in
    let text : drop k w ≡ b ∷ [] = dropped w k (omega arith) ∙ ap (λ x. get_or w k 0 ∷ x) none ∙ ap (λ x. x ∷ []) (sym e) in
    record { calendar = c; zs = bs; left = sym (ap (λ x. x ++ bs) text); shared = refl; after = a }

mi_letters : (k b : ℕ) (After : List ℕ → Type 0) (bs : List ℕ) → k ≡ 1 → b ≡ 105 → InLetters Minutes 2 After bs → InLetters Months k After (b ∷ bs)
mi_letters k b After bs one e i =
    let r = more_letters Minutes 1 b After bs (omega arith) e i in
    subst (λ (n : ℕ). InLetters Months n After (b ∷ bs)) (sym one) (record { calendar = r.calendar; zs = r.zs; left = r.left; shared = r.shared; after = r.after })

letters_false : (c : Calendar) (k b : ℕ) (bs : List ℕ) → k < length (calendar_word c) → Step (Letters false c k) b bs (moved (Letters false c k) b)
letters_false c k b bs h =
    let K = Step (Letters false c k) b bs in
    on_case K b (slice_index (calendar_word c) k) (next_letter false c k) (other_letters false c k b)
    (λ e. next_letters e (nat_eq (k + 1) (length (calendar_word c))) refl) (other c)
  where
    next_letters : b ≡ slice_index (calendar_word c) k → (t : Bool) → nat_eq (k + 1) (length (calendar_word c)) ≡ t → Step (Letters false c k) b bs (if t then calendar_end false c else to (Letters false c (k + 1)) Nothing)
    next_letters e true ends = (tt, last_letter c k b (Fits IsRest) bs (eqb-true (k + 1) (length (calendar_word c)) ends) e)
    next_letters e false ends = let ne = eqb-false (k + 1) (length (calendar_word c)) ends in (omega arith, more_letters c k b (Fits IsRest) bs h e)

    minutes : (t : Bool) → (nat_eq k 1 && nat_eq b 105) ≡ t → Step (Letters false Months k) b bs (if t then to (Letters false Minutes 2) Nothing else None)
    minutes true e =
        let both = and_parts (nat_eq k 1) (nat_eq b 105) e in
        (omega arith, mi_letters k b (Fits IsRest) bs (eqb-true k 1 both.0) (eqb-true b 105 both.1))
    minutes false e = tt

    other : (d : Calendar) → Step (Letters false d k) b bs (other_letters false d k b)
    other Years = tt
    other Months = minutes (nat_eq k 1 && nat_eq b 105) refl
    other Weeks = tt
    other Days = tt
    other Hours = tt
    other Minutes = tt

letters_true : (c : Calendar) (k b : ℕ) (bs : List ℕ) → k < length (calendar_word c) → Step (Letters true c k) b bs (moved (Letters true c k) b)
letters_true c k b bs h =
    let K = Step (Letters true c k) b bs in
    on_case K b (slice_index (calendar_word c) k) (next_letter true c k) (other_letters true c k b)
    (λ e. next_letters e (nat_eq (k + 1) (length (calendar_word c))) refl) (other c)
  where
    next_letters : b ≡ slice_index (calendar_word c) k → (t : Bool) → nat_eq (k + 1) (length (calendar_word c)) ≡ t → Step (Letters true c k) b bs (if t then calendar_end true c else to (Letters true c (k + 1)) Nothing)
    next_letters e true ends = (tt, last_letter c k b (λ zs. zs ≡ []) bs (eqb-true (k + 1) (length (calendar_word c)) ends) e)
    next_letters e false ends = let ne = eqb-false (k + 1) (length (calendar_word c)) ends in (omega arith, more_letters c k b (λ zs. zs ≡ []) bs h e)

    minutes : (t : Bool) → (nat_eq k 1 && nat_eq b 105) ≡ t → Step (Letters true Months k) b bs (if t then to (Letters true Minutes 2) Nothing else None)
    minutes true e =
        let both = and_parts (nat_eq k 1) (nat_eq b 105) e in
        (omega arith, mi_letters k b (λ zs. zs ≡ []) bs (eqb-true k 1 both.0) (eqb-true b 105 both.1))
    minutes false e = tt

    other : (d : Calendar) → Step (Letters true d k) b bs (other_letters true d k b)
    other Years = tt
    other Months = minutes (nat_eq k 1 && nat_eq b 105) refl
    other Weeks = tt
    other Days = tt
    other Hours = tt
    other Minutes = tt

-- parts

all_starts : (b : ℕ) (bs : List ℕ) → b ≡ 97 → Letter 2 IsDot bs → StartsPart (b ∷ bs)
all_starts b bs e l at =
    let place = at + length {A = ℕ} [] in
    let r = l.after (place + length (codes "all")) in
    let d = r.2 in
    let n = d.fits in
    let raw : RawPart = record { place = place; set = None; calendar_place = n.place; calendar = n.calendar } in
    let text : b ∷ bs ≡ codes "all" ++ l.zs = ap (λ x. x ∷ bs) e ∙ ap (λ x. 97 ∷ x) l.left in
    let name = ap (λ x. mark (codes ".") ∷ x) n.tokens in (
      placed place (codes "all") ∷ r.0,
      subst (λ x. Lies at (placed place (codes "all") ∷ r.0) x) (sym text) (here at (placed place (codes "all")) r.0 l.zs refl r.1),
      (record { raw = raw; more = n.more; tokens = ap (λ x. placed place (codes "all") ∷ x) (d.tokens ∙ name); short = refl; rest = n.rest }, refl),
    )

brace_starts : (b : ℕ) (bs : List ℕ) → b ≡ 123 → Fits IsFirst bs → StartsPart (b ∷ bs)
brace_starts b bs e f at =
    let place = at + length {A = ℕ} [] in
    let r = f (place + length (codes "{")) in
    let q = r.2 in
    let d = q.rest in
    let n = d.fits in
    let raw : RawPart = record { place = place; set = Some q.nums; calendar_place = n.place; calendar = n.calendar } in
    let name = d.tokens ∙ ap (λ x. mark (codes ".") ∷ x) n.tokens in
    let us = mark (codes ".") ∷ placed n.place (calendar_word n.calendar) ∷ n.more in
    let same : numbers q.nums ++ mark (codes "}") ∷ us ≡ (numbers q.nums ++ mark (codes "}") ∷ []) ++ us = simp append_assoc in (
      placed place (codes "{") ∷ r.0,
      subst (λ (x : ℕ). Lies at (placed place (codes "{") ∷ r.0) (x ∷ bs)) (sym e) (here at (placed place (codes "{")) r.0 bs refl r.1),
      (record { raw = raw; more = n.more; tokens = ap (λ x. placed place (codes "{") ∷ x) (q.tokens ∙ ap (λ x. numbers q.nums ++ mark (codes "}") ∷ x) name ∙ same); short = q.short; rest = n.rest }, refl),
    )

part_of_start : (ys : List ℕ) → StartsPart ys → Fits IsPart ys
part_of_start ys f at = let r = f at in (r.0, r.1, r.2.0)

start_step : (b : ℕ) (bs : List ℕ) → Step Start b bs (moved Start b)
start_step b bs =
    let K = Step Start b bs in
    on_case K b 97 (to OneLetter Nothing) (on b 123 (to SetFirst Open) None) (λ e. (tt, all_starts b bs e)) (on_case K b 123 (to SetFirst Open) None (λ e. (tt, brace_starts b bs e)) tt)

part_token : HasToken IsPart
part_token ts p = by_set ts p.raw.place p.raw.set (mark (codes ".") ∷ placed p.raw.calendar_place (calendar_word p.raw.calendar) ∷ p.more) p.tokens
  where
    by_set : (ts : List Token) (place : ℕ) (set : Option (List Number)) (us : List Token) → ts ≡ set_tokens place set ++ us → (token : Token) × (vs : List Token) × (ts ≡ token ∷ vs)
    by_set ts place None us e = (placed place (codes "all"), us, e)
    by_set ts place (Some ns) us e = (placed place (codes "{"), (numbers ns ++ mark (codes "}") ∷ []) ++ us, e)

part_step : (b : ℕ) (bs : List ℕ) → Step PartNext b bs (moved PartNext b)
part_step b bs =
    let K = Step PartNext b bs in
    blank_case K b PartNext (part_start b) (λ h. (tt, blank_fits IsPart part_token b bs h))
    (on_case K b 97 (to OneLetter Nothing) (on b 123 (to SetFirst Open) None) (λ e. (tt, λ l. part_of_start (b ∷ bs) (all_starts b bs e l)))
    (on_case K b 123 (to SetFirst Open) None (λ e. (tt, λ f. part_of_start (b ∷ bs) (brace_starts b bs e f))) tt))

letter_step : (b : ℕ) (bs : List ℕ) → Step OneLetter b bs (moved OneLetter b)
letter_step b bs =
    on_case (Step OneLetter b bs) b 108 (to TwoLetters Nothing) None (λ e. (tt, λ l. record { zs = l.zs; left = ap (λ x. x ∷ bs) e ∙ ap (λ x. 108 ∷ x) l.left; after = l.after })) tt

letters_step : (b : ℕ) (bs : List ℕ) → Step TwoLetters b bs (moved TwoLetters b)
letters_step b bs =
    on_case (Step TwoLetters b bs) b 108 (to DotNext Nothing) None (λ e. (tt, λ f. record { zs = bs; left = ap (λ x. x ∷ bs) e; after = f })) tt

-- behind a part

plus_more : (ts : List Token) → IsPart ts → IsMore (mark (codes "+") ∷ ts)
plus_more ts p =
    let r = p.rest in
    let raw = p.raw in
    let us = flat_map plus r.raws ++ span_tokens r.span in
    let dots = mark (codes ".") ∷ placed raw.calendar_place (calendar_word raw.calendar) ∷ [] in
    let same : set_tokens raw.place raw.set ++ mark (codes ".") ∷ placed raw.calendar_place (calendar_word raw.calendar) ∷ us ≡ (part_tokens raw ++ flat_map plus r.raws) ++ span_tokens r.span = simp append_assoc in
    let named = ap (λ x. set_tokens raw.place raw.set ++ mark (codes ".") ∷ placed raw.calendar_place (calendar_word raw.calendar) ∷ x) r.tokens in
    record {
      rest = record { raws = raw ∷ r.raws; span = r.span; tokens = ap (λ x. mark (codes "+") ∷ x) (p.tokens ∙ named ∙ same); short = and_from (short_set raw.set) (list_all (λ p. short_set p.set) r.raws) p.short r.short; last = r.last };
      token = mark (codes "+");
      others = ts;
      split = refl;
    }

length_more : (ts : List Token) → IsLength ts → IsMore (mark (codes ">") ∷ ts)
length_more ts p =
    let u = p.fits in
    let n = u.fits in
    let l : RawLength = record { count = p.num; unit_place = n.place; unit = n.calendar } in
    let toks = p.tokens ∙ ap (λ x. number_token p.num ∷ x) (u.tokens ∙ ap (λ x. mark (codes ".") ∷ x) n.tokens) in
    record {
      rest = record { raws = []; span = Some l; tokens = ap (λ x. mark (codes ">") ∷ x) toks; short = refl; last = p.short };
      token = mark (codes ">");
      others = ts;
      split = refl;
    }

more_token : HasToken IsMore
more_token ts p = (p.token, p.others, p.split)

past_part : (b : ℕ) (bs : List ℕ) → Step PartPast b bs (moved PartPast b)
past_part b bs =
    let K = Step PartPast b bs in
    blank_case K b PartPast (after_part b) (λ h. (tt, blank_fits IsMore more_token b bs h))
    (on_case K b 43 (to PartNext Nothing) (on b 62 (to LengthNext Nothing) None) (λ e. (tt, byte_fits IsPart IsMore b 43 bs plus_more e)) (on_case K b 62 (to LengthNext Nothing) None (λ e. (tt, byte_fits IsLength IsMore b 62 bs length_more e)) tt))

rest_of : (ys : List ℕ) → Fits IsMore ys → Fits IsRest ys
rest_of ys f at = let r = f at in (r.0, r.1, r.2.rest)

done_part : (b : ℕ) (bs : List ℕ) → Step PartDone b bs (moved PartDone b)
done_part b bs =
    let K = Step PartDone b bs in
    blank_case K b PartPast (after_part b) (λ h. (tt, λ f. rest_of (b ∷ bs) (blank_fits IsMore more_token b bs h f)))
    (on_case K b 43 (to PartNext Nothing) (on b 62 (to LengthNext Nothing) None) (λ e. (tt, λ f. rest_of (b ∷ bs) (byte_fits IsPart IsMore b 43 bs plus_more e f)))
    (on_case K b 62 (to LengthNext Nothing) None (λ e. (tt, λ f. rest_of (b ∷ bs) (byte_fits IsLength IsMore b 62 bs length_more e f))) tt))

every_step : (place : ScanPlace) (b : ℕ) (bs : List ℕ) → IsSized place → Step place b bs (moved place b)
every_step Start b bs h = start_step b bs
every_step PartNext b bs h = part_step b bs
every_step OneLetter b bs h = letter_step b bs
every_step TwoLetters b bs h = letters_step b bs
every_step DotNext b bs h = dot_step b bs
every_step CalendarNext b bs h = calendar_step b bs
every_step (Letters true c k) b bs h = letters_true c k b bs h
every_step (Letters false c k) b bs h = letters_false c k b bs h
every_step PartDone b bs h = done_part b bs
every_step PartPast b bs h = past_part b bs
every_step SetFirst b bs h = first_step b bs
every_step (Digits true v) b bs h = length_digits v b bs h
every_step (Digits false v) b bs h = index_digits v b bs h
every_step NumberPast b bs h = past_step b bs
every_step SetNext b bs h = set_step b bs
every_step LengthNext b bs h = length_step b bs
every_step LengthDot b bs h = length_dot_step b bs
every_step UnitNext b bs h = unit_step b bs
every_step Finished b bs h = tt

sized_by : (place : ScanPlace) (b : ℕ) (bs : List ℕ) (o : Option Move) (m : Move) → Step place b bs o → o ≡ Some m → IsSized m.place
sized_by place b bs None m s e = absurd (none_some e)
  where
    none_some : None ≡ Some m → ⊥
    none_some q = cc
sized_by place b bs (Some n) m s e = let same : n ≡ m = cc e in subst (λ (x : Move). IsSized x.place) same s.0

pub next_sized : (place : ScanPlace) (b : ℕ) (m : Move) → IsSized place → moved place b ≡ Some m → IsSized m.place
next_sized place b m h e = sized_by place b [] (moved place b) m (every_step place b [] h) e

-- whether the text ends in the grammar
abbrev pub is_end : ScanPlace → Bool
is_end PartDone = true
is_end Finished = true
is_end _ = false

abbrev pub accepts : ScanPlace → List ℕ → Bool
accepts place [] = is_end place
accepts place (b ∷ bs) = elim (moved place b) [ None ↦ false | Some m ↦ accepts m.place bs ]

at_end : (place : ScanPlace) → is_end place ≡ true → Follows place []
at_end PartDone h = λ at. ([], refl, record { raws = []; span = None; tokens = refl; short = refl; last = refl })
at_end Finished h = refl
at_end _ h = absurd (false≢true h)

by_move : (place : ScanPlace) (b : ℕ) (bs : List ℕ) (o : Option Move) → Step place b bs o → ((m : ScanPlace) → IsSized m → accepts m bs ≡ true → Follows m bs) → elim o [ None ↦ false | Some m ↦ accepts m.place bs ] ≡ true → Follows place (b ∷ bs)
by_move place b bs None s go e = absurd (false≢true e)
by_move place b bs (Some m) s go e = s.1 (go m.place s.0 e)

follows : (ys : List ℕ) (place : ScanPlace) → IsSized place → accepts place ys ≡ true → Follows place ys
follows [] place h a = at_end place a
follows (b ∷ bs) place h a = by_move place b bs (moved place b) (every_step place b bs h) (follows bs) a

pub accepted_in_grammar : (text : List ℕ) → accepts Start text ≡ true → InGrammar text
accepted_in_grammar text a =
    let r = follows text Start tt a 0 in
    let p = r.2.0 in
    let q = p.rest in
    let raw = p.raw in
    let e : RawExpr = record { first = raw; more = q.raws; span = q.span } in
    let us = flat_map plus q.raws ++ span_tokens q.span in
    let same : set_tokens raw.place raw.set ++ mark (codes ".") ∷ placed raw.calendar_place (calendar_word raw.calendar) ∷ us ≡ tokens_of e = simp append_assoc in
    let toks : r.0 ≡ tokens_of e = p.tokens ∙ ap (λ x. set_tokens raw.place raw.set ++ mark (codes ".") ∷ placed raw.calendar_place (calendar_word raw.calendar) ∷ x) q.tokens ∙ same in (
      e,
      record {
        lies = subst (λ x. Lies 0 x text) toks r.1;
        begins = r.2.1 ∙ nothing;
        short = and_from (list_all (λ p. short_set p.set) (raw ∷ q.raws)) (short_span q.span) (and_from (short_set raw.set) (list_all (λ p. short_set p.set) q.raws) p.short q.short) q.last;
      },
    )
  where
    nothing : 0 + 0 ≡ 0
    nothing = omega arith
