-- How the scan takes whole tokens.
use Rattle.std.proofs.Common.{◌≡◌, ℕ, zero, suc, ◌+◌, ◌*◌, ◌/◌, ◌%◌, ◌<◌, ◌≤◌, Bool, true, false, ◌&&◌, nat_le, List, [], ◌∷◌, ◌++◌, length, Option, None, refl, ap, ◌∙◌, arith, append_assoc, length-append, decimal, if◌then◌else◌}
use Rattle.std.specs.List.{list_all}
use Rattle.std.proofs.lemmas.Bool.{and_parts, and_from, le-leb}
use Rattle.std.proofs.lemmas.Fmt.{decimal_by_steps}
use Rattle.gtrbac_model.specs.declared.calendars.Calendar.{Calendar}
use Rattle.gtrbac_model.specs.declared.calendars.Calendar.TheVariants.{Years, Months, Weeks, Days, Hours, Minutes}
use Rattle.periodic_expr.specs.declared.scan.ScanPlace.{ScanPlace}
use Rattle.periodic_expr.specs.declared.scan.ScanPlace.TheVariants.{PartDone, CalendarNext, SetFirst, SetNext, Digits, LengthNext, UnitNext, Finished}
use Rattle.periodic_expr.specs.declared.scan.Act.TheVariants.{Nothing, Begin, Part as PartEnds, Unit as UnitEnds}
use Rattle.periodic_expr.specs.declared.scan.Move.{Move}
use Rattle.periodic_expr.specs.Scan.{is_blank, calendar_word, moved, to}
use Rattle.periodic_expr.specs.Sketch.{Sketch, acted}
use Rattle.periodic_expr.specs.Reading.{read_from}
use Rattle.periodic_expr.proofs.Steps.{read_step}

-- blanks leave the scan where it stands between two tokens
abbrev pub Stays : ScanPlace → Type 0
Stays place = (b : ℕ) → is_blank b ≡ true → moved place b ≡ to place Nothing

pub skip : (place : ScanPlace) → Stays place → (gap : List ℕ) (at : ℕ) (s : Sketch) (rest : List ℕ) → list_all is_blank gap ≡ true → read_from at place s (gap ++ rest) ≡ read_from (at + length gap) place s rest
skip place stays [] at s rest h = let e : at ≡ at + 0 = omega arith in ap (λ n. read_from n place s rest) e
skip place stays (b ∷ bs) at s rest h =
    let both = and_parts (is_blank b) (list_all is_blank bs) h in
    let e : at + 1 + length bs ≡ at + suc (length bs) = omega arith in
    read_step at place s b (bs ++ rest) (to place Nothing) (stays b both.0) ∙ skip place stays bs (at + 1) s rest both.1 ∙ ap (λ n. read_from n place s rest) e

-- calendars
five : (at : ℕ) → at + 1 + 1 + 1 + 1 + 1 ≡ at + 5
five at = omega arith

four : (at : ℕ) → at + 1 + 1 + 1 + 1 ≡ at + 4
four at = omega arith

six : (at : ℕ) → at + 1 + 1 + 1 + 1 + 1 + 1 ≡ at + 6
six at = omega arith

seven : (at : ℕ) → at + 1 + 1 + 1 + 1 + 1 + 1 + 1 ≡ at + 7
seven at = omega arith

abbrev pub part_ended : Calendar → ℕ → Sketch → Sketch
part_ended c at s = acted (PartEnds c) 0 (acted Begin at s)

abbrev pub unit_ended : Calendar → ℕ → Sketch → Sketch
unit_ended c at s = acted (UnitEnds c) 0 (acted Begin at s)

pub part_calendar : (c : Calendar) (at : ℕ) (s : Sketch) (rest : List ℕ) → read_from at CalendarNext s (calendar_word c ++ rest) ≡ read_from (at + length (calendar_word c)) PartDone (part_ended c at s) rest
part_calendar Years at s rest = ap (λ n. read_from n PartDone (part_ended Years at s) rest) (five at)
part_calendar Months at s rest = ap (λ n. read_from n PartDone (part_ended Months at s) rest) (six at)
part_calendar Weeks at s rest = ap (λ n. read_from n PartDone (part_ended Weeks at s) rest) (five at)
part_calendar Days at s rest = ap (λ n. read_from n PartDone (part_ended Days at s) rest) (four at)
part_calendar Hours at s rest = ap (λ n. read_from n PartDone (part_ended Hours at s) rest) (five at)
part_calendar Minutes at s rest = ap (λ n. read_from n PartDone (part_ended Minutes at s) rest) (seven at)

pub unit_calendar : (c : Calendar) (at : ℕ) (s : Sketch) (rest : List ℕ) → read_from at UnitNext s (calendar_word c ++ rest) ≡ read_from (at + length (calendar_word c)) Finished (unit_ended c at s) rest
unit_calendar Years at s rest = ap (λ n. read_from n Finished (unit_ended Years at s) rest) (five at)
unit_calendar Months at s rest = ap (λ n. read_from n Finished (unit_ended Months at s) rest) (six at)
unit_calendar Weeks at s rest = ap (λ n. read_from n Finished (unit_ended Weeks at s) rest) (five at)
unit_calendar Days at s rest = ap (λ n. read_from n Finished (unit_ended Days at s) rest) (four at)
unit_calendar Hours at s rest = ap (λ n. read_from n Finished (unit_ended Hours at s) rest) (five at)
unit_calendar Minutes at s rest = ap (λ n. read_from n Finished (unit_ended Minutes at s) rest) (seven at)

-- digits
pub ten : (P : ℕ → Type 0) → P 0 → P 1 → P 2 → P 3 → P 4 → P 5 → P 6 → P 7 → P 8 → P 9 → (d : ℕ) → d < 10 → P d
ten P a b c d e f g h i j zero lt = a
ten P a b c d e f g h i j (suc zero) lt = b
ten P a b c d e f g h i j (suc (suc zero)) lt = c
ten P a b c d e f g h i j (suc (suc (suc zero))) lt = d
ten P a b c d e f g h i j (suc (suc (suc (suc zero)))) lt = e
ten P a b c d e f g h i j (suc (suc (suc (suc (suc zero))))) lt = f
ten P a b c d e f g h i j (suc (suc (suc (suc (suc (suc zero)))))) lt = g
ten P a b c d e f g h i j (suc (suc (suc (suc (suc (suc (suc zero))))))) lt = h
ten P a b c d e f g h i j (suc (suc (suc (suc (suc (suc (suc (suc zero)))))))) lt = i
ten P a b c d e f g h i j (suc (suc (suc (suc (suc (suc (suc (suc (suc zero))))))))) lt = j
ten P a b c d e f g h i j (suc (suc (suc (suc (suc (suc (suc (suc (suc (suc n)))))))))) lt = absurd (omega arith)

-- a digit begins a number
abbrev pub Begins : Bool → ScanPlace → Type 0
Begins span place = (d : ℕ) → d < 10 → moved place (48 + d) ≡ to (Digits span d) Begin

pub first_begins : Begins false SetFirst
first_begins = ten (λ d. moved SetFirst (48 + d) ≡ to (Digits false d) Begin) refl refl refl refl refl refl refl refl refl refl

pub next_begins : Begins false SetNext
next_begins = ten (λ d. moved SetNext (48 + d) ≡ to (Digits false d) Begin) refl refl refl refl refl refl refl refl refl refl

pub length_begins : Begins true LengthNext
length_begins = ten (λ d. moved LengthNext (48 + d) ≡ to (Digits true d) Begin) refl refl refl refl refl refl refl refl refl refl

abbrev allowed : Bool → ℕ → ℕ → Bool → Option Move
allowed span v d t = if t then to (Digits span (10 * v + d)) Nothing else None

digit_goes : (span : Bool) (v : ℕ) → 1 ≤ v → v ≤ 99_999_999 → (d : ℕ) → d < 10 → moved (Digits span v) (48 + d) ≡ to (Digits span (10 * v + d)) Nothing
digit_goes span v low high =
    let test : (nat_le 1 v && nat_le v 99_999_999) ≡ true = and_from (nat_le 1 v) (nat_le v 99_999_999) (le-leb 1 v low) (le-leb v 99_999_999 high) in
    ten (λ d. moved (Digits span v) (48 + d) ≡ to (Digits span (10 * v + d)) Nothing) (ap (allowed span v 0) test) (ap (allowed span v 1) test) (ap (allowed span v 2) test) (ap (allowed span v 3) test) (ap (allowed span v 4) test) (ap (allowed span v 5) test) (ap (allowed span v 6) test) (ap (allowed span v 7) test) (ap (allowed span v 8) test) (ap (allowed span v 9) test)

abbrev Takes : Bool → ScanPlace → ℕ → List ℕ → Type 0
Takes span place n ds = n ≤ 999_999_999 → (at : ℕ) (s : Sketch) (rest : List ℕ) → read_from at place s (ds ++ rest) ≡ read_from (at + length ds) (Digits span n) (acted Begin at s) rest

-- a number of at most nine digits
pub number : (span : Bool) (place : ScanPlace) → Begins span place → (n : ℕ) → Takes span place n (decimal n)
number span place begins n small = decimal_by_steps (Takes span place) one more n (omega arith) small
  where
    one : (n : ℕ) → n < 10 → Takes span place n ((48 + n) ∷ [])
    one n lt small at s rest = read_step at place s (48 + n) rest (to (Digits span n) Begin) (begins n lt)

    more : (n : ℕ) (ds : List ℕ) → 10 ≤ n → Takes span place (n / 10) ds → Takes span place n (ds ++ (48 + n % 10) ∷ [])
    more n ds ge ih small at s rest =
        let d = n % 10 in
        let same : 10 * (n / 10) + d ≡ n = omega arith in
        let ends : at + length ds + 1 ≡ at + length (ds ++ (48 + d) ∷ []) = omega (arith, length-append {A = ℕ}) in
        let assoc : (ds ++ (48 + d) ∷ []) ++ rest ≡ ds ++ (48 + d) ∷ rest = rw append_assoc in
        ap (read_from at place s) assoc ∙ ih (omega arith) at s ((48 + d) ∷ rest)
        ∙ read_step (at + length ds) (Digits span (n / 10)) (acted Begin at s) (48 + d) rest (to (Digits span (10 * (n / 10) + d)) Nothing) (digit_goes span (n / 10) (omega arith) (omega arith) d (omega arith))
        ∙ ap (λ v. read_from (at + length ds + 1) (Digits span v) (acted Begin at s) rest) same ∙ ap (λ k. read_from k (Digits span n) (acted Begin at s) rest) ends
