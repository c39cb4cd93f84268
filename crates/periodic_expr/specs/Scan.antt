-- How far a text can be continued to an expression: a scan that takes a byte a step. Each place
-- that it reaches can be continued.
use Rattle.std.specs.Prelude.{ℕ, ◌+◌, ◌-◌, ◌*◌, ◌<◌, ◌≤◌, Bool, true, false, ◌&&◌, ◌||◌, nat_eq, nat_le, List, length, codes, slice_index, Option, Some, None, if◌then◌else◌}
use Rattle.gt_base.specs.Names.{is_digit}
use Rattle.gtrbac_model.specs.declared.calendars.Calendar.{Calendar}
use Rattle.gtrbac_model.specs.declared.calendars.Calendar.TheVariants.{Years, Months, Weeks, Days, Hours, Minutes}
use Rattle.periodic_expr.specs.declared.scan.ScanPlace.{ScanPlace}
use Rattle.periodic_expr.specs.declared.scan.ScanPlace.TheVariants.{Start, PartNext, OneLetter, TwoLetters, DotNext, CalendarNext, Letters, PartDone, PartPast, SetFirst, Digits, NumberPast, SetNext, LengthNext, LengthDot, UnitNext, Finished}
use Rattle.periodic_expr.specs.declared.scan.Act.{Act}
use Rattle.periodic_expr.specs.declared.scan.Act.TheVariants.{Nothing, Open, Begin, Index, Length, Part, Unit as UnitEnds}
use Rattle.periodic_expr.specs.declared.scan.Move.{Move}

-- a space or a tab
abbrev pub is_blank : ℕ → Bool
is_blank b = nat_eq b 32 || nat_eq b 9

abbrev pub calendar_word : Calendar → List ℕ
calendar_word Years = codes "Years"
calendar_word Months = codes "Months"
calendar_word Weeks = codes "Weeks"
calendar_word Days = codes "Days"
calendar_word Hours = codes "Hours"
calendar_word Minutes = codes "Minutes"

abbrev pub to : ScanPlace → Act → Option Move
to place act = Some (record { place = place; act = act })

-- where the byte is this one
abbrev pub on : ℕ → ℕ → Option Move → Option Move → Option Move
on b c there other = if nat_eq b c then there else other

abbrev pub on_blank : ℕ → ScanPlace → Option Move → Option Move
on_blank b place other = if is_blank b then to place Nothing else other

abbrev pub on_digit : ℕ → Option Move → Option Move → Option Move
on_digit b there other = if is_digit b then there else other

-- `all` or a brace
abbrev pub part_start : ℕ → Option Move
part_start b = on b 97 (to OneLetter Nothing) (on b 123 (to SetFirst Open) None)

-- the first letter of a calendar; that of Months and of Minutes is one
abbrev pub calendar_start : Bool → ℕ → Option Move
calendar_start unit b =
    on b 89 (to (Letters unit Years 1) Begin)
    (on b 77 (to (Letters unit Months 1) Begin)
    (on b 87 (to (Letters unit Weeks 1) Begin)
    (on b 68 (to (Letters unit Days 1) Begin)
    (on b 72 (to (Letters unit Hours 1) Begin) None))))

abbrev pub calendar_end : Bool → Calendar → Option Move
calendar_end true c = to Finished (UnitEnds c)
calendar_end false c = to PartDone (Part c)

-- `Mi` turns Months into Minutes
abbrev pub other_letters : Bool → Calendar → ℕ → ℕ → Option Move
other_letters unit Months k b =
    if nat_eq k 1 && nat_eq b 105 then to (Letters unit Minutes 2) Nothing else None
other_letters unit _ k b = None

abbrev pub next_letter : Bool → Calendar → ℕ → Option Move
next_letter unit c k =
    if nat_eq (k + 1) (length (calendar_word c)) then calendar_end unit c
    else to (Letters unit c (k + 1)) Nothing

abbrev pub letters : Bool → Calendar → ℕ → ℕ → Option Move
letters unit c k b = on b (slice_index (calendar_word c) k) (next_letter unit c k)
    (other_letters unit c k b)

abbrev pub number_start : Bool → ℕ → Option Move
number_start span b = on_digit b (to (Digits span (b - 48)) Begin) None

-- what may stand after a number, which has ended where `act` says so
abbrev pub after_index : Act → ℕ → Option Move
after_index act b = on b 44 (to SetNext act) (on b 125 (to DotNext act) None)

abbrev pub after_number : Bool → ℕ → ℕ → Option Move
after_number true v b =
    if is_blank b then to LengthDot (Length v) else on b 46 (to UnitNext (Length v)) None
after_number false v b = if is_blank b then to NumberPast (Index v) else after_index (Index v) b

-- no digit after a leading 0, and none after nine
abbrev pub digits : Bool → ℕ → ℕ → Option Move
digits span v b =
    on_digit b
    (if nat_le 1 v && nat_le v 99_999_999 then to (Digits span (10 * v + (b - 48))) Nothing
    else None)
    (after_number span v b)

abbrev pub after_part : ℕ → Option Move
after_part b = on b 43 (to PartNext Nothing) (on b 62 (to LengthNext Nothing) None)

abbrev pub set_first : ℕ → Option Move
set_first b = on b 125 (to DotNext Nothing) (number_start false b)

-- where a byte leads
abbrev pub moved : ScanPlace → ℕ → Option Move
moved Start b = part_start b
moved PartNext b = on_blank b PartNext (part_start b)
moved OneLetter b = on b 108 (to TwoLetters Nothing) None
moved TwoLetters b = on b 108 (to DotNext Nothing) None
moved DotNext b = on_blank b DotNext (on b 46 (to CalendarNext Nothing) None)
moved CalendarNext b = on_blank b CalendarNext (calendar_start false b)
moved (Letters unit c k) b = letters unit c k b
moved PartDone b = on_blank b PartPast (after_part b)
moved PartPast b = on_blank b PartPast (after_part b)
moved SetFirst b = on_blank b SetFirst (set_first b)
moved (Digits span v) b = digits span v b
moved NumberPast b = on_blank b NumberPast (after_index Nothing b)
moved SetNext b = on_blank b SetNext (number_start false b)
moved LengthNext b = on_blank b LengthNext (number_start true b)
moved LengthDot b = on_blank b LengthDot (on b 46 (to UnitNext Nothing) None)
moved UnitNext b = on_blank b UnitNext (calendar_start true b)
moved Finished b = None

-- a calendar has so many letters, and a number is not too large
abbrev pub IsSized : ScanPlace → Type 0
IsSized (Letters unit c k) = k < length (calendar_word c)
IsSized (Digits span v) = v ≤ 999_999_999
IsSized _ = Unit {0}

abbrev pub IsSmall : Act → Type 0
IsSmall (Index n) = n ≤ 999_999_999
IsSmall _ = Unit {0}

abbrev pub IsFitting : Move → Type 0
IsFitting m = IsSized m.place × IsSmall m.act
