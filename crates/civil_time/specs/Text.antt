-- Civil minutes as texts.
use Rattle.std.specs.Prelude.{◌≡◌, ℕ, ◌+◌, ◌-◌, ◌*◌, ◌/◌, ◌%◌, ◌<◌, ◌≤◌, ◌&&◌, List, [], ◌∷◌, ◌++◌, length, nat_le, nat_eq, bytes_eq, slice_index, Option, Some, None, if◌then◌else◌}
use Rattle.gt_base.specs.declared.limits.TheConstants.{LAST_MINUTE}
use Rattle.gtrbac_model.specs.Calendar.{day_of_month}
use Rattle.civil_time.specs.Minutes.{civil_at}
use Rattle.civil_time.specs.declared.civil.Civil.{Civil}

-- a number below 100 in two digits
abbrev pub two_digits : ℕ → List ℕ
two_digits n = (48 + n / 10) ∷ (48 + n % 10) ∷ []

-- YYYY-MM-DDTHH:MM
abbrev pub text_of_civil : Civil → List ℕ
text_of_civil c =
    two_digits (c.year / 100) ++ two_digits (c.year % 100) ++ 45 ∷ [] ++ two_digits c.month ++ 45
    ∷ [] ++ two_digits c.day
    ++ 84 ∷ [] ++ two_digits c.hour ++ 58 ∷ [] ++ two_digits c.minute

-- the text of an instant
abbrev pub civil_text : ℕ → List ℕ
civil_text t = text_of_civil (civil_at t)

-- the text is that of an instant
abbrev pub IsCivil : List ℕ → ℕ → Type 0
IsCivil text t = (t ≤ LAST_MINUTE) × (text ≡ civil_text t)

-- the number of two digits
abbrev pub two_at : List ℕ → ℕ → ℕ
two_at text i = 10 * (slice_index text i - 48) + (slice_index text (i + 1) - 48)

-- the one instant that the text can be of
abbrev pub candidate : List ℕ → ℕ
candidate text =
    1440 * (day_of_month (12 * (100 * two_at text 0 + two_at text 2) + two_at text 5 - 1)
    + two_at text 8 - 1) + 60 * two_at text 11 + two_at text 14 - 1_051_898_400

-- the instant of a text, where it is the text of one
abbrev pub civil_in : List ℕ → Option ℕ
civil_in text =
    if nat_eq (length text) 16 && nat_le (candidate text) LAST_MINUTE
    && bytes_eq (civil_text (candidate text)) text
    then Some (candidate text) else None

-- its numbers have at most two digits, and its year four
pub record IsPrintable (c : Civil) : Type 0 where
  pub year : c.year < 10_000
  pub month : c.month < 100
  pub day : c.day < 100
  pub hour : c.hour < 100
  pub minute : c.minute < 100
