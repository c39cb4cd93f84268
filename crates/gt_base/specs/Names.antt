-- Names and numbers as words.
use Rattle.std.specs.Prelude.{◌≡◌, ℕ, ◌+◌, ◌-◌, ◌*◌, Bool, true, false, ◌&&◌, ◌||◌, ◌==◌, List, [], ◌∷◌, ◌++◌, length, take, drop, replicate, nat_le, nat_lt, bytes_eq, Option, Some, None, position, if◌then◌else◌}
use Rattle.std.specs.List.{list_all, list_any}
use Rattle.gt_base.specs.declared.limits.TheConstants.{LONGEST_NAME}

abbrev pub is_letter : ℕ → Bool
is_letter b = (nat_le 65 b && nat_le b 90) || (nat_le 97 b && nat_le b 122)

abbrev pub is_digit : ℕ → Bool
is_digit b = nat_le 48 b && nat_le b 57

-- a letter, a digit, `_`, `-` or `.`
abbrev pub is_name_byte : ℕ → Bool
is_name_byte b = is_letter b || is_digit b || b == 95 || b == 45 || b == 46

-- 1 to 32 such bytes, of which the first is a letter
abbrev pub is_name : List ℕ → Bool
is_name [] = false
is_name (b ∷ bs) = is_letter b && list_all is_name_byte bs && nat_lt (length bs) LONGEST_NAME

-- the name that a word is
abbrev pub name_in : List ℕ → Option (List ℕ)
name_in word = if is_name word then Some word else None

-- what digits count
abbrev pub counted : ℕ → List ℕ → ℕ
counted n [] = n
counted n (b ∷ bs) = counted (10 * n + (b - 48)) bs

-- `0`, or digits without a leading zero
abbrev pub is_number : List ℕ → Bool
is_number [] = false
is_number (b ∷ []) = is_digit b
is_number (b ∷ c ∷ bs) = is_digit b && nat_lt 48 b && list_all is_digit (c ∷ bs)

-- the number that a word is; for each number below 2 ^ 64 its word is `decimal`
abbrev pub number_in : List ℕ → Option ℕ
number_in word = if is_number word then Some (counted 0 word) else None

-- a number within these bounds
abbrev pub number_from : ℕ → ℕ → List ℕ → Option ℕ
number_from least most word =
    elim (number_in word) [
      | None ↦ None
      | Some n ↦ if nat_le least n && nat_le n most then Some n else None
    ]

-- the place of a name among names
abbrev pub place_of : List (List ℕ) → List ℕ → Option ℕ
place_of names name = position (bytes_eq name) names

-- a name in 32 bytes, with zeros behind it
pub record IsStored (bytes : List ℕ) (len : ℕ) : Type 0 where
  pub name : is_name (take len bytes) ≡ true
  pub zeros : drop len bytes ≡ replicate (LONGEST_NAME - len) 0
  pub count : length (take len bytes) ≡ len

-- lists of names

abbrev pub lists_name : List (List ℕ) → List ℕ → Bool
lists_name names name = list_any (bytes_eq name) names

-- the names with this one at the end, unless they have it
abbrev pub with_name : List (List ℕ) → List ℕ → List (List ℕ)
with_name names name = if lists_name names name then names else names ++ name ∷ []
