-- Numbers, counted from the front.
use Rattle.std.specs.Prelude.{ℕ, ◌+◌, ◌-◌, ◌*◌, Bool, true, false, ◌&&◌, List, [], ◌∷◌, nat_le, nat_lt, Option, Some, None, if◌then◌else◌}
use Rattle.gt_base.specs.Names.{is_digit}

-- it has a byte, and `0` stands alone
abbrev pub is_plain : List ℕ → Bool
is_plain [] = false
is_plain (b ∷ []) = true
is_plain (b ∷ c ∷ bs) = nat_lt 48 b

-- the count with one digit more, none where the byte is no digit or the count is above `most`
abbrev pub longer_count : ℕ → ℕ → ℕ → Option ℕ
longer_count most n b = if is_digit b && nat_le (10 * n + (b - 48)) most
    then Some (10 * n + (b - 48)) else None

-- what digits count behind a number, none where a byte is no digit or they count more than `most`
abbrev pub count_to : ℕ → ℕ → List ℕ → Option ℕ
count_to most n [] = Some n
count_to most n (b ∷ bs) = elim (longer_count most n b)
    [ None ↦ None | Some m ↦ count_to most m bs ]
