-- Texts that the lines of a policy are written with.
use Rattle.std.specs.Prelude.{ℕ, Bool, ◌&&◌, List, length, nat_lt, nat_le}
use Rattle.std.specs.List.{list_all}

-- a byte above the blanks, the carriage return and the line feed
abbrev pub is_solid : ℕ → Bool
is_solid b = nat_lt 32 b

-- some such bytes
abbrev pub is_word : List ℕ → Bool
is_word w = nat_lt 0 (length w) && list_all is_solid w

-- no byte below a space
abbrev pub is_plain : List ℕ → Bool
is_plain text = list_all (nat_le 32) text
