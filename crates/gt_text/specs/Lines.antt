-- Lines of a text.
use Rattle.std.specs.Prelude.{ℕ, ◌-◌, Bool, ◌==◌, List, [], ◌∷◌, length, take, nat_lt, slice_index, if◌then◌else◌}
use Rattle.std.specs.List.{slice_split}

abbrev pub is_feed : ℕ → Bool
is_feed b = b == 10

-- the parts but the last where it is empty
abbrev pub but_empty_last : List (List ℕ) → List (List ℕ)
but_empty_last [] = []
but_empty_last (last ∷ []) = if length last == 0 then [] else last ∷ []
but_empty_last (part ∷ next ∷ more) = part ∷ but_empty_last (next ∷ more)

-- the lines of a policy or a script, without their line feeds: bytes after the last line feed are a
-- line where there are any
abbrev pub lines_of : List ℕ → List (List ℕ)
lines_of text = but_empty_last (slice_split is_feed text)

-- without one carriage return at the end
abbrev pub without_return : List ℕ → List ℕ
without_return line = if slice_index line (length line - 1) == 13 then take (length line - 1) line
    else line

-- the length is counted with a carriage return
abbrev pub is_longer : ℕ → List ℕ → Bool
is_longer limit line = nat_lt limit (length line)
