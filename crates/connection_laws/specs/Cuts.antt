-- The lines of a connection.
use Rattle.std.specs.Prelude.{ℕ, List, [], ◌∷◌}
use Rattle.std.specs.List.{slice_split}
use Rattle.gt_text.specs.Lines.{is_feed}

abbrev pub but_last : List (List ℕ) → List (List ℕ)
but_last [] = []
but_last (part ∷ []) = []
but_last (part ∷ next ∷ more) = part ∷ but_last (next ∷ more)

abbrev pub last_of : List (List ℕ) → List ℕ
last_of [] = []
last_of (part ∷ []) = part
last_of (part ∷ next ∷ more) = last_of (next ∷ more)

-- the lines without their line feeds: bytes after the last line feed are none
abbrev pub whole_lines : List ℕ → List (List ℕ)
whole_lines text = but_last (slice_split is_feed text)

-- the bytes after the last line feed
abbrev pub open_line : List ℕ → List ℕ
open_line text = last_of (slice_split is_feed text)
