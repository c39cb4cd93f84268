-- What a clause sees of the two copies.
use Rattle.std.specs.Prelude.{List, [], ◌∷◌, ◌++◌}
use Rattle.gt_base.specs.declared.requests.Entry.{Entry}

-- the root, the published entries, and those that are not published yet
pub record Copied (R : Type 0) : Type 0 where
  pub root : R
  pub shown : List Entry
  pub waiting : List Entry

-- the entries of lists, one list after the other
abbrev pub joined : List (List Entry) → List Entry
joined [] = []
joined (es ∷ rest) = es ++ joined rest
