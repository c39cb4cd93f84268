-- What is put into room that was taken before.
use Rattle.std.specs.Prelude.{◌≡◌, ◌+◌, ◌≤◌, ℕ, List, ◌++◌, length}
use Rattle.gt_base.specs.Roomy.{Roomy}

-- the text was added at the end
pub record Puts (old new : Roomy ℕ) (text : List ℕ) : Type 0 where
  pub items : new.items ≡ old.items ++ text
  pub spare : old.spare ≤ new.spare + length text
