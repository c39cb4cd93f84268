-- Names with their numbers.
use Rattle.std.specs.Prelude.{ℕ, List, position, Option}
use Rattle.policy_words.specs.Wording.{◌>>=◌}
use Rattle.policy_words.specs.Naming.{Names, same_pair, role_of}

-- the number of the edge that joins the two
abbrev pub edge_number : Names → List ℕ → List ℕ → Option ℕ
edge_number ns s j = do
  senior ← role_of ns s
  junior ← role_of ns j
  position (same_pair (s, j)) ns.edges
