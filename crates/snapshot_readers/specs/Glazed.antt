-- What a clause sees of a glass, and of what it looks at.
use Rattle.std.specs.Prelude.{ℕ, List, []}
use Rattle.gt_base.specs.declared.requests.Entry.{Entry}
use Rattle.policy_words.specs.Naming.{NamedPolicy}

-- the policy and birth of its board, and the history that it has seen; of a copy, that it shows
pub record Glazed : Type 0 where
  pub named : NamedPolicy
  pub birth : ℕ
  pub seen : List Entry

abbrev pub fresh_glass : NamedPolicy → ℕ → Glazed
fresh_glass np birth = record { named = np; birth = birth; seen = [] }
