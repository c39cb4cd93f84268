-- Laws of the canonical lines of a policy.
use Rattle.std.specs.Prelude.{◌≡◌, not, List, ◌∷◌, All, Ok, IsTrue}
use Rattle.policy_words.specs.Sayings.{SaidView, version, is_saying}
use Rattle.policy_words.specs.Naming.{NamedPolicy}
use Rattle.policy_words.specs.LinesTogether.{build}
use Rattle.policy_words.specs.Canonical.{canonical_lines}
use Rattle.policy_words.specs.Valid.{IsWellFormed}
use Rattle.policy_words.specs.Canonical.{version_of}
use Rattle.policy_book.specs.Said.{is_version}
use Rattle.policy_book.specs.Laws.{numbered_from}

-- the canonical lines of a well-formed policy make it again
abbrev pub CanonicalIsBuilt : Type 0
CanonicalIsBuilt = (np : NamedPolicy) → IsWellFormed np
    → build (numbered_from 1 (canonical_lines np)) ≡ Ok np

-- they say what is in range
abbrev pub CanonicalAreSayings : Type 0
CanonicalAreSayings = (np : NamedPolicy) → IsWellFormed np
    → All (λ s. IsTrue (is_saying s)) (canonical_lines np)

-- the first of them is the version, and no other
abbrev pub VersionIsFirst : Type 0
VersionIsFirst = (np : NamedPolicy) → (rest : List SaidView)
    × (canonical_lines np ≡ version (version_of np.policy) ∷ rest)
    × All (λ s. IsTrue (not (is_version s))) rest
