-- Lines that were read, before those to come.
use Rattle.std.specs.Prelude.{List, [], ◌∷◌, Result}
use Rattle.policy_words.specs.declared.faults.TextKind.{TextKind}
use Rattle.policy_words.specs.declared.versions.TextVersion.{TextVersion}
use Rattle.policy_words.specs.declared.versions.TextVersion.TheVariants.{Open}
use Rattle.policy_words.specs.Sayings.{SaidView}
use Rattle.policy_words.specs.Versions.{version_after}
use Rattle.policy_words.specs.Reading.{Numbered, and_then}

-- with these lines before what the others say
abbrev pub behind : List (Numbered SaidView) → Result (List (Numbered SaidView)) (Numbered TextKind)
    → Result (List (Numbered SaidView)) (Numbered TextKind)
behind [] r = r
behind (s ∷ ss) r = and_then s (behind ss r)

-- the version that the lines tell: the first of them decides
abbrev pub version_told : List (Numbered SaidView) → TextVersion
version_told [] = Open
version_told (s ∷ ss) = version_after Open s.it
