-- The version of a text, as its lines tell it.
use Rattle.std.specs.Prelude.{Bool, true, false, ◌||◌, not, nat_eq, if◌then◌else◌}
use Rattle.policy_words.specs.declared.versions.TextVersion.{TextVersion}
use Rattle.policy_words.specs.declared.versions.TextVersion.TheVariants.{Open, One, Two}
use Rattle.policy_words.specs.Sayings.{SaidView, version, names_edge}

abbrev pub is_open : TextVersion → Bool
is_open Open = true
is_open One = false
is_open Two = false

-- version 2 has words for edges that are linked and unlinked
abbrev pub has_edges : TextVersion → Bool
has_edges Open = false
has_edges One = false
has_edges Two = true

-- a text without a version line has version 1
abbrev pub settled_version : TextVersion → TextVersion
settled_version Open = One
settled_version One = One
settled_version Two = Two

-- the version after a line
abbrev pub version_after : TextVersion → SaidView → TextVersion
version_after v (version n) = if nat_eq n 2 then Two else One
version_after v _ = settled_version v

-- a line that names an edge stands in a text of version 2 alone
abbrev pub is_allowed : Bool → SaidView → Bool
is_allowed edges s = not (names_edge s) || edges
