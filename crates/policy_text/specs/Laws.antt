-- What holds of canonical texts.
use Rattle.std.specs.Prelude.{◌≡◌, ◌≤◌, length, All, Ok}
use Rattle.gt_base.specs.declared.limits.TheConstants.{LONGEST_POLICY_LINE}
use Rattle.gt_text.specs.Lines.{lines_of}
use Rattle.policy_words.specs.Naming.{NamedPolicy}
use Rattle.policy_words.specs.Canonical.{canonical_text}
use Rattle.policy_words.specs.PolicyRead.{policy_read}
use Rattle.policy_words.specs.Valid.{IsWellFormed}

-- the canonical text of a well-formed policy stands for it, where no line of it has more than 4,096
-- bytes
abbrev pub CanonicalIsRead : Type 0
CanonicalIsRead = (np : NamedPolicy) → IsWellFormed np
    → All (λ line. length line ≤ LONGEST_POLICY_LINE) (lines_of (canonical_text np))
    → policy_read (canonical_text np) ≡ Ok np
