-- How `fmt` and `check` end over a text.
use Rattle.std.specs.Prelude.{◌≡◌, List, ℕ, codes, Result, Ok, Err}
use Rattle.policy_words.specs.Naming.{NamedPolicy}
use Rattle.policy_words.specs.Canonical.{canonical_text}
use Rattle.policy_commands.specs.declared.ends.End.{End}
use Rattle.policy_commands.specs.Ends.{EndView, ending}
use Rattle.policy_commands.specs.Policies.{policy_in, safe_in}

abbrev pub laid_or_end : Result NamedPolicy EndView → EndView
laid_or_end (Ok np) = ending 0 (canonical_text np)
laid_or_end (Err t) = t

-- `fmt`: whether the policy is safe plays no part
unfoldable pub fmt_end : List ℕ → EndView
fmt_end text = laid_or_end (policy_in text)

abbrev pub safe_or_end : Result NamedPolicy EndView → EndView
safe_or_end (Ok np) = ending 0 (codes "safe\n")
safe_or_end (Err t) = t

-- `check`
unfoldable pub check_end : List ℕ → EndView
check_end text = safe_or_end (safe_in text)

-- the end is the canonical text of the policy
pub record IsLaid (np : NamedPolicy) (end : End) : Type 0 where
  pub zero : end.status ≡ 0
  pub text : end.text.items ≡ canonical_text np
