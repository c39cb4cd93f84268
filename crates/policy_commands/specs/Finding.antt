-- What a program finds on a shelf by the name of a policy.
use Rattle.std.specs.Prelude.{◌≡◌, ◌⊎◌, ◌<◌, ◌≤◌, ℕ, ⊤, List, ◌++◌, length, codes, Some, IfSome, IsSomeAnd}
use Rattle.std.specs.declared.option.Option.{Option}
use Rattle.gt_io.specs.Causes.{Rose}
use Rattle.gt_io.specs.Shelf.{Contents, Lacks}
use Rattle.policy_commands.specs.Ends.{EndView, ending, seen_end}
use Rattle.policy_commands.specs.declared.finding.FoundText.{FoundText}
use Rattle.policy_commands.specs.declared.finding.FoundText.TheVariants.{Text, Ended}
use Rattle.policy_commands.specs.declared.finding.TheConstants.{MAX_POLICY}

abbrev pub read_fault : EndView
read_fault = ending 4 (codes "read fault\n")

abbrev pub too_long : List ℕ → EndView
too_long what = ending 6 (codes "too long: " ++ what ++ codes "\n")

abbrev pub IsLongPolicy : List ℕ → Type 0
IsLongPolicy text = MAX_POLICY < length text

-- the text of the name, where the shelf tells it, which is not too long
pub record IsStoredText (contents : Contents) (name text : List ℕ) : Type 0 where
  pub found : IfSome contents (λ text_of. text_of name ≡ Some text)
  pub short : length text ≤ MAX_POLICY

-- the shelf failed or has no such text, or the text is too long, and this is told
abbrev pub MissesText : Type 0 → Contents → List ℕ → EndView → Type 0
MissesText hard contents name t =
    ((t ≡ read_fault) × (hard ⊎ Lacks contents name))
    ⊎ ((t ≡ too_long (codes "policy"))
    × IfSome contents (λ text_of. IsSomeAnd (text_of name) IsLongPolicy))

-- what is found by a name; `hard` says that the shelf failed
abbrev pub IsFoundText : Type 0 → Contents → List ℕ → FoundText → Type 0
IsFoundText hard contents name (Text text) = IsStoredText contents name text.items
IsFoundText hard contents name (Ended end) = MissesText hard contents name (seen_end end)

-- what was found ends with 4 only where this holds
abbrev pub IsFailure : Type 0 → FoundText → Type 0
IsFailure holds (Text text) = ⊤
IsFailure holds (Ended end) = end.status ≡ 4 → holds

-- this holds but where what was found ends with 4
abbrev pub IsSteady : Type 0 → FoundText → Type 0
IsSteady holds (Text text) = holds
IsSteady holds (Ended end) = (end.status ≡ 4) ⊎ holds
