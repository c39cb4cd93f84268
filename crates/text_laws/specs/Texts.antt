-- What the lines of a text say one after the other, and the first of them that has a fault.
use Rattle.std.specs.Prelude.{◌≡◌, ◌↔◌, ◌⊎◌, ℕ, ◌+◌, List, [], ◌∷◌, ◌++◌, length, Some, None, Ok, Err}
use Rattle.policy_words.specs.declared.faults.TextKind.{TextKind}
use Rattle.policy_words.specs.declared.versions.TextVersion.{TextVersion}
use Rattle.policy_words.specs.Versions.{version_after}
use Rattle.policy_words.specs.Sayings.{SaidView}
use Rattle.policy_words.specs.Reading.{Numbered, read_lines}
use Rattle.policy_words.specs.Spelling.{IsSaid}

-- lines that begin in this version say these things, the first line with this number
abbrev pub Say : TextVersion → ℕ → List (List ℕ) → List (Numbered SaidView) → Type 0
Say v n [] said = said ≡ []
Say v n (line ∷ lines) said =
    (IsSaid v line (Ok None) × Say v (n + 1) lines said)
    ⊎ ((s : SaidView) × (more : List (Numbered SaidView))
    × (said ≡ record { line = n; it = s } ∷ more) × IsSaid v line (Ok (Some s))
    × Say (version_after v s) (n + 1) lines more)

-- lines without a fault, from one version to that of the line behind them
abbrev pub LeadTo : TextVersion → List (List ℕ) → TextVersion → Type 0
LeadTo v [] w = v ≡ w
LeadTo v (line ∷ lines) w = (IsSaid v line (Ok None) × LeadTo v lines w)
    ⊎ ((s : SaidView) × IsSaid v line (Ok (Some s)) × LeadTo (version_after v s) lines w)

-- the fault of a line behind lines without one, with its number
pub record IsFirstFault (v : TextVersion) (n : ℕ) (lines : List (List ℕ))
    (fault : Numbered TextKind) : Type 0 where
  pub front : List (List ℕ)
  pub line : List ℕ
  pub rest : List (List ℕ)
  pub whole : lines ≡ front ++ line ∷ rest
  pub version : TextVersion
  pub before : LeadTo v front version
  pub has : IsSaid version line (Err fault.it)
  pub number : fault.line ≡ n + length front

abbrev pub TextsSay : Type 0
TextsSay = (v : TextVersion) (n : ℕ) (lines : List (List ℕ)) (said : List (Numbered SaidView))
    → (read_lines v n lines ≡ Ok said) ↔ Say v n lines said

abbrev pub FirstFaultIsTold : Type 0
FirstFaultIsTold = (v : TextVersion) (n : ℕ) (lines : List (List ℕ)) (fault : Numbered TextKind)
    → (read_lines v n lines ≡ Err fault) ↔ IsFirstFault v n lines fault
