-- What a line of a policy says, as a relation: by the words that spell it, and not by reading.
use Rattle.std.specs.Prelude.{◌≡◌, ◌≢◌, ◌⊎◌, ℕ, zero, ◌≤◌, ◌<◌, Bool, true, false, List, [], ◌∷◌, ◌++◌, length, take, codes, Option, Some, None, Result, Ok, Err, IsTrue, Contains, if◌then◌else◌}
use Rattle.gt_base.specs.Names.{is_name}
use Rattle.gt_base.specs.declared.limits.TheConstants.{LAST_MINUTE, LONGEST_POLICY_LINE}
use Rattle.gtrbac_model.specs.Period.{Expr}
use Rattle.gt_text.specs.Words.{words_of, are_silent}
use Rattle.civil_time.specs.Text.{civil_text}
use Rattle.periodic_expr.specs.declared.faults.ExprFault.{ExprFault}
use Rattle.periodic_expr.specs.declared.faults.ExprKind.TheVariants.{Syntax}
use Rattle.periodic_expr.specs.Grammar.{Says, HasFault, IsSyntaxFault}
use Rattle.policy_words.specs.declared.faults.TextKind.{TextKind}
use Rattle.policy_words.specs.declared.faults.TextKind.TheVariants as faults
use Rattle.policy_words.specs.declared.versions.TextVersion.{TextVersion}
use Rattle.policy_words.specs.Wording.{head_words}
use Rattle.policy_words.specs.Sayings.{SaidView, version, period, trigger, said_words, and_items, is_formed, is_bodied}
use Rattle.policy_words.specs.Versions.{is_open, has_edges, is_allowed}
use Rattle.policy_words.specs.Reading.{expr_of_line}

-- a line that is looked at past its length, and is not silent
pub record IsLoud (most : ℕ) (line : List ℕ) : Type 0 where
  pub short : length line ≤ most
  pub loud : are_silent (words_of line) ≡ false

pub record IsSilent (most : ℕ) (line : List ℕ) : Type 0 where
  pub short : length line ≤ most
  pub silent : are_silent (words_of line) ≡ true

-- the words before the expression: `*` is instant 0 as the first, and the last instant as the last
abbrev pub IsBound : ℕ → List ℕ → ℕ → Type 0
IsBound open_end w t = ((w ≡ codes "*") × (t ≡ open_end)) ⊎ ((t ≤ LAST_MINUTE) × (w ≡ civil_text t))

pub record HasBounds (line : List ℕ) (n : List ℕ) (first last : ℕ) : Type 0 where
  pub name : IsTrue (is_name n)
  pub first_word : List ℕ
  pub last_word : List ℕ
  pub words : take 4 (words_of line) ≡ codes "period" ∷ n ∷ first_word ∷ last_word ∷ []
  pub is_first : IsBound 0 first_word first
  pub is_last : IsBound LAST_MINUTE last_word last

abbrev pub SpellsPeriod : List ℕ → List ℕ → ℕ → ℕ → Expr → Type 0
SpellsPeriod line n first last e = HasBounds line n first last × (first ≤ last)
    × Says (expr_of_line line) e

-- the line is spelled so; a delay of 0 may be written or left out
abbrev pub Spells : SaidView → List ℕ → Type 0
Spells (period n first last e) line = SpellsPeriod line n first last e
Spells (trigger items h zero) line =
    (words_of line ≡ said_words (trigger items h 0))
    ⊎ (words_of line ≡ codes "when" ∷ and_items items ++ codes "then" ∷ head_words h
    ++ codes "after" ∷ codes "0" ∷ [])
Spells said line = words_of line ≡ said_words said

-- the words that begin a line of version 1
abbrev pub first_words : List (List ℕ)
first_words =
    codes "policy" ∷ codes "role" ∷ codes "user" ∷ codes "perm" ∷ codes "period" ∷ codes "limit"
    ∷ codes "edge" ∷ codes "cap" ∷ codes "admin" ∷ codes "enabled" ∷ codes "assigned"
    ∷ codes "granted" ∷ codes "armed" ∷ codes "each" ∷ codes "start" ∷ codes "span" ∷ codes "when"
    ∷ []

-- version 2 has one more
abbrev pub words_that_begin : Bool → List (List ℕ)
words_that_begin edges = if edges then codes "linked" ∷ first_words else first_words

abbrev pub BeginsWith : List ℕ → List ℕ → Type 0
BeginsWith line w = (ws : List (List ℕ)) × (words_of line ≡ w ∷ ws)

abbrev pub IsVersion : SaidView → Type 0
IsVersion (version n) = Unit {0}
IsVersion _ = ⊥

-- the version stands as the first line that is not silent
abbrev pub IsFirstLine : Bool → SaidView → Type 0
IsFirstLine true said = Unit {0}
IsFirstLine false said = IsVersion said → ⊥

-- and in version 1 no line names an edge
abbrev pub IsPlaced : TextVersion → SaidView → Type 0
IsPlaced v said = IsFirstLine (is_open v) said × IsTrue (is_allowed (has_edges v) said)

abbrev pub ExprFails : List ℕ → ExprFault → Type 0
ExprFails text f = ((f.kind ≡ Syntax) × IsSyntaxFault text f.at)
    ⊎ ((f.kind ≢ Syntax) × HasFault text f)

-- no form of its first word: no saying that the version has words for, and no bounds of a period
pub record HasNoForm (edges : Bool) (line : List ℕ) : Type 0 where
  pub verb : (w : List ℕ) × BeginsWith line w × Contains (words_that_begin edges) w
      × (w ≢ codes "policy")
  pub says_nothing : (said : SaidView) → IsTrue (is_formed said) → IsTrue (is_allowed edges said)
      → Spells said line → ⊥
  pub no_bounds : (n : List ℕ) (first last : ℕ) → HasBounds line n first last → ⊥

-- what reading a line answers in a text of this version: nothing, a saying, or why not
abbrev pub IsSaid : TextVersion → List ℕ → Result (Option SaidView) TextKind → Type 0
IsSaid v line (Ok None) = IsSilent LONGEST_POLICY_LINE line
IsSaid v line (Ok (Some said)) =
    IsLoud LONGEST_POLICY_LINE line × IsTrue (is_formed said) × Spells said line
    × IsTrue (is_bodied said) × IsPlaced v said
IsSaid v line (Err faults.Long) = LONGEST_POLICY_LINE < length line
IsSaid v line (Err faults.Version) =
    IsLoud LONGEST_POLICY_LINE line × BeginsWith line (codes "policy")
    × (IsTrue (is_open v) → (n : ℕ) → IsTrue (is_formed (version n))
    → words_of line ≢ said_words (version n))
IsSaid v line (Err faults.Word) = IsLoud LONGEST_POLICY_LINE line
    × ((w : List ℕ) → Contains (words_that_begin (has_edges v)) w → BeginsWith line w → ⊥)
IsSaid v line (Err faults.Form) = IsLoud LONGEST_POLICY_LINE line × HasNoForm (has_edges v) line
IsSaid v line (Err faults.Body) =
    IsLoud LONGEST_POLICY_LINE line × ((said : SaidView) × IsTrue (is_formed said)
    × IsTrue (is_allowed (has_edges v) said) × Spells said line × (is_bodied said ≡ false))
IsSaid v line (Err faults.Bounds) = IsLoud LONGEST_POLICY_LINE line
    × ((n : List ℕ) × (f : ℕ) × (l : ℕ) × HasBounds line n f l × (l < f))
IsSaid v line (Err (faults.Expr t)) = IsLoud LONGEST_POLICY_LINE line
    × ((n : List ℕ) × (f : ℕ) × (l : ℕ) × HasBounds line n f l × (f ≤ l)
    × ExprFails (expr_of_line line) t)
IsSaid v line (Err faults.Memory) = ⊥
