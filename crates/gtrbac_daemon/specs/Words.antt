-- What the words of the server say, and what keeps it from serving.
use Rattle.std.specs.Prelude.{◌≡◌, ◌⊎◌, ℕ, List, [], ◌∷◌, Option, Some, None, Ok, Err, IfSome, IsSomeAnd, codes, bytes_eq, if◌then◌else◌}
use Rattle.gt_io.specs.Shelf.{Contents, Stock, AsksOnce}
use Rattle.gt_text.specs.Words.{begins_with}
use Rattle.policy_words.specs.Naming.{NamedPolicy}
use Rattle.policy_commands.specs.Ends.{EndView, ending}
use Rattle.policy_commands.specs.Finding.{IsStoredText, MissesText}
use Rattle.policy_commands.specs.Policies.{safe_in, HasTextFault, IsUnsafeText}
use Rattle.gtrbac_daemon.specs.declared.words.Mode.{Mode}
use Rattle.gtrbac_daemon.specs.declared.words.Mode.TheVariants.{Plain, Views, Poll}

abbrev pub server_usage : EndView
server_usage = ending 1 (codes "usage: gtrbacd POLICY | views POLICY | poll POLICY\n")

-- the words are one, the name of a policy, which does not begin with `-`
abbrev pub policy_named : List (List ℕ) → Option (List ℕ)
policy_named (name ∷ []) = if begins_with 45 name then None else Some name
policy_named _ = None

-- the words are this verb and the name of a policy, which does not begin with `-`
abbrev pub named_behind : List ℕ → List (List ℕ) → Option (List ℕ)
named_behind wanted (verb ∷ name ∷ []) =
    if bytes_eq verb wanted then policy_named (name ∷ []) else None
named_behind wanted _ = None

-- how the program serves: the mode of two words of which the first names one, else the plain one
abbrev pub mode_named : List (List ℕ) → Mode
mode_named (verb ∷ name ∷ []) =
    if bytes_eq verb (codes "views") then Views
    else if bytes_eq verb (codes "poll") then Poll else Plain
mode_named _ = Plain

-- What keeps the server from serving. The words come first; then the shelf failed or has no such
-- text, or the text is too long; or the text has a fault, with status 2, or is of a policy that is
-- not safe, with status 3
abbrev pub KeepsFromServing : Type 0 → Contents → Option (List ℕ) → EndView → Type 0
KeepsFromServing hard contents None t = t ≡ server_usage
KeepsFromServing hard contents (Some name) t =
    MissesText hard contents name t
    ⊎ ((text : List ℕ) × IsStoredText contents name text × (safe_in text ≡ Err t)
    × (((t.status ≡ 2) × HasTextFault text) ⊎ ((t.status ≡ 3) × IsUnsafeText text)))

-- the text of the name is of a safe policy
abbrev pub Admits : Contents → Option (List ℕ) → NamedPolicy → Type 0
Admits contents None np = ⊥
Admits contents (Some name) np =
    (text : List ℕ) × IsStoredText contents name text × (safe_in text ≡ Ok np)

-- the shelf was asked for one text, and its texts stay
pub record IsSearched (a b : Stock) : Type 0 where
  pub texts : b.contents ≡ a.contents
  pub once : AsksOnce a b

-- where the shelf tells its texts, it has one of the name that is said, and this holds of it
abbrev pub HasText : Option (List ℕ) → Contents → (List ℕ → Type 0) → Type 0
HasText name contents Holds =
    IfSome contents (λ text_of. IsSomeAnd name (λ n. IsSomeAnd (text_of n) Holds))
