-- The first fault of lines together, by the places of the lines.
use Rattle.std.specs.Prelude.{◌≡◌, ◌↔◌, ◌⊎◌, ℕ, zero, suc, ◌<◌, ◌≤◌, true, false, List, [], ◌∷◌, Some, Err}
use Rattle.gtrbac_model.specs.Graph.{item_at}
use Rattle.gtrbac_model.specs.EdgeCycles.{edge_cycle}
use Rattle.policy_words.specs.declared.claims.Claim.{Claim}
use Rattle.policy_words.specs.Sayings.{SaidView}
use Rattle.policy_words.specs.Reading.{Numbered}
use Rattle.policy_words.specs.Naming.{Names}
use Rattle.policy_words.specs.Making.{names_of, named_policy}
use Rattle.policy_words.specs.LinesTogether.{LinesFault, unknown, twice, many, cycle, is_known, claim_of, same_claim, may_be_again, kind_of, most_of, count_of, said_in, edges_at, build}

-- a line at an earlier place claims what this one claims
pub record ClaimsAgain (ss : List (Numbered SaidView)) (k : ℕ) (x : SaidView) : Type 0 where
  pub place : ℕ
  pub earlier : place < k
  pub line : Numbered SaidView
  pub stands : item_at ss place ≡ Some line
  pub claim : Claim
  pub this : claim_of x ≡ Some claim
  pub that : Claim
  pub of_line : claim_of line.it ≡ Some that
  pub same : same_claim claim that ≡ true

-- what the lines before a place say, the last of them first
abbrev pub before_place : List SaidView → List (Numbered SaidView) → ℕ → List SaidView
before_place before ss zero = before
before_place before [] (suc k) = before
before_place before (s ∷ ss) (suc k) = before_place (s.it ∷ before) ss k

-- the fault of the line s at place k: the first of the three that it has
abbrev pub HasLineFault : Names → List (Numbered SaidView) → ℕ → Numbered SaidView → LinesFault
    → Type 0
HasLineFault ns ss k s (unknown n) = (n ≡ s.line) × (is_known ns s.it ≡ false)
HasLineFault ns ss k s (twice n) = (n ≡ s.line) × (is_known ns s.it ≡ true)
    × (may_be_again s.it ≡ false) × ClaimsAgain ss k s.it
HasLineFault ns ss k s (many n kind) =
    (n ≡ s.line) × (is_known ns s.it ≡ true) × (ClaimsAgain ss k s.it → ⊥)
    × (kind_of s.it ≡ Some kind) × (most_of kind ≤ count_of kind (before_place [] ss k))
HasLineFault ns ss k s (cycle es) = ⊥

abbrev pub NoFaultBelow : Names → List (Numbered SaidView) → ℕ → Type 0
NoFaultBelow ns ss k = (j : ℕ) (r : Numbered SaidView) (u : LinesFault) → j < k
    → item_at ss j ≡ Some r → HasLineFault ns ss j r u → ⊥

-- the fault is that of the least place whose line has one
pub record IsFirstFault (ns : Names) (ss : List (Numbered SaidView))
    (t : LinesFault) : Type 0 where
  pub place : ℕ
  pub line : Numbered SaidView
  pub stands : item_at ss place ≡ Some line
  pub has : HasLineFault ns ss place line t
  pub least : NoFaultBelow ns ss place

abbrev pub NoFault : Names → List (Numbered SaidView) → Type 0
NoFault ns ss = (k : ℕ) → NoFaultBelow ns ss k

-- the least cycle of the edges that the lines give
pub record IsEdgeCycle (ss : List (Numbered SaidView)) (t : LinesFault) : Type 0 where
  pub none : NoFault (names_of (said_in ss)) ss
  pub numbers : List ℕ
  pub is : edge_cycle (named_policy (said_in ss)).policy.edges ≡ Some numbers
  pub told : t ≡ cycle (edges_at (named_policy (said_in ss)).policy.edges numbers)

-- what is built of lines is a fault just where it is their first fault, or where none has one, the
-- least cycle of edges
abbrev pub FaultsAreFirst : Type 0
FaultsAreFirst = (ss : List (Numbered SaidView)) (t : LinesFault)
    → (build ss ≡ Err t) ↔ (IsFirstFault (names_of (said_in ss)) ss t ⊎ IsEdgeCycle ss t)
