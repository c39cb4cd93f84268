-- What the answers of `check` and `fmt` mean.
use Rattle.std.specs.Prelude.{◌≡◌, ◌≤◌, ◌↔◌, ℕ, List, length, codes, All, Ok}
use Rattle.gt_base.specs.declared.limits.TheConstants.{LONGEST_POLICY_LINE}
use Rattle.gt_text.specs.Lines.{lines_of}
use Rattle.gtrbac_model.specs.Safety.{IsSafe}
use Rattle.gtrbac_model.specs.Theorems.{HasOneModel}
use Rattle.policy_words.specs.Canonical.{canonical_text}
use Rattle.policy_words.specs.Naming.{NamedPolicy}
use Rattle.policy_words.specs.PolicyRead.{policy_read}
use Rattle.policy_words.specs.Spelling.{BeginsWith}
use Rattle.policy_commands.specs.Ends.{ending}
use Rattle.policy_commands.specs.Policies.{HasTextFault, IsUnsafeText}
use Rattle.policy_commands.specs.Commands.{fmt_end, check_end}

-- the text is of a policy that is safe, and so has exactly one execution model
pub record IsSafeText (text : List ℕ) : Type 0 where
  pub policy : NamedPolicy
  pub is : policy_read text ≡ Ok policy
  pub safe : IsSafe policy.policy.triggers
  pub one : HasOneModel policy.policy

abbrev pub SafeMeans : Type 0
SafeMeans = (text : List ℕ) → (check_end text ≡ ending 0 (codes "safe\n")) ↔ IsSafeText text

abbrev pub UnsafeMeans : Type 0
UnsafeMeans = (text : List ℕ) → ((check_end text).status ≡ 3) ↔ IsUnsafeText text

abbrev pub FaultMeans : Type 0
FaultMeans = (text : List ℕ) → ((check_end text).status ≡ 2) ↔ HasTextFault text

abbrev pub FmtFaultMeans : Type 0
FmtFaultMeans = (text : List ℕ) → ((fmt_end text).status ≡ 2) ↔ HasTextFault text

-- what was written stands for the same policy and is written again
abbrev pub FmtKeeps : Type 0
FmtKeeps =
    (text out : List ℕ) → fmt_end text ≡ ending 0 out
    → All (λ line. length line ≤ LONGEST_POLICY_LINE) (lines_of out)
    → (policy_read out ≡ policy_read text) × (fmt_end out ≡ ending 0 out)

-- each period line has at most 4,040 bytes
abbrev pub HasBriefPeriods : List ℕ → Type 0
HasBriefPeriods text =
    All (λ line. BeginsWith line (codes "period") → length line ≤ 4_040) (lines_of text)

-- then no line of the canonical text has more than 4,096
abbrev pub CanonicalLinesFit : Type 0
CanonicalLinesFit =
    (text : List ℕ) (np : NamedPolicy) → policy_read text ≡ Ok np → HasBriefPeriods text
    → All (λ line. length line ≤ LONGEST_POLICY_LINE) (lines_of (canonical_text np))

-- and so what was written stands for the same policy and is written again
abbrev pub FmtKeepsBrief : Type 0
FmtKeepsBrief =
    (text out : List ℕ) → fmt_end text ≡ ending 0 out → HasBriefPeriods text
    → (policy_read out ≡ policy_read text) × (fmt_end out ≡ ending 0 out)
