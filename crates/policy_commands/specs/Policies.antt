-- The policy of a text, or how a command ends over the text.
use Rattle.std.specs.Prelude.{◌≡◌, ℕ, List, Option, Some, None, Result, Ok, Err}
use Rattle.gtrbac_model.specs.Safety.{the_cycle, IsSafe}
use Rattle.policy_words.specs.Naming.{NamedPolicy}
use Rattle.policy_words.specs.PolicyRead.{PolicyFault, policy_read, fault_text, unsafe_text}
use Rattle.policy_commands.specs.Ends.{EndView, ending}

abbrev pub policy_or_end : Result NamedPolicy PolicyFault → Result NamedPolicy EndView
policy_or_end (Ok np) = Ok np
policy_or_end (Err f) = Err (ending 2 (fault_text f))

-- the policy, or its fault with status 2
unfoldable pub policy_in : List ℕ → Result NamedPolicy EndView
policy_in text = policy_or_end (policy_read text)

abbrev pub safe_or_cycle : NamedPolicy → Option (List ℕ) → Result NamedPolicy EndView
safe_or_cycle np None = Ok np
safe_or_cycle np (Some edges) = Err (ending 3 (unsafe_text np edges))

-- the policy where it is safe, or its least conflict cycle with status 3
unfoldable pub judged : NamedPolicy → Result NamedPolicy EndView
judged np = safe_or_cycle np (the_cycle np.policy.triggers)

abbrev pub judged_or_end : Result NamedPolicy EndView → Result NamedPolicy EndView
judged_or_end (Ok np) = judged np
judged_or_end (Err t) = Err t

-- the safe policy of a text, or else the end: a fault first, then the cycle
unfoldable pub safe_in : List ℕ → Result NamedPolicy EndView
safe_in text = judged_or_end (policy_in text)

-- the text has a fault
pub record HasTextFault (text : List ℕ) : Type 0 where
  pub fault : PolicyFault
  pub is : policy_read text ≡ Err fault

-- the text is of a policy that is not safe
pub record IsUnsafeText (text : List ℕ) : Type 0 where
  pub policy : NamedPolicy
  pub is : policy_read text ≡ Ok policy
  pub unsafe : IsSafe policy.policy.triggers → ⊥
