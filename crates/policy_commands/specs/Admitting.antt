-- What is told of a policy that was judged.
use Rattle.std.specs.Prelude.{◌≡◌, ◌⊎◌, ℕ, List, Ok, Err}
use Rattle.gtrbac_model.specs.Safety.{IsSafe}
use Rattle.policy_words.specs.Naming.{NamedPolicy}
use Rattle.policy_commands.specs.declared.ends.End.{End}
use Rattle.policy_commands.specs.declared.judging.Admitted.{Admitted}
use Rattle.policy_commands.specs.declared.judging.Admitted.TheVariants.{Safe, Ended}
use Rattle.policy_commands.specs.Ends.{seen_end}
use Rattle.policy_commands.specs.Policies.{judged, safe_in, HasTextFault, IsUnsafeText}

-- the policy is not safe, and is told so
pub record IsUnsafeEnd (np : NamedPolicy) (end : End) : Type 0 where
  pub told : judged np ≡ Err (seen_end end)
  pub three : end.status ≡ 3
  pub unsafe : IsSafe np.policy.triggers → ⊥

abbrev pub IsJudged : NamedPolicy → Admitted → Type 0
IsJudged np (Safe s) = (s ≡ np) × (judged np ≡ Ok np)
IsJudged np (Ended end) = IsUnsafeEnd np end

-- the text has no safe policy: a fault with status 2, or a policy that is not safe with status 3
pub record IsEnded (text : List ℕ) (end : End) : Type 0 where
  pub told : safe_in text ≡ Err (seen_end end)
  pub cause : ((end.status ≡ 2) × HasTextFault text) ⊎ ((end.status ≡ 3) × IsUnsafeText text)

abbrev pub IsAdmitted : List ℕ → Admitted → Type 0
IsAdmitted text (Safe np) = safe_in text ≡ Ok np
IsAdmitted text (Ended end) = IsEnded text end
