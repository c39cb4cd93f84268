-- The `==` of two claims is that of what they claim.
use Rattle.std.proofs.Common.{◌≡◌, Some, cond, Bool, ◌&&◌, List, [], ◌∷◌, ◌++◌, refl, ap}
use Rattle.std.specs.List.{list_any}
use Rattle.gtrbac_model.specs.Same.{lists}
use Rattle.policy_book.proofs.SameNames.{same_names, any_same}
use Rattle.policy_words.proofs.CapKinds.{same_kinds}
use Rattle.policy_words.specs.declared.claims.Claim.{Claim}
use Rattle.policy_words.specs.declared.claims.Claim.TheVariants as claims
use Rattle.policy_words.specs.Making.{with_new}
use Rattle.policy_words.specs.LinesTogether.{same_claim}
use Rattle.indexmap.specs.IndexSet.{insert_key}
use Rattle.policy_words.specs.contracts.claims.ClaimPartialEq.TheImpl.{eq-value}

-- what the derived `==` computes
abbrev pub claim_eq : Claim → Claim → Bool
claim_eq = (eq-value).it

pub same_claims : (a b : Claim) → claim_eq a b ≡ same_claim a b
same_claims (claims.Role n) (claims.Role m) = same_names n m
same_claims (claims.User n) (claims.User m) = same_names n m
same_claims (claims.Perm n) (claims.Perm m) = same_names n m
same_claims (claims.Period n) (claims.Period m) = same_names n m
same_claims (claims.Limit n) (claims.Limit m) = same_names n m
same_claims (claims.Edge s j) (claims.Edge s' j') = λ i. same_names s s' i && same_names j j' i
same_claims (claims.Cap k n) (claims.Cap l m) = λ i. same_kinds k l i && same_names n m i
same_claims (claims.Assigned s j) (claims.Assigned s' j') = λ i. same_names s s' i && same_names j j' i
same_claims (claims.Granted s j) (claims.Granted s' j') = λ i. same_names s s' i && same_names j j' i
same_claims _ _ = refl

pub found : (cs : List Claim) (c : Claim) → list_any (claim_eq c) cs ≡ lists same_claim cs c
found cs c = any_same _ _ (same_claims c) cs

pub pushed : (cs : List Claim) (c : Claim) → insert_key claim_eq cs c ≡ with_new same_claim (Some c) cs
pushed cs c = ap (λ b. cond b cs (cs ++ c ∷ [])) (found cs c)
