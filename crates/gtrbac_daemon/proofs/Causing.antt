-- What a text that was found, and a text that was written, say of a status.
use Rattle.std.proofs.Common.{◌≡◌, ◌⊎◌, ℕ, Bool, true, false, List, Option, Some, None, inl, inr, refl, sym, ap, subst, ◌∙◌, eq-eqb, eqb-true}
use Rattle.std.specs.Prelude.{◌==◌, if◌then◌else◌, IfSome, IsSomeAnd}
use Rattle.gt_io.specs.Causes.{Rose}
use Rattle.gt_io.specs.Shelf.{Contents}
use Rattle.policy_commands.specs.Ends.{EndView}
use Rattle.policy_commands.specs.Finding.{IsLongPolicy}
use Rattle.gtrbac_daemon.specs.Words.{HasText}
use Rattle.gtrbac_daemon.specs.Runs.{or_failed, IsWritten}

-- a number is not two
pub apart : (s m n : ℕ) → (m == n) ≡ false → s ≡ m → s ≡ n → ⊥
apart s m n d a b = let t : (m == n) ≡ true = eq-eqb m n (sym a ∙ b) in let no : true ≡ false = sym t ∙ d in absurd (cc no)

pub status_in : (t u : EndView) → t ≡ u → t.status ≡ u.status
status_in t u e = ap (λ (x : EndView). x.status) e

failed_by : (c : Bool) (due : ℕ) → (due == 8) ≡ c → (or_failed due ≡ due) ⊎ (or_failed due ≡ 5)
failed_by true due e = inl (ap (λ (b : Bool). if b then 8 else 5) e ∙ sym (eqb-true due 8 e))
failed_by false due e = inr (ap (λ (b : Bool). if b then 8 else 5) e)

pub written_says : (due : ℕ) (text : List ℕ) (s : ℕ) (old new : Option (List ℕ)) (before now : ℕ) → IsWritten due text s old new before now → (s ≡ due) ⊎ ((s ≡ 5) × Rose before now)
written_says due text s old new before now (inl h) = inl h.0
written_says due text s old new before now (inr h) = elim (failed_by (due == 8) due refl) [ inl e ↦ inl (h.0 ∙ e) | inr e ↦ inr (h.0 ∙ e, h.1) ]

-- want of memory is told also where the output failed
pub eight_says : (due : ℕ) (text : List ℕ) (s : ℕ) (old new : Option (List ℕ)) (before now : ℕ) → IsWritten due text s old new before now → due ≡ 8 → s ≡ 8
eight_says due text s old new before now (inl h) e = h.0 ∙ e
eight_says due text s old new before now (inr h) e = h.0 ∙ ap or_failed e

-- the text of a name, where the shelf tells it
pub text_told : (n : List ℕ) (o : Contents) (text : List ℕ) (Holds : List ℕ → Type 0) → IfSome o (λ text_of. text_of n ≡ Some text) → Holds text → HasText (Some n) o Holds
text_told n None text Holds found h = tt
text_told n (Some text_of) text Holds found h = subst (λ (t : Option (List ℕ)). IsSomeAnd t Holds) (sym found) h

pub long_told : (n : List ℕ) (o : Contents) → IfSome o (λ text_of. IsSomeAnd (text_of n) IsLongPolicy) → HasText (Some n) o IsLongPolicy
long_told n None far = tt
long_told n (Some text_of) far = far
