-- The policy of a text, or the text of its fault.
use Rattle.std.specs.Prelude.{◌≡◌, ℕ, Bool, true, false, List, Ok, Err}
use Rattle.gt_text.specs.Lines.{lines_of}
use Rattle.policy_words.specs.Sayings.{SaidView}
use Rattle.policy_words.specs.declared.versions.TextVersion.TheVariants.{Open}
use Rattle.policy_words.specs.Reading.{Numbered, read_lines}
use Rattle.policy_words.specs.PolicyRead.{PolicyFault, policy_read, fault_text}
use Rattle.policy_book.specs.declared.faults.BookFault.{BookFault}
use Rattle.policy_book.specs.declared.faults.BookFault.TheVariants.{Unknown, Twice, TooMany, HierarchyCycle, Memory}
use Rattle.policy_book.specs.Faults.{IsFault}
use Rattle.policy_text.specs.declared.policies.PolicyText.{PolicyText}
use Rattle.policy_text.specs.declared.policies.PolicyText.TheVariants.{Policy, Fault}

-- the bytes have this fault, told so
pub record IsToldFault (text told : List ℕ) : Type 0 where
  pub fault : PolicyFault
  pub is : policy_read text ≡ Err fault
  pub told_so : told ≡ fault_text fault

abbrev pub IsPolicyText : List ℕ → PolicyText → Type 0
IsPolicyText text (Policy np) = policy_read text ≡ Ok np
IsPolicyText text (Fault told) = IsToldFault text told.items

abbrev pub is_want : BookFault → Bool
is_want (Unknown n) = false
is_want (Twice n) = false
is_want (TooMany n k) = false
is_want (HierarchyCycle es names) = false
is_want Memory = true

-- a fault of what the lines of the text say together
pub record IsBookFault (text : List ℕ) (f : BookFault) : Type 0 where
  pub said : List (Numbered SaidView)
  pub read : read_lines Open 1 (lines_of text) ≡ Ok said
  pub is_fault : IsFault said f
