-- Instants as words.
use Rattle.std.proofs.Common.{◌≡◌, ◌≢◌, ℕ, ◌≤◌, List, Option, Some, None, refl, sym}
use Rattle.std.specs.Prelude.{IfSome, IfNone}
use Rattle.gt_base.specs.declared.limits.TheConstants.{LAST_MINUTE}
use Rattle.civil_time.specs.Text.{civil_in, civil_text, IsCivil}
use Rattle.civil_time.proofs.Texts.{texts_are_read}

pub civil_reads : (text : List ℕ) (r : Option ℕ) → IfSome r (IsCivil text) → IfNone r ((t : ℕ) → t ≤ LAST_MINUTE → text ≢ civil_text t) → r ≡ civil_in text
civil_reads text (Some t) some none = sym ((texts_are_read text t).1 some)
civil_reads text None some none = sym (by (civil_in text) refl)
  where
    by : (x : Option ℕ) → civil_in text ≡ x → civil_in text ≡ None
    by None e = e
    by (Some t) e = let is = (texts_are_read text t).0 e in absurd (none t is.0 is.1)
