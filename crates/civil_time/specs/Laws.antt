-- What holds of civil minutes and their texts.
use Rattle.std.specs.Prelude.{◌≡◌, ◌↔◌, ℕ, ◌≤◌, List, Some}
use Rattle.gt_base.specs.declared.limits.TheConstants.{LAST_MINUTE}
use Rattle.civil_time.specs.declared.civil.Civil.{Civil}
use Rattle.civil_time.specs.Minutes.{civil_at, StandsFor}
use Rattle.civil_time.specs.Text.{civil_text, civil_in, IsCivil}

-- the calendars of the model and those of jiff have the same dates, and each way there is just one
pub record MinutesMatch : Type 0 where
  pub stands : (t : ℕ) → t ≤ LAST_MINUTE → StandsFor t (civil_at t)
  pub one_civil : (t : ℕ) (c d : Civil) → StandsFor t c → StandsFor t d → c ≡ d
  pub one_instant : (t u : ℕ) (c : Civil) → StandsFor t c → StandsFor u c → t ≡ u
  pub one_text : (t u : ℕ) → t ≤ LAST_MINUTE → u ≤ LAST_MINUTE → civil_text t ≡ civil_text u → t ≡ u

-- reading by computing is reading by spelling
abbrev pub TextsAreRead : Type 0
TextsAreRead = (text : List ℕ) (t : ℕ) → (civil_in text ≡ Some t) ↔ IsCivil text t
