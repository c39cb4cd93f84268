-- The sets of an expression are sets.
use Rattle.std.proofs.Common.{◌≡◌, true, not, List, [], ◌∷◌, is_some, refl}
use Rattle.std.proofs.lemmas.Bool.{and_parts, and_from}
use Rattle.gtrbac_model.specs.declared.calendars.Calendar.{Calendar}
use Rattle.gtrbac_model.specs.Period.{Part, Expr}
use Rattle.gtrbac_model.specs.Valid.{is_set, goes_down, from_all, is_expr}
use Rattle.calendar_laws.proofs.Begins.{valid}
use Rattle.gtrbac_model.proofs.Downward.{lower}
use Rattle.calendar_match.specs.Steps.{are_sets}

sets_down : (c : Calendar) (ps : List Part) (u : Calendar) → goes_down c ps u ≡ true → are_sets ps ≡ true
sets_down c [] u h = refl
sets_down c (p ∷ ps) u h =
    let low = lower c p ps u h in
    and_from (is_set p.set) (are_sets ps) low.set (sets_down p.calendar ps u low.more)

sets_from : (ps : List Part) (p : Part) (more : List Part) (u : Calendar) → ps ≡ p ∷ more → from_all ps u ≡ true → are_sets more ≡ true
sets_from ps p more u e h =
    sets_down p.calendar more u (and_parts (not (is_some p.set)) (goes_down p.calendar more u) (rw e at h)).1

-- those of the parts after the first
pub sets_of : (e : Expr) (p : Part) (more : List Part) → is_expr e ≡ true → e.parts ≡ p ∷ more → are_sets more ≡ true
sets_of e p more h parts = sets_from e.parts p more e.unit parts (valid e h).parts
