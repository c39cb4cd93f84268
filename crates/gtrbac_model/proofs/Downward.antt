-- Parts that go down to a unit.
use Rattle.std.proofs.Common.{◌≡◌, true, ◌&&◌, ◌||◌, List, [], ◌∷◌, refl}
use Rattle.std.proofs.lemmas.Bool.{false≢true, and_parts}
use Rattle.gtrbac_model.specs.declared.calendars.Calendar.{Calendar}
use Rattle.gtrbac_model.specs.declared.calendars.Calendar.TheVariants.{Years, Months, Weeks, Days, Hours, Minutes}
use Rattle.gtrbac_model.specs.Period.{Part}
use Rattle.gtrbac_model.specs.Valid.{is_set, is_same, is_below, goes_down}
use Rattle.gtrbac_model.specs.Selects.{last_of}

pub same_unit : (c u : Calendar) → is_same c u ≡ true → c ≡ u
same_unit Years Years h = refl
same_unit Months Months h = refl
same_unit Weeks Weeks h = refl
same_unit Days Days h = refl
same_unit Hours Hours h = refl
same_unit Minutes Minutes h = refl
same_unit _ _ h = absurd (false≢true h)

pub record Lower (above : Calendar) (p : Part) (ps : List Part) (unit : Calendar) : Type 0 where
  pub set : is_set p.set ≡ true
  pub below : is_below above p.calendar ≡ true
  pub more : goes_down p.calendar ps unit ≡ true

pub lower : (above : Calendar) (p : Part) (ps : List Part) (unit : Calendar) → goes_down above (p ∷ ps) unit ≡ true → Lower above p ps unit
lower above p ps unit h =
    let a = and_parts (is_set p.set && is_below above p.calendar) (goes_down p.calendar ps unit) h in
    let b = and_parts (is_set p.set) (is_below above p.calendar) a.0 in
    record { set = b.0; below = b.1; more = a.1 }

pub goes_to_unit : (c : Calendar) (ps : List Part) (u : Calendar) → goes_down c ps u ≡ true → (is_same (last_of c ps) u || is_below (last_of c ps) u) ≡ true
goes_to_unit c [] u h = h
goes_to_unit c (p ∷ ps) u h = goes_to_unit p.calendar ps u (lower c p ps u h).more
