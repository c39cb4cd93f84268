-- Parts that go down, with one part more and with another unit.
use Rattle.std.proofs.Common.{◌≡◌, true, not, ◌&&◌, ◌||◌, List, [], ◌∷◌, ◌++◌, refl, is_some, ap, ◌∙◌}
use Rattle.std.proofs.lemmas.Bool.{and_parts, and_from, or_left}
use Rattle.gtrbac_model.specs.declared.calendars.Calendar.{Calendar}
use Rattle.gtrbac_model.specs.declared.calendars.Calendar.TheVariants.{Years, Months, Weeks, Days, Hours, Minutes}
use Rattle.gtrbac_model.specs.Period.{Part}
use Rattle.gtrbac_model.specs.Valid.{is_below, is_same, is_set, goes_down, from_all}
use Rattle.gtrbac_model.specs.Selects.{last_of, last_by}
use Rattle.gtrbac_model.proofs.Downward.{same_unit}
use Rattle.gtrbac_model.proofs.Downward.{lower}

pub same_itself : (c : Calendar) → is_same c c ≡ true
same_itself Years = refl
same_itself Months = refl
same_itself Weeks = refl
same_itself Days = refl
same_itself Hours = refl
same_itself Minutes = refl

down_from : (c : Calendar) (p : Part) (ps : List Part) (u : Calendar) → is_set p.set ≡ true → is_below c p.calendar ≡ true → goes_down p.calendar ps u ≡ true → goes_down c (p ∷ ps) u ≡ true
down_from c p ps u set below more =
    and_from (is_set p.set && is_below c p.calendar) (goes_down p.calendar ps u) (and_from (is_set p.set) (is_below c p.calendar) set below) more

-- the unit may go further down
down_to : (c : Calendar) (ps : List Part) (a u : Calendar) → goes_down c ps a ≡ true → is_same (last_of c ps) a ≡ true → (is_same a u || is_below a u) ≡ true → goes_down c ps u ≡ true
down_to c [] a u h last unit = rw (same_unit c a last) unit
down_to c (p ∷ ps) a u h last unit =
    let low = lower c p ps a h in
    down_from c p ps u low.set low.below (down_to p.calendar ps a u low.more last unit)

pub all_to : (ps : List Part) (a u : Calendar) → from_all ps a ≡ true → is_same (last_by ps) a ≡ true → (is_same a u || is_below a u) ≡ true → from_all ps u ≡ true
all_to [] a u h last unit = h
all_to (p ∷ ps) a u h last unit =
    let both = and_parts (not (is_some p.set)) (goes_down p.calendar ps a) h in
    and_from (not (is_some p.set)) (goes_down p.calendar ps u) both.0 (down_to p.calendar ps a u both.1 last unit)

-- one part more
down_more : (c : Calendar) (ps : List Part) (a : Calendar) (q : Part) → goes_down c ps a ≡ true → is_same (last_of c ps) a ≡ true → is_set q.set ≡ true → is_below a q.calendar ≡ true → goes_down c (ps ++ q ∷ []) q.calendar ≡ true
down_more c [] a q h last set below =
    down_from c q [] q.calendar set (ap (λ x. is_below x q.calendar) (same_unit c a last) ∙ below) (or_left (is_same q.calendar q.calendar) (is_below q.calendar q.calendar) (same_itself q.calendar))
down_more c (p ∷ ps) a q h last set below =
    let low = lower c p ps a h in
    down_from c p (ps ++ q ∷ []) q.calendar low.set low.below (down_more p.calendar ps a q low.more last set below)

pub all_more : (p : Part) (ps : List Part) (a : Calendar) (q : Part) → from_all (p ∷ ps) a ≡ true → is_same (last_by (p ∷ ps)) a ≡ true → is_set q.set ≡ true → is_below a q.calendar ≡ true → from_all (p ∷ ps ++ q ∷ []) q.calendar ≡ true
all_more p ps a q h last set below =
    let both = and_parts (not (is_some p.set)) (goes_down p.calendar ps a) h in
    and_from (not (is_some p.set)) (goes_down p.calendar (ps ++ q ∷ []) q.calendar) both.0 (down_more p.calendar ps a q both.1 last set below)

pub all_first : (q : Part) → not (is_some q.set) ≡ true → from_all (q ∷ []) q.calendar ≡ true
all_first q none =
    and_from (not (is_some q.set)) (goes_down q.calendar [] q.calendar) none (or_left (is_same q.calendar q.calendar) (is_below q.calendar q.calendar) (same_itself q.calendar))

last_more : (c : Calendar) (ps : List Part) (q : Part) → last_of c (ps ++ q ∷ []) ≡ q.calendar
last_more c [] q = refl
last_more c (p ∷ ps) q = last_more p.calendar ps q

pub last_by_more : (ps : List Part) (q : Part) → last_by (ps ++ q ∷ []) ≡ q.calendar
last_by_more [] q = refl
last_by_more (p ∷ ps) q = last_more p.calendar ps q
