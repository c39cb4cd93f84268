-- Periodic times: where an expression begins, and what a period has inside.
use Rattle.std.specs.Prelude.{◌≡◌, ℕ, zero, suc, ◌+◌, ◌-◌, ◌≤◌, ◌<◌, Bool, true, false, ◌&&◌, ◌||◌, nat_eq, nat_le, List, [], ◌∷◌, Option, Some, None, IsTrue, refl}
use Rattle.std.specs.List.{list_any}
use Rattle.std.specs.Coded.{Coded, code_by, coded×, coded_ℕ, coded_list, coded_option}
use Rattle.gtrbac_model.specs.declared.calendars.Calendar.{Calendar}
use Rattle.gtrbac_model.specs.contracts.calendars.Calendar as calendar
use Rattle.gtrbac_model.specs.Calendar.{minute_of, first_minute, interval_of, number_within}

-- the intervals of a calendar, or those with these numbers
pub record Part : Type 0 where
  pub calendar : Calendar
  pub set : Option (List ℕ)

-- `PART + PART + .. > COUNT.UNIT`, whose first part takes all
pub record Expr : Type 0 where
  pub parts : List Part
  pub count : ℕ
  pub unit : Calendar

pub record Period : Type 0 where
  pub first : ℕ
  pub last : ℕ
  pub expr : Expr

abbrev pub part_code : Coded Part
part_code = code_by (Calendar × Option (List ℕ))
    (coded× calendar.the_row.coded (coded_option (coded_list coded_ℕ))) (λ p. (p.calendar, p.set))
    (λ p. record { calendar = p.0; set = p.1 }) (λ _. refl)

abbrev pub expr_code : Coded Expr
expr_code =
    code_by (List Part × (ℕ × Calendar))
    (coded× (coded_list part_code) (coded× coded_ℕ calendar.the_row.coded))
    (λ e. (e.parts, (e.count, e.unit)))
    (λ (ps, (n, c)). record { parts = ps; count = n; unit = c }) (λ _. refl)

abbrev pub period_code : Coded Period
period_code =
    code_by (ℕ × (ℕ × Expr)) (coded× coded_ℕ (coded× coded_ℕ expr_code))
    (λ p. (p.first, (p.last, p.expr))) (λ (f, (l, e)). record { first = f; last = l; expr = e })
    (λ _. refl)

abbrev pub picks : Option (List ℕ) → ℕ → Bool
picks None n = true
picks (Some ns) n = list_any (nat_eq n) ns

-- each further part picks the number of its interval at the minute, within the interval of the part
-- before
abbrev pub selects : Calendar → List Part → ℕ → Bool
selects c [] m = nat_eq (first_minute c (interval_of c m)) m
selects c (p ∷ ps) m = picks p.set (number_within c p.calendar m) && selects p.calendar ps m

-- the minute is the first of a selected interval of the last part
abbrev pub begins_by : List Part → ℕ → Bool
begins_by [] m = false
begins_by (p ∷ ps) m = selects p.calendar ps m

abbrev pub begins : Expr → ℕ → Bool
begins e m = begins_by e.parts m

abbrev pub in_bounds : Period → ℕ → Bool
in_bounds p t = nat_le p.first t && nat_le t p.last

abbrev pub starts : Period → ℕ → Bool
starts p t = in_bounds p t && begins p.expr (minute_of t)

-- whether one of the n intervals of the calendar up to number k begins where the expression does
abbrev pub begun_within : Expr → ℕ → ℕ → Bool
begun_within e zero k = false
begun_within e (suc n) k = begins e (first_minute e.unit k) || begun_within e n (k - 1)

-- the minute is among the COUNT intervals of UNIT that begin with some begin
abbrev pub inside : Period → ℕ → Bool
inside p t = in_bounds p t && begun_within p.expr p.expr.count
    (interval_of p.expr.unit (minute_of t))

-- the same by intervals alone, as a relation

-- interval j of the inner calendar is number n of those in interval i of the outer
pub record IsNumber (outer : Calendar) (i : ℕ) (inner : Calendar) (n j : ℕ) : Type 0 where
  pub first : ℕ
  pub aligned : first_minute inner first ≡ first_minute outer i
  pub counted : j + 1 ≡ first + n
  pub positive : 1 ≤ n
  pub below : first_minute inner j < first_minute outer (i + 1)

-- from interval i of the calendar the parts lead to one that begins at the minute
abbrev pub LeadsTo : Calendar → ℕ → List Part → ℕ → Type 0
LeadsTo c i [] m = first_minute c i ≡ m
LeadsTo c i (p ∷ ps) m = (n : ℕ) × (j : ℕ) × IsTrue (picks p.set n) × IsNumber c i p.calendar n j
    × LeadsTo p.calendar j ps m

abbrev pub BeginBy : List Part → ℕ → Type 0
BeginBy [] m = ⊥
BeginBy (p ∷ ps) m = (i : ℕ) × LeadsTo p.calendar i ps m

abbrev pub Begin : Expr → ℕ → Type 0
Begin e m = BeginBy e.parts m

-- the first minute after the COUNT intervals of UNIT of which the first begins at s
abbrev pub End : Expr → ℕ → ℕ → Type 0
End e s m = (k : ℕ) × (first_minute e.unit k ≡ s) × (first_minute e.unit (k + e.count) ≡ m)

abbrev pub In : Period → ℕ → Type 0
In p t = IsTrue (in_bounds p t) × ((s : ℕ) × (m : ℕ) × Begin p.expr s × End p.expr s m
    × (s ≤ minute_of t) × (minute_of t < m))
