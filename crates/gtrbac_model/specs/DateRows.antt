-- Worked rows of the calendar.
use Rattle.std.specs.Prelude.{◌≡◌, true, false, [], ◌∷◌, Some, None}
use Rattle.gtrbac_model.specs.declared.calendars.Calendar.TheVariants.{Years, Months, Weeks, Days, Hours}
use Rattle.gtrbac_model.specs.Period.{Expr, Period, inside, starts}

abbrev pub of : Expr → Period
of e = record { first = 0; last = 52_595_999; expr = e }

-- `all.Years + {3,7}.Months > 2.Months`
abbrev pub spring : Period
spring = of (record {
  parts = record { calendar = Years; set = None }
      ∷ record { calendar = Months; set = Some (3 ∷ 7 ∷ []) } ∷ [];
  count = 2;
  unit = Months;
})

-- `all.Weeks + {6}.Days + {1}.Hours`
abbrev pub saturdays : Period
saturdays = of (record {
  parts = record { calendar = Weeks; set = None }
      ∷ record { calendar = Days; set = Some (6 ∷ []) }
      ∷ record { calendar = Hours; set = Some (1 ∷ []) } ∷ [];
  count = 1;
  unit = Hours;
})

-- `all.Years + {2}.Months + {29}.Days > 1000.Days`
abbrev pub leap_days : Period
leap_days = of (record {
  parts = record { calendar = Years; set = None }
      ∷ record { calendar = Months; set = Some (2 ∷ []) }
      ∷ record { calendar = Days; set = Some (29 ∷ []) } ∷ [];
  count = 1000;
  unit = Days;
})

-- `all.Days + {9}.Hours > 8.Hours` from noon on: the begin at 08:00 lies before the bound
abbrev pub from_noon : Period
from_noon = record {
  first = 13_682_160;
  last = 52_595_999;
  expr = record {
    parts = record { calendar = Days; set = None }
        ∷ record { calendar = Hours; set = Some (9 ∷ []) } ∷ [];
    count = 8;
    unit = Hours;
  };
}

pub record AreDateRows : Type 0 where
  pub in_april : inside spring 13_848_479 ≡ true
  pub not_in_may : inside spring 13_848_480 ≡ false
  pub july : starts spring 13_936_320 ≡ true
  pub instant_0_starts : starts saturdays 0 ≡ true
  pub in_at_59 : inside saturdays 59 ≡ true
  pub not_at_60 : inside saturdays 60 ≡ false
  pub next_saturday : starts saturdays 10_080 ≡ true
  pub inside_still : inside leap_days 52_017_119 ≡ true
  pub inside_no_more : inside leap_days 52_017_120 ≡ false
  pub inside_at_noon : inside from_noon 13_682_160 ≡ true
  pub no_start_at_noon : starts from_noon 13_682_160 ≡ false
