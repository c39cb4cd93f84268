-- What an instant that stirs costs over a made policy: a signal, a dropped activation, or another hour.
use Rattle.std.proofs.Common.{◌≡◌, ◌⊎◌, inl, inr, ℕ, zero, suc, ◌+◌, ◌-◌, ◌/◌, ◌≤◌, ◌<◌, Bool, true, false, not, nat_eq, nat_lt, ◌&&◌, ◌||◌, List, [], ◌∷◌, ◌++◌, map, flat_map, length, refl, sym, ap, ◌∙◌, arith, if◌then◌else◌}
use Rattle.std.specs.List.{range_with_len}
use Rattle.std.proofs.lemmas.Bool.{eqb-true, eqb-false, le-leb, false≢true}
use Rattle.gt_base.specs.declared.events.Prioritised.{Prioritised}
use Rattle.gt_base.specs.declared.requests.Entry.{Entry}
use Rattle.gt_base.specs.declared.limits.TheConstants.{LAST_MINUTE}
use Rattle.gtrbac_model.proofs.Elements.{split}
use Rattle.gtrbac_model.specs.Trigger.{met}
use Rattle.gtrbac_model.specs.Calendar.{minute_of}
use Rattle.gtrbac_model.specs.Period.{inside, begun_within}
use Rattle.gtrbac_model.specs.Policy.{Policy}
use Rattle.gtrbac_model.specs.Status.{Model}
use Rattle.gtrbac_model.specs.Sessions.{Table, drops, signal_of, close_minutes, empty_table}
use Rattle.gtrbac_model.specs.Base.{when, turned, raised_by, periodic, requested, delayed, raised_at, signals_at, drops_at, table_at, status}
use Rattle.gtrbac_model.specs.History.{is_some_item, stirs, now_of}
use Rattle.history_laws.proofs.Reading.{Onward, whole, read_whole}
use Rattle.gen_laws.specs.Made.{office_hours, first_on, at_fifty, passed_both, policy_of_made}

-- hours of all times
abbrev pub hours : ℕ → ℕ
hours t = minute_of t / 60

-- within the hours or not, before or after, and perhaps the first minute of all
changes : {A : Type 0} (a b c : Bool) (x y : A) → is_some_item (when (a && (c || not b)) x ++ when (b && not a) y) ≡ true → (c ≡ true) ⊎ (a ≡ b → ⊥)
changes true true true x y h = inl refl
changes true true false x y h = cc
changes true false c x y h = inr (λ e. cc)
changes false true c x y h = inr (λ e. cc)
changes false false c x y h = cc

-- within an hour the policy's hours do not change
same_hour : (t : ℕ) → 1 ≤ t → t ≤ LAST_MINUTE → hours t ≡ hours (t - 1) → inside office_hours t ≡ inside office_hours (t - 1)
same_hour t low le same =
    (λ i. ((le-leb 0 t (omega arith) i && le-leb t LAST_MINUTE le i) && begun_within office_hours.expr 8 (same i)))
    ∙ sym (λ i. ((le-leb 0 (t - 1) (omega arith) i && le-leb (t - 1) LAST_MINUTE (omega (arith, le)) i) && begun_within office_hours.expr 8 (hours (t - 1))))

pub hours_rise : (t u : ℕ) → t ≤ u → hours t ≤ hours u
hours_rise t u le = omega (arith, le)

some_left : {A : Type 0} (xs ys : List A) → ys ≡ [] → is_some_item (xs ++ ys) ≡ true → is_some_item xs ≡ true
some_left [] ys none h = sym (ap is_some_item none) ∙ h
some_left (x ∷ xs) ys none h = refl

some_length : {A : Type 0} (xs : List A) → is_some_item xs ≡ true → 1 ≤ length xs
some_length [] h = cc
some_length (x ∷ xs) h = omega arith

some_mapped : {A B : Type 0} (f : A → B) (xs : List A) → is_some_item (map f xs) ≡ is_some_item xs
some_mapped f [] = refl
some_mapped f (x ∷ xs) = refl

three : (a b c : Bool) → (a || b || c) ≡ true → (a ≡ true) ⊎ (b ≡ true) ⊎ (c ≡ true)
three true b c h = inl refl
three false true c h = inr (inl refl)
three false false c h = inr (inr h)

third_false : (a b c : Bool) → (a || b || c) ≡ false → c ≡ false
third_false false false c h = h
third_false true b c h = cc
third_false false true c h = cc

module _ (k birth : ℕ) (m : Model) where
  abbrev p : Policy
  p = policy_of_made k

  not_delayed : (t a n : ℕ) → flat_map (λ r. if nat_lt 0 r.delay && nat_lt birth (t - r.delay) then when (met r (m (t - r.delay)) (status p birth m (t - r.delay - 1))) r.head else []) (flat_map passed_both (range_with_len a n)) ≡ []
  not_delayed t a zero = refl
  not_delayed t a (suc n) = not_delayed t (a + 1) n

  -- an instant that raises something is the first after the birth, or begins an hour
  raising : (g : List Entry) (t : ℕ) → 1 ≤ t → t ≤ LAST_MINUTE → requested g t ≡ [] → is_some_item (raised_at p birth m g t) ≡ true → (t ≡ birth + 1) ⊎ (hours (t - 1) + 1 ≤ hours t)
  raising g t low le none h =
      let entries : List Prioritised = periodic p birth t in
      let no_limits : is_some_item (entries ++ requested g t ++ delayed p birth m t) ≡ true = some_left (entries ++ requested g t ++ delayed p birth m t) [] refl h in
      let no_delays : is_some_item (entries ++ requested g t) ≡ true = some_left (entries ++ requested g t) (delayed p birth m t) (not_delayed t 0 (k - 1)) no_limits in
      let by_entries : is_some_item entries ≡ true = some_left entries (requested g t) none no_delays in
      elim (changes (inside office_hours t) (inside office_hours (t - 1)) (nat_eq t (birth + 1)) (at_fifty true 0) (turned (at_fifty true 0)) (some_left (raised_by (office_hours ∷ []) birth t first_on) [] refl by_entries)) [
        | inl first ↦ inl (eqb-true t (birth + 1) first)
        | inr differ ↦
            split (nat_eq (hours t) (hours (t - 1))) (λ q. absurd (differ (same_hour t low le (eqb-true (hours t) (hours (t - 1)) q))))
            (λ q. let apart : hours t ≡ hours (t - 1) → ⊥ = eqb-false (hours t) (hours (t - 1)) q in inr (omega (arith, apart, hours_rise (t - 1) t (omega arith))))
      ]

  module _ (g : List Entry) (on : Onward birth g) where
    abbrev now : ℕ
    now = now_of birth g

    abbrev tb : Table
    tb = whole p.edges p.caps (status p birth m) birth empty_table g

    abbrev closed : ℕ → Table
    closed j = close_minutes p.edges p.caps (status p birth m) now j tb

    table_on : (j t : ℕ) → t ≡ now + j → table_at p birth m g t ≡ closed j
    table_on j t is =
        read_whole p.edges p.caps (status p birth m) t g birth empty_table on (omega (arith, is))
        ∙ ap (λ i. closed i) (so_many t now j is)
      where
        so_many : (t n j : ℕ) → t ≡ n + j → t - n ≡ j
        so_many t n j is = omega (arith, is)

    drops_are : (j : ℕ) → drops_at p birth m g (now + suc j) ≡ drops p.edges p.caps (status p birth m (now + suc j)) (now + suc j) (closed j)
    drops_are j = ap (λ (b : Table). drops p.edges p.caps (status p birth m (now + suc j)) (now + suc j) b) (table_on j (now + suc j - 1) (omega arith))

    told : (j : ℕ) → is_some_item (closed (suc j)).signals ≡ is_some_item (drops_at p birth m g (now + suc j))
    told j = some_mapped (signal_of false) (drops p.edges p.caps (status p birth m (now + suc j)) (now + suc j) (closed j)) ∙ ap (λ xs. is_some_item xs) (sym (drops_are j))

    -- signals of a later instant stand in the table, since no minute before it leaves any
    signals_there : (j : ℕ) → ((t : ℕ) → now < t → t < now + suc j → stirs p birth m g t ≡ false) → is_some_item (signals_at p birth m g (now + suc j)) ≡ true → 1 ≤ length tb.signals
    signals_there zero before h = some_length tb.signals (ap (λ (b : Table). is_some_item b.signals) (sym (table_on 0 (now + suc zero - 1) (omega arith))) ∙ h)
    signals_there (suc i) before h =
        let left : is_some_item (closed (suc i)).signals ≡ true = ap (λ (b : Table). is_some_item b.signals) (sym (table_on (suc i) (now + suc (suc i) - 1) (omega arith))) ∙ h in
        let none : is_some_item (drops_at p birth m g (now + suc i)) ≡ false =
        third_false (is_some_item (raised_at p birth m g (now + suc i))) (is_some_item (signals_at p birth m g (now + suc i))) _ (before (now + suc i) (omega arith) (omega arith)) in
        absurd (false≢true (sym none ∙ sym (told i) ∙ left))

    -- where the first later instant that stirs is this one
    pub pays : (j : ℕ) → now + suc j ≤ LAST_MINUTE → requested g (now + suc j) ≡ [] → ((t : ℕ) → now < t → t < now + suc j → stirs p birth m g t ≡ false) → stirs p birth m g (now + suc j) ≡ true
        → (1 ≤ length tb.signals) ⊎ (1 ≤ length (closed (suc j)).signals) ⊎ (now + suc j ≡ birth + 1) ⊎ (hours now + 1 ≤ hours (now + suc j))
    pays j le none before h =
        elim (three (is_some_item (raised_at p birth m g (now + suc j))) (is_some_item (signals_at p birth m g (now + suc j))) (is_some_item (drops_at p birth m g (now + suc j))) h) [
          | inl raised ↦
              elim (raising g (now + suc j) (omega arith) le none raised) [
                | inl first ↦ inr (inr (inl first))
                | inr hour ↦ inr (inr (inr (omega (arith, hour, hours_rise now (now + suc j - 1) (omega arith)))))
              ]
          | inr (inl signalled) ↦ inl (signals_there j before signalled)
          | inr (inr dropped) ↦ inr (inl (some_length (closed (suc j)).signals (told j ∙ dropped)))
        ]
