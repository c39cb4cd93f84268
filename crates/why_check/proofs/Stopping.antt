-- The running state at a tick: the base of its stop, and the state after it.
use Rattle.std.proofs.Common.{◌≡◌, ℕ, suc, ◌+◌, ◌-◌, ◌<◌, ◌≤◌, Bool, true, false, cond, nat_eq, nat_le, nat_lt, ◌&&◌, ◌||◌, List, [], ◌∷◌, ◌++◌, length, flat_map, inl, inr, refl, sym, ◌∙◌, ap, subst, arith, length-append, append_assoc, if◌then◌else◌}
use Rattle.std.specs.List.{list_any}
use Rattle.std.specs.Ordering.{eq_by_cmp}
use Rattle.std.proofs.lemmas.Bool.{leb-true, eqb-true, eqb-false, eq-eqb, ne_eqb}
use Rattle.gt_base.specs.Held.{TriggerView}
use Rattle.gt_base.specs.Happening.{HappenedView, nothing}
use Rattle.gt_base.specs.Machines.{ticked}
use Rattle.gt_base.specs.Orders.{prioritised_cmp}
use Rattle.gt_base.specs.Sets.{has, set_of}
use Rattle.gt_base.specs.declared.events.Fluent.{Fluent}
use Rattle.gt_base.specs.declared.events.Prioritised.{Prioritised}
use Rattle.gt_base.specs.declared.events.Signal.{Signal}
use Rattle.gt_base.specs.declared.requests.Who.{Who}
use Rattle.gt_base.specs.declared.requests.Entry.{Entry}
use Rattle.gt_base.proofs.OrderLaws.{prioritised_cmp-IsAntisymmetric}
use Rattle.gt_base.proofs.SetLaws.{same_sets, has-set_of}
use Rattle.gt_base.proofs.SetSteps.{prioritised_cmp_total}
use Rattle.gt_base.specs.declared.limits.TheConstants.{LAST_MINUTE}
use Rattle.gtrbac_model.specs.Policy.{Policy}
use Rattle.gtrbac_model.specs.Base.{status, base_at, raised_at, signals_at, drops_at, table_at, periodic, limited, requested, when}
use Rattle.gtrbac_model.specs.Conflict.{Status, after}
use Rattle.gtrbac_model.specs.History.{Legal, AreLegalAfter, IsNextStop, stirs, is_some_item, now_of}
use Rattle.gtrbac_model.specs.Sessions.{Table, empty_table, close_minutes, drops}
use Rattle.gtrbac_model.specs.Status.{Model, since, differ, status_after}
use Rattle.gtrbac_model.specs.Trigger.{met}
use Rattle.gtrbac_model.specs.WholePolicy.{IsPolicy, has_cause}
use Rattle.gtrbac_model.proofs.Elements.{Elem, both_true, split, all_elim}
use Rattle.gtrbac_model.proofs.Playing.{now_snoc, goes_on, later_requests, tick_not_read, base_of_prefix}
use Rattle.history_laws.specs.Pending.{NothingBetween, pending, known_head}
use Rattle.history_laws.specs.Tables.{EndNothing}
use Rattle.history_laws.proofs.Charging.{quiet_closes}
use Rattle.history_laws.proofs.Continuing.{tables_go_on, queue_goes_on}
use Rattle.history_laws.proofs.Lasting.{steps_after, front_steps}
use Rattle.history_laws.proofs.OnItsWay.{stretch_stays, pending_is_raised, heads_after_tick}
use Rattle.history_laws.proofs.Quieting.{passed_are_quiet, unstirred}
use Rattle.history_laws.proofs.Reading.{Onward, legal_onward}
use Rattle.duration_limits.specs.Since.{since_in}
use Rattle.duration_limits.proofs.Steps.{by_steps}
use Rattle.session_table.specs.Stretches.{StretchCloses}
use Rattle.session_table.specs.Tables.{NotBefore, table_of, closed_at}
use Rattle.session_table.proofs.Closing.{stretches_close}
use Rattle.time_engine.proofs.Booleans.{any-append, is_false, clash}
use Rattle.time_engine.proofs.WaitingLaws.{table_later}
use Rattle.why_check.specs.Kept.{due_in, waiting_for, raised_in, base_in, table_in, joins_at, IsClosed}
use Rattle.why_check.specs.declared.replays.Replay.{Replay}
use Rattle.why_check.proofs.Replaying.{IsReplay}

abbrev any_of : Prioritised → List Prioritised → Bool
any_of e = list_any (eq_by_cmp prioritised_cmp e)

no_item : {A : Type 0} (xs : List A) → is_some_item xs ≡ false → xs ≡ []
no_item [] e = refl
no_item (x ∷ xs) e = cc

last_false : (a b c : Bool) → (a || b || c) ≡ false → c ≡ false
last_false false false c e = e
last_false true b c e = cc
last_false false true c e = cc

waiting_next : (now t : ℕ) (w : List Signal) → t ≡ now + 1 → waiting_for now w t ≡ w
waiting_next now t w at = λ i. if eq-eqb t (now + 1) at i then w else []

waiting_other : (now t : ℕ) (w : List Signal) → (t ≡ now + 1 → ⊥) → waiting_for now w t ≡ []
waiting_other now t w ne = λ i. if ne_eqb t (now + 1) ne i then w else []

-- the heads that one trigger has on their way to t after the stop, those before and the one that joins
module _ (p : Policy) (birth : ℕ) (m : Model) (now to t : ℕ) (e : Prioritised) (lt : now < to) (past : to < t) (before : Status) (st : status p birth m (to - 1) ≡ before) where
  one_joins : (r : TriggerView)
      → known_head p birth m to t r ≡ (if nat_lt 0 r.delay && nat_eq (t - r.delay) to then when (met r (m to) (status p birth m (to - 1))) r.head else known_head p birth m now t r)
      → (any_of e (known_head p birth m now t r) || any_of e (joins_at before (m to) to t r)) ≡ any_of e (known_head p birth m to t r)
  one_joins r heads = by (nat_lt 0 r.delay && nat_eq (t - r.delay) to) refl ∙ ap (any_of e) (sym heads)
    where
      u : ℕ
      u = t - r.delay

      at_now : u ≡ to → known_head p birth m now t r ≡ []
      at_now at = gone (nat_lt 0 r.delay && nat_lt birth u) (nat_le u now) (is_false (nat_le u now) (λ q. omega (arith, at, lt, leb-true u now q))) (when (met r (m u) (status p birth m (u - 1))) r.head)
        where
          gone : (a b : Bool) → b ≡ false → (ys : List Prioritised) → ◌≡◌ {A = List Prioritised} (if a && b then ys else []) []
          gone true b q ys = λ i. (if q i then ys else [])
          gone false b q ys = refl

      or_false : (b : Bool) → (b || false) ≡ b
      or_false true = refl
      or_false false = refl

      by : (b : Bool) → (nat_lt 0 r.delay && nat_eq u to) ≡ b
          → (any_of e (known_head p birth m now t r) || any_of e (joins_at before (m to) to t r)) ≡ any_of e (if b then when (met r (m to) (status p birth m (to - 1))) r.head else known_head p birth m now t r)
      by true q =
          let parts = both_true (nat_lt 0 r.delay) (nat_eq u to) q in
          let at : u ≡ to = eqb-true u to parts.1 in
          let due : to + r.delay ≡ t = omega (arith, at, past, lt) in
          (λ i. any_of e (at_now at i) || any_of e (when (parts.0 i && eq-eqb (to + r.delay) t due i && met r (m to) before) r.head))
          ∙ (λ i. any_of e (when (met r (m to) (sym st i)) r.head))
      by false q = ap (λ b. any_of e (known_head p birth m now t r) || any_of e (when b r.head)) none ∙ or_false (any_of e (known_head p birth m now t r))
        where
          none : (nat_lt 0 r.delay && nat_eq (to + r.delay) t && met r (m to) before) ≡ false
          none = is_false (nat_lt 0 r.delay && nat_eq (to + r.delay) t && met r (m to) before) (λ j.
              let parts = both_true (nat_lt 0 r.delay && nat_eq (to + r.delay) t) (met r (m to) before) j in
              let d = (both_true (nat_lt 0 r.delay) (nat_eq (to + r.delay) t) parts.0).0 in
              let due : to + r.delay ≡ t = eqb-true (to + r.delay) t (both_true (nat_lt 0 r.delay) (nat_eq (to + r.delay) t) parts.0).1 in
              clash (nat_lt 0 r.delay && nat_eq u to) (λ i. d i && eq-eqb u to (omega (arith, due)) i) q)

  all_join : (rules : List TriggerView)
      → ((r : TriggerView) → Elem rules r → (any_of e (known_head p birth m now t r) || any_of e (joins_at before (m to) to t r)) ≡ any_of e (known_head p birth m to t r))
      → (any_of e (flat_map (known_head p birth m now t) rules) || any_of e (flat_map (joins_at before (m to) to t) rules)) ≡ any_of e (flat_map (known_head p birth m to t) rules)
  all_join [] each = refl
  all_join (r ∷ rs) each =
      (λ i. any-append (eq_by_cmp prioritised_cmp e) (known_head p birth m now t r) (flat_map (known_head p birth m now t) rs) i
      || any-append (eq_by_cmp prioritised_cmp e) (joins_at before (m to) to t r) (flat_map (joins_at before (m to) to t) rs) i)
      ∙ cross (any_of e (known_head p birth m now t r)) (any_of e (flat_map (known_head p birth m now t) rs)) (any_of e (joins_at before (m to) to t r)) (any_of e (flat_map (joins_at before (m to) to t) rs))
      ∙ (λ i. each r (inl refl) i || all_join rs (λ q k. each q (inr k)) i)
      ∙ sym (any-append (eq_by_cmp prioritised_cmp e) (known_head p birth m to t r) (flat_map (known_head p birth m to t) rs))
    where
      cross : (a b c d : Bool) → ((a || b) || (c || d)) ≡ ((a || c) || (b || d))
      cross true b c d = refl
      cross false true true d = refl
      cross false true false true = refl
      cross false true false false = refl
      cross false false true true = refl
      cross false false true false = refl
      cross false false false d = refl

module _ (p : Policy) (is : IsPolicy p) (birth : ℕ) (m : Model) (g rest : List Entry) (who : Who) (upto to : ℕ) (legal : Legal p birth (g ++ ticked who upto to ∷ rest) m)
    (s : Replay) (r : IsReplay p birth g m s) where
  abbrev e : Entry
  e = ticked who upto to

  abbrev h : List Entry
  h = g ++ e ∷ rest

  steps : AreLegalAfter p birth m g (e ∷ rest)
  steps = steps_after p birth m [] g (e ∷ rest) legal.steps

  stop : IsNextStop (stirs p birth m g) (now_of birth g) upto to
  stop = steps.0

  pub first : birth ≤ now_of birth g
  first = goes_on p birth m [] g (front_steps p birth m [] g (e ∷ rest) legal.steps)

  pub later : s.present < to
  later = omega (arith, stop.later, r.now)

  born : birth ≤ s.present
  born = omega (arith, first, r.now)

  pub reached : to ≤ now_of birth h
  reached =
      let on : now_of birth (g ++ e ∷ []) ≤ now_of birth (g ++ e ∷ [] ++ rest) = goes_on p birth m (g ++ e ∷ []) rest steps.1 in
      omega (arith, on, now_snoc birth g e, ap (now_of birth) (append_assoc g (e ∷ []) rest))

  quiet : NothingBetween m s.present to
  quiet u a b = (passed_are_quiet p is birth g rest m who upto to legal u (omega (arith, a, r.now)) b).empty

  stays : (status p birth m (s.present + (to - 1 - s.present)) ≡ status p birth m s.present) × ((f : Fluent) → since p birth m f (s.present + (to - 1 - s.present)) ≡ since p birth m f s.present)
  stays = stretch_stays p birth m s.present (to - 1 - s.present) born (λ u a b. quiet u a (omega (arith, b, later)))

  before_is : s.present + (to - 1 - s.present) ≡ to - 1
  before_is = omega (arith, later)

  pub status_before : status p birth m (to - 1) ≡ has s.status.set
  status_before = ap (status p birth m) (sym before_is) ∙ stays.0 ∙ (λ i f. sym (r.status f) i)

  since_before : (λ f. since p birth m f (to - 1)) ≡ since_in s.ages
  since_before = λ i f. (ap (since p birth m f) (sym before_is) ∙ stays.1 f ∙ sym (r.since f)) i

  -- later entries are not read
  prefix_base : (t : ℕ) → t ≤ to → base_at p birth m h t ≡ base_at p birth m g t
  prefix_base t le =
      base_of_prefix p birth m g (e ∷ rest) t
      (later_requests p birth m (g ++ e ∷ []) rest t steps.1 (omega (arith, le, now_snoc birth g e)))
      (tick_not_read p birth (status p birth m) (t - 1) who upto to rest (omega (arith, le, later)) g birth empty_table)

  -- the minutes that the tick passes over have an empty base
  pub passed_base : (t : ℕ) → s.present < t → t < to → base_at p birth m h t ≡ nothing
  passed_base t a b = prefix_base t (omega (arith, b)) ∙ unstirred p birth m g t (stop.none_before t (omega (arith, a, r.now)) b)

  raised_is : raised_at p birth m g to ≡ (periodic p birth to ++ pending p birth m g to) ++ limited p (has s.status.set) (since_in s.ages) to
  raised_is =
      pending_is_raised p is birth g m to (λ u a b. quiet u (omega (arith, a, r.now)) b)
      ∙ (λ i. (periodic p birth to ++ pending p birth m g to) ++ limited p (status_before i) (since_before i) to)

  raised_listed : to ≤ LAST_MINUTE → (x : Prioritised) → any_of x (raised_at p birth m g to) ≡ any_of x (raised_in p s to)
  raised_listed within x =
      let ps : List Prioritised = periodic p birth to in
      let ls : List Prioritised = limited p (has s.status.set) (since_in s.ages) to in
      ap (any_of x) raised_is
      ∙ any-append (eq_by_cmp prioritised_cmp x) (ps ++ pending p birth m g to) ls
      ∙ ap (λ b. b || any_of x ls)
      (any-append (eq_by_cmp prioritised_cmp x) ps (pending p birth m g to) ∙ ap (λ b. any_of x ps || b) (sym (r.due to x later within)) ∙ sym (any-append (eq_by_cmp prioritised_cmp x) ps (due_in s to)))
      ∙ sym (any-append (eq_by_cmp prioritised_cmp x) (ps ++ due_in s to) ls)
      ∙ ap (λ b. any_of x ((periodic p b to ++ due_in s to) ++ ls)) (sym r.born)

  onward : Onward birth g
  onward = legal_onward p birth m [] g (front_steps p birth m [] g (e ∷ rest) legal.steps)

  table_now : table_at p birth m g (now_of birth g) ≡ table_in s
  table_now = sym (r.table ∙ ap (table_at p birth m g) r.now)

  -- the minutes before the stop end no activation
  ends_nothing : EndNothing p.edges p.caps (status p birth m) (now_of birth g) (to - now_of birth g - 1) (table_at p birth m g (now_of birth g))
  ends_nothing j lt =
      let u : ℕ = now_of birth g + suc j in
      let before : u < to = omega (arith, lt) in
      let none : drops_at p birth m g u ≡ [] =
      no_item (drops_at p birth m g u) (last_false (is_some_item (raised_at p birth m g u)) (is_some_item (signals_at p birth m g u)) (is_some_item (drops_at p birth m g u)) (stop.none_before u (omega arith) before)) in
      let so_many : u - 1 - now_of birth g ≡ j = omega arith in
      sym (ap (λ tb. drops p.edges p.caps (status p birth m u) u tb)
      (table_later p birth g m onward (u - 1) (omega arith)
      ∙ ap (λ k. close_minutes p.edges p.caps (status p birth m) (now_of birth g) k (table_at p birth m g (now_of birth g))) so_many))
      ∙ none

  signals_are : signals_at p birth m g to ≡ waiting_for s.present s.waiting.items to
  signals_are =
      split (nat_eq to (s.present + 1))
      (λ q.
      let at : to ≡ s.present + 1 = eqb-true to (s.present + 1) q in
      let before : to - 1 ≡ s.present = omega (arith, at) in
      ap (λ u. (table_at p birth m g u).signals) before ∙ ap (λ (t : Table). t.signals) (sym r.table) ∙ sym (waiting_next s.present to s.waiting.items at))
      (λ q.
      let apart : to ≡ s.present + 1 → ⊥ = eqb-false to (s.present + 1) q in
      let n : ℕ = now_of birth g in
      let some : 0 < to - 1 - n = omega (arith, stop.later, apart, r.now) in
      ap (λ (t : Table). t.signals) (table_later p birth g m onward (to - 1) (omega (arith, stop.later)))
      ∙ (quiet_closes p.edges p.caps (status p birth m) n (to - 1 - n) (table_at p birth m g n) (λ j lt. ends_nothing j (omega (arith, lt)))).signals some
      ∙ sym (waiting_other s.present to s.waiting.items apart))

  -- the base of the stop is the one that the state says
  pub base_is : to ≤ LAST_MINUTE → base_at p birth m h to ≡ base_in p s to
  base_is within =
      let events : set_of (raised_at p birth m g to) ≡ set_of {R = prioritised_cmp} (raised_in p s to) =
      same_sets prioritised_cmp_total prioritised_cmp-IsAntisymmetric _ _
      (λ x. has-set_of prioritised_cmp_total (raised_at p birth m g to) x ∙ raised_listed within x ∙ sym (has-set_of prioritised_cmp_total (raised_in p s to) x)) in
      prefix_base to (omega arith) ∙ (λ i. record { events = events i; signals = set_of (signals_are i) })

  module _ (s' : Replay) (x : HappenedView) (set : x ≡ m to) (c : IsClosed p s x to s') where
    status_to : (f : Fluent) → status p birth m to f ≡ after x (has s.status.set) f
    status_to f =
        let j : ℕ = to - 1 - birth in
        let here : to - birth ≡ suc j = omega (arith, later, born) in
        let at : birth + suc j ≡ to = omega (arith, later, born) in
        ap (λ q. status_after p birth m q f) here ∙ (λ i. after (m (at i)) (status_after p birth m j) f) ∙ (λ i. after (sym set i) (status_before i) f)

    status_same : (f : Fluent) → has s'.status.set f ≡ status p birth m to f
    status_same f = c.status f ∙ sym (status_to f)

    legal_front : Legal p birth (g ++ e ∷ []) m → Legal p birth (g ++ e ∷ []) m
    legal_front l = l

    stretch : StretchCloses p.edges p.caps (status p birth m) (now_of birth g) to (table_at p birth m g (now_of birth g))
    stretch = stretches_close p.edges p.caps (status p birth m) (now_of birth g) to (table_at p birth m g (now_of birth g)) stop.later ends_nothing

    table_to : Legal p birth (g ++ e ∷ []) m → table_at p birth m (g ++ e ∷ []) to ≡ closed_at p.edges p.caps (has s'.status.set) s.present to (table_of s.table)
    table_to l =
        (tables_go_on p birth m g).ticks who upto to l
        ∙ stretch.closes
        ∙ (λ i. closed_at p.edges p.caps (λ f. sym (status_same f) i) (sym r.now i) to (table_now i))

    due_same : (t : ℕ) (y : Prioritised) → to < t → t ≤ LAST_MINUTE → any_of y (due_in s' t) ≡ any_of y (pending p birth m (g ++ e ∷ []) t)
    due_same t y past within =
        let n : ℕ = now_of birth g in
        let old : List Prioritised = flat_map (known_head p birth m n t) p.triggers in
        let joins : List Prioritised = flat_map (joins_at (has s.status.set) (m to) to t) p.triggers in
        ap (any_of y) (c.due t within ∙ ap (λ (z : HappenedView). due_in s t ++ flat_map (joins_at (has s.status.set) z to t) p.triggers) set)
        ∙ any-append (eq_by_cmp prioritised_cmp y) (due_in s t) joins
        ∙ ap (λ b. b || any_of y joins) (r.due t y (omega (arith, past, later)) within ∙ any-append (eq_by_cmp prioritised_cmp y) (requested g t) old)
        ∙ or_assoc (any_of y (requested g t)) (any_of y old) (any_of y joins)
        ∙ ap (λ b. any_of y (requested g t) || b)
        (all_join p birth m n to t y stop.later past (has s.status.set) status_before p.triggers
        (λ q k. one_joins p birth m n to t y stop.later past (has s.status.set) status_before q
        (heads_after_tick p birth m n to t q (all_elim has_cause p.triggers q is.causes k) first stop.later (λ u a b. quiet u (omega (arith, a, r.now)) b))))
        ∙ sym (any-append (eq_by_cmp prioritised_cmp y) (requested g t) (flat_map (known_head p birth m to t) p.triggers))
        ∙ (λ i. any_of y (sym ((queue_goes_on g t).ticks who upto to) i ++ flat_map (known_head p birth m (sym (now_snoc birth g e) i) t) p.triggers))
      where
        or_assoc : (a b c : Bool) → ((a || b) || c) ≡ (a || (b || c))
        or_assoc true b c = refl
        or_assoc false b c = refl

    pub replay_ticked : Legal p birth (g ++ e ∷ []) m → IsReplay p birth (g ++ e ∷ []) m s'
    replay_ticked l = record {
      now = c.now ∙ sym (now_snoc birth g e);
      born = c.born ∙ r.born;
      status = λ f. status_same f ∙ ap (λ t. status p birth m t f) (sym c.now);
      since = λ f.
          c.since f
          ∙ (λ i. cond (differ (status_same f i) (sym status_before i f)) to (since_in s.ages f))
          ∙ ap (λ q. cond (differ (status p birth m to f) (status p birth m (to - 1) f)) to q) (r.since f ∙ sym (stays.1 f) ∙ ap (since p birth m f) before_is)
          ∙ sym ((by_steps p birth m).follows f to (omega (arith, later, born)))
          ∙ ap (since p birth m f) (sym c.now);
      due = λ t y past within. due_same t y (omega (arith, past, c.now)) within;
      table = c.table ∙ sym (table_to l) ∙ ap (table_at p birth m (g ++ e ∷ [])) (sym c.now);
      charged = subst (λ o. NotBefore o s'.present) (sym c.charged) (omega (arith, c.now));
      few = omega (arith, ap (λ (t : Table). t.begun) c.table, r.few, one_more g);
    }
      where
        one_more : (g : List Entry) → length (g ++ e ∷ []) ≡ length g + 1
        one_more g = length-append g (e ∷ [])
