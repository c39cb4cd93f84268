-- A fluent of which nothing raises an event stays as at the birth.
use Rattle.std.proofs.Common.{◌≡◌, ◌≢◌, ℕ, zero, suc, ◌+◌, ◌-◌, ◌≤◌, Bool, true, false, ◌&&◌, ◌||◌, inl, inr, List, [], ◌∷◌, ◌++◌, flat_map, None, refl, sym, ◌∙◌, ap, subst, arith, not, nat_eq, nat_lt, if◌then◌else◌}
use Rattle.std.specs.List.{list_any}
use Rattle.gt_base.specs.Happening.{HappenedView, nothing}
use Rattle.gt_base.specs.Held.{TriggerView}
use Rattle.gt_base.specs.Machines.{ticked}
use Rattle.gt_base.specs.Orders.{prioritised_cmp}
use Rattle.gt_base.specs.Sets.{has}
use Rattle.gt_base.specs.declared.events.Event.{Event}
use Rattle.gt_base.specs.declared.events.Fluent.{Fluent}
use Rattle.gt_base.specs.declared.events.Prioritised.{Prioritised}
use Rattle.gt_base.specs.declared.policies.Form.{Form}
use Rattle.gt_base.specs.declared.policies.Form.TheVariants.{Each, Start, Span}
use Rattle.gt_base.specs.declared.policies.LimitRule.{LimitRule}
use Rattle.gt_base.specs.declared.policies.PeriodicEntry.{PeriodicEntry}
use Rattle.gt_base.specs.declared.requests.Entry.{Entry}
use Rattle.gt_base.specs.declared.requests.Reply.{Reply}
use Rattle.gt_base.specs.declared.requests.Reply.TheVariants.{Queued}
use Rattle.gt_base.specs.declared.requests.Request.{Request}
use Rattle.gt_base.specs.declared.requests.Request.TheVariants.{Raise}
use Rattle.gt_base.specs.declared.requests.Step.{Step}
use Rattle.gt_base.specs.declared.requests.Step.TheVariants.{Tick, Ask}
use Rattle.gt_base.proofs.OrderLaws.{fluent_cmp-IsAntisymmetric, prioritised_cmp-IsAntisymmetric}
use Rattle.gt_base.proofs.SetLaws.{has-none}
use Rattle.gt_base.proofs.SetSteps.{fluent_cmp_total, prioritised_cmp_total}
use Rattle.gtrbac_model.specs.Base.{status, base_at, raised_at, raised_by, period_test, turned, when, queued_at, queued_by, requested, delayed, limited, limited_from, periodic, is_ripe}
use Rattle.gtrbac_model.specs.Conflict.{Status, after, turns_off, turns_on}
use Rattle.gtrbac_model.specs.History.{IsExecutionModel, now_of}
use Rattle.gtrbac_model.specs.Instant.{Settled}
use Rattle.gtrbac_model.specs.Period.{Period, inside, starts}
use Rattle.gtrbac_model.specs.Policy.{Policy}
use Rattle.gtrbac_model.specs.Safety.{IsSafe, is_node}
use Rattle.gtrbac_model.specs.Same.{same_event, same_fluent}
use Rattle.gtrbac_model.specs.Status.{Model, status_after, status_at, since}
use Rattle.gtrbac_model.specs.Trigger.{immediate, met}
use Rattle.gtrbac_model.specs.WholePolicy.{IsPolicy}
use Rattle.gtrbac_model.proofs.Elements.{Elem, any_elim, any_intro, both_true, elem_of_set_of, split, tied}
use Rattle.gtrbac_model.proofs.Levels.{are_levels, by_trigger}
use Rattle.gtrbac_model.proofs.Playing.{now_snoc}
use Rattle.gtrbac_model.proofs.Uniqueness.{In, Goes, after_alike, in_order, is_same_event, only_base_along}
use Rattle.history_laws.proofs.Members.{clash, of_join}
use Rattle.history_laws.proofs.Quieting.{quiet_settles}
use Rattle.walk_laws.proofs.Climbing.{safe_is_levelled}
use Rattle.forecast.specs.Ahead.{HasOneAhead, IsFirstChange, nobody_asks, to_horizon}
use Rattle.forecast.specs.Raised.{asked_by, asks_for, in_entries, in_history, in_limits, in_triggers, is_raised}
use Rattle.forecast.proofs.Existing.{ahead_is_one}

none_pass : {A : Type 0} (test : A → Bool) (xs : List A) → list_any test xs ≡ false → (x : A) → Elem xs x → test x ≡ false
none_pass test xs none x m = split (test x) (λ y. absurd (clash (list_any test xs) (any_intro test xs x m y) none)) (λ n. n)

both_false : (a b : Bool) → (a || b) ≡ false → (a ≡ false) × (b ≡ false)
both_false true b e = cc
both_false false b e = (refl, e)

module _ (f : Fluent) where
  other : (a : Fluent) → same_fluent a f ≡ false → a ≢ f
  other a apart is = clash (same_fluent a f) (tied fluent_cmp_total fluent_cmp-IsAntisymmetric a f is) apart

  -- no event of the list is of the fluent
  abbrev Spares : List Prioritised → Type 0
  Spares xs = (o : Prioritised) → Elem xs o → o.event.fluent ≢ f

  spares_none : Spares []
  spares_none o m = elim m [ ]

  spares_join : (xs ys : List Prioritised) → Spares xs → Spares ys → Spares (xs ++ ys)
  spares_join xs ys a b o m = elim (of_join xs ys o m) [ inl k ↦ a o k | inr k ↦ b o k ]

  spares_when : (b : Bool) (e : Prioritised) → e.event.fluent ≢ f → Spares (when b e)
  spares_when true e apart o (inl is) = λ of_f. apart (ap (λ (x : Prioritised). x.event.fluent) (sym is) ∙ of_f)
  spares_when true e apart o (inr m) = elim m [ ]
  spares_when false e apart o m = elim m [ ]

  spares_if : (b : Bool) (xs : List Prioritised) → Spares xs → Spares (if b then xs else [])
  spares_if true xs a = a
  spares_if false xs a = spares_none

  spares_each : {A : Type 0} (g : A → List Prioritised) (xs : List A) → ((x : A) → Elem xs x → Spares (g x)) → Spares (flat_map g xs)
  spares_each g [] each = spares_none
  spares_each g (x ∷ xs) each = spares_join (g x) (flat_map g xs) (each x (inl refl)) (spares_each g xs (λ y m. each y (inr m)))

  of_form : (periods : List Period) (birth t : ℕ) (e : PeriodicEntry) → e.head.event.fluent ≢ f → (k : Form) → Spares (raised_by periods birth t (record e { form = k }))
  of_form periods birth t e apart Each = spares_when (period_test inside periods e.period t) e.head apart
  of_form periods birth t e apart Start = spares_when (period_test starts periods e.period t) e.head apart
  of_form periods birth t e apart Span =
      let is_in : ℕ → Bool = period_test inside periods e.period in
      spares_join (when (is_in t && (nat_eq t (birth + 1) || not (is_in (t - 1)))) e.head) (when (is_in (t - 1) && not (is_in t)) (turned e.head))
      (spares_when (is_in t && (nat_eq t (birth + 1) || not (is_in (t - 1)))) e.head apart) (spares_when (is_in (t - 1) && not (is_in t)) (turned e.head) apart)

  of_entry : (periods : List Period) (birth t : ℕ) (e : PeriodicEntry) → e.head.event.fluent ≢ f → Spares (raised_by periods birth t e)
  of_entry periods birth t e apart = of_form periods birth t e apart e.form

  of_reply : (t : ℕ) (request : Request) (reply : Reply) → asks_for f request ≡ false → Spares (queued_at t request reply)
  of_reply t (Raise head delay) (Queued due) none = spares_when _ head (other head.event.fluent none)
  of_reply t _ _ none = spares_none

  of_step : (t : ℕ) (w : Step) → asked_by f w ≡ false → Spares (queued_by t w)
  of_step t (Tick upto to) none = spares_none
  of_step t (Ask actor request reply) none = of_reply t request reply none

  of_limits : (periods : List Period) (before : Status) (ages : Fluent → ℕ) (n : ℕ) (ls : List LimitRule) (t : ℕ) → in_limits f ls ≡ false → Spares (limited_from periods before ages n ls t)
  of_limits periods before ages n [] t none = spares_none
  of_limits periods before ages n (l ∷ ls) t none =
      let parts = both_false (same_fluent l.cond.fluent f) (in_limits f ls) none in
      spares_join _ (limited_from periods before ages (n + 1) ls t) (spares_when (is_ripe periods before ages n l t) _ (other l.cond.fluent parts.0)) (of_limits periods before ages (n + 1) ls t parts.1)

  module _ (p : Policy) (birth : ℕ) (h : List Entry) (m : Model) (unraised : is_raised p h f ≡ false) where
    own : (in_entries f p.entries || in_triggers f p.triggers || in_limits f p.limits) ≡ false
    own = (both_false (in_entries f p.entries || in_triggers f p.triggers || in_limits f p.limits) (in_history f h) unraised).0

    no_request : in_history f h ≡ false
    no_request = (both_false (in_entries f p.entries || in_triggers f p.triggers || in_limits f p.limits) (in_history f h) unraised).1

    heads : (in_entries f p.entries || in_triggers f p.triggers) ≡ false
    heads = (both_false (in_entries f p.entries || in_triggers f p.triggers) (in_limits f p.limits) own).0

    no_limit : in_limits f p.limits ≡ false
    no_limit = (both_false (in_entries f p.entries || in_triggers f p.triggers) (in_limits f p.limits) own).1

    no_entry : in_entries f p.entries ≡ false
    no_entry = (both_false (in_entries f p.entries) (in_triggers f p.triggers) heads).0

    no_trigger : in_triggers f p.triggers ≡ false
    no_trigger = (both_false (in_entries f p.entries) (in_triggers f p.triggers) heads).1

    head_of_none : (r : TriggerView) → Elem p.triggers r → r.head.event.fluent ≢ f
    head_of_none r at = other r.head.event.fluent (none_pass (λ q. same_fluent q.head.event.fluent f) p.triggers no_trigger r at)

    -- nothing that is raised at an instant is of the fluent
    raised_spares : (t : ℕ) → Spares (raised_at p birth m h t)
    raised_spares t =
        let late : TriggerView → List Prioritised = λ r. if nat_lt 0 r.delay && nat_lt birth (t - r.delay) then when (met r (m (t - r.delay)) (status p birth m (t - r.delay - 1))) r.head else [] in
        spares_join (periodic p birth t ++ requested h t ++ delayed p birth m t) (limited p (status p birth m (t - 1)) (λ g. since p birth m g (t - 1)) t)
        (spares_join (periodic p birth t ++ requested h t) (delayed p birth m t)
        (spares_join (periodic p birth t) (requested h t)
        (spares_each (raised_by p.periods birth t) p.entries (λ e at. of_entry p.periods birth t e (other e.head.event.fluent (none_pass (λ q. same_fluent q.head.event.fluent f) p.entries no_entry e at))))
        (spares_each (λ e. queued_by t e.what) h (λ e at. of_step t e.what (none_pass (λ q. asked_by f q.what) h no_request e at))))
        (spares_each late p.triggers
        (λ r at. spares_if (nat_lt 0 r.delay && nat_lt birth (t - r.delay)) (when (met r (m (t - r.delay)) (status p birth m (t - r.delay - 1))) r.head) (spares_when (met r (m (t - r.delay)) (status p birth m (t - r.delay - 1))) r.head (head_of_none r at)))))
        (of_limits p.periods (status p birth m (t - 1)) (λ g. since p birth m g (t - 1)) 0 p.limits t no_limit)

    not_node : (e : Event) → e.fluent ≡ f → is_node p.triggers e ≡ false
    not_node e of_f =
        split (is_node p.triggers e)
        (λ y.
        let (r, at, t) = any_elim (λ r. immediate r && same_event r.head.event e) p.triggers y in
        absurd (head_of_none r at (ap (λ (x : Event). x.fluent) (is_same_event r.head.event e (both_true (immediate r) (same_event r.head.event e) t).1) ∙ of_f)))
        (λ n. n)

    module _ (level : Event → ℕ) (levelled : are_levels p.triggers level ≡ true) (is : IsPolicy p) where
      -- so no settled set has an event of it
      none_in : (t : ℕ) (s : Status) (x : HappenedView) → Settled p.triggers (base_at p birth m h t) s x → (o : Prioritised) → o.event.fluent ≡ f → In x o → ⊥
      none_in t s x settled o of_f there =
          let base : HappenedView = base_at p birth m h t in
          let at_base : In base o =
          only_base_along p.triggers base s level levelled x [] settled.order settled.grounding.grounds o (in_order p.triggers base s level levelled x settled o there) (not_node o.event of_f) in
          raised_spares t o (elem_of_set_of prioritised_cmp_total prioritised_cmp-IsAntisymmetric (raised_at p birth m h t) o at_base) of_f

      none_here : (e : Event) (x : HappenedView) → Goes nothing x e
      none_here e x o at there = absurd (clash (has nothing.events o) there (has-none prioritised_cmp o))

      stays_after : (t : ℕ) (s : Status) (x : HappenedView) → Settled p.triggers (base_at p birth m h t) s x → after x s f ≡ s f
      stays_after t s x settled =
          after_alike x nothing s f
          ((λ o at there. absurd (none_in t s x settled o (ap (λ (e : Event). e.fluent) at) there)), none_here (turns_on f) x)
          ((λ o at there. absurd (none_in t s x settled o (ap (λ (e : Event). e.fluent) at) there)), none_here (turns_off f) x)
          ∙ (λ i. (quiet_settles p is s).stays i f)

      module _ (model : IsExecutionModel p birth h m) where
        as_opened : (k : ℕ) → birth + k ≤ now_of birth h → status_after p birth m k f ≡ has p.opening f
        as_opened zero le = refl
        as_opened (suc k) le =
            stays_after (birth + suc k) (status_after p birth m k) (m (birth + suc k))
            (subst (λ (s : Status). Settled p.triggers (base_at p birth m h (birth + suc k)) s (m (birth + suc k))) (ap (status_after p birth m) (before birth k)) (model (birth + suc k) (omega arith) le))
            ∙ as_opened k (omega (arith, le))
          where
            before : (b k : ℕ) → b + suc k - 1 - b ≡ k
            before b k = omega arith

        -- and it is as at the birth all the way
        pub is_opening : (t : ℕ) → birth ≤ t → t ≤ now_of birth h → status_at p birth m t f ≡ has p.opening f
        is_opening t lo hi = as_opened (t - birth) (omega (arith, lo, hi))

spares_tick : (f : Fluent) (h : List Entry) (upto : ℕ) → in_history f h ≡ false → in_history f (to_horizon h upto) ≡ false
spares_tick f [] upto none = refl
spares_tick f (e ∷ h) upto none =
    let parts = both_false (asked_by f e.what) (in_history f h) none in
    (λ i. parts.0 i || in_history f (to_horizon h upto)) ∙ spares_tick f h upto parts.1

or_last : (a b c : Bool) → (b ≡ false → c ≡ false) → (a || b) ≡ false → (a || c) ≡ false
or_last true b c on h = cc
or_last false b c on h = on h

-- it does not change in what lies ahead
pub unraised_stays : (p : Policy) → IsSafe p.triggers → IsPolicy p → (birth : ℕ) (h : List Entry) (f : Fluent) (upto : ℕ) → birth ≤ now_of birth h → now_of birth h ≤ upto
    → is_raised p h f ≡ false → IsFirstChange p birth h f upto None
unraised_stays p safe is birth h f upto born le unraised =
    let one : HasOneAhead p birth h upto = ahead_is_one p safe birth h upto in
    let levels = safe_is_levelled p.triggers safe in
    let further : is_raised p (to_horizon h upto) f ≡ false =
    or_last (in_entries f p.entries || in_triggers f p.triggers || in_limits f p.limits) (in_history f h) (in_history f (to_horizon h upto)) (spares_tick f h upto) unraised in
    let end : now_of birth (to_horizon h upto) ≡ upto = now_snoc birth h (ticked nobody_asks upto upto) in
    let opening : (t : ℕ) → birth ≤ t → t ≤ upto → status_at p birth one.model t f ≡ has p.opening f =
    λ t lo hi. is_opening f p birth (to_horizon h upto) one.model further levels.0 (by_trigger p.triggers levels.0 levels.1) is one.ahead t lo (omega (arith, hi, end)) in
    record {
      model = one.model;
      ahead = one.ahead;
      first = λ t lo hi. opening t (omega (arith, lo, born)) hi ∙ sym (opening (now_of birth h) born le);
    }
