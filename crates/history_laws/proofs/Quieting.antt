-- Over an empty base nothing but the empty set is grounded, so quiet minutes change nothing.
use Rattle.std.proofs.Common.{◌≡◌, ℕ, suc, ◌+◌, ◌-◌, ◌<◌, ◌≤◌, Bool, true, false, ◌&&◌, ◌||◌, inl, inr, List, [], ◌∷◌, ◌++◌, refl, sym, ◌∙◌, ap, subst, arith, append_assoc, if◌then◌else◌}
use Rattle.std.specs.List.{list_all}
use Rattle.gt_base.specs.Held.{TriggerView}
use Rattle.gt_base.specs.Happening.{HappenedView, nothing}
use Rattle.gt_base.specs.Sets.{members, has, none, set_of}
use Rattle.gt_base.specs.Machines.{ticked}
use Rattle.gt_base.specs.declared.events.Event.{Event}
use Rattle.gt_base.specs.declared.events.Signal.{Signal}
use Rattle.gt_base.specs.declared.events.Prioritised.{Prioritised}
use Rattle.gt_base.specs.declared.requests.Entry.{Entry}
use Rattle.gtrbac_model.specs.Policy.{Policy}
use Rattle.gtrbac_model.specs.Conflict.{Status, after}
use Rattle.gtrbac_model.specs.Trigger.{met, immediate}
use Rattle.gtrbac_model.specs.Same.{same_prioritised}
use Rattle.gtrbac_model.specs.Instant.{Settled, supported, stands, grounded_after}
use Rattle.gtrbac_model.specs.Status.{Model, status_after, changed_by, differ}
use Rattle.gtrbac_model.specs.Sessions.{empty_table}
use Rattle.gtrbac_model.specs.Base.{status, base_at, raised_at, signals_at, drops_at}
use Rattle.gtrbac_model.specs.History.{AreLegalAfter, stirs, is_some_item, now_of}
use Rattle.gtrbac_model.proofs.Elements.{both_true, either_true, any_elim, all_elim}
use Rattle.gtrbac_model.proofs.Meeting.{parts_met}
use Rattle.gtrbac_model.proofs.Quiet as quiet
use Rattle.gtrbac_model.proofs.Playing.{now_snoc, goes_on, later_requests, tick_not_read, base_of_prefix}
use Rattle.gtrbac_model.specs.WholePolicy.{has_cause}
use Rattle.history_laws.specs.Policies.{SettlesNothing, QuietSettles, IsQuiet, EmptyIsQuiet, PassedAreQuiet}
use Rattle.history_laws.proofs.Lasting.{steps_after, front_steps}

-- nothing stands before the first
no_event : (x : HappenedView) (es : List Event) → list_all (stands x []) es ≡ true → is_some_item es ≡ false
no_event x [] h = refl
no_event x (e ∷ es) h = cc

no_signal : (ss : List Signal) → list_all (has nothing.signals) ss ≡ true → is_some_item ss ≡ false
unfolding has none
no_signal [] h = refl
no_signal (s ∷ ss) h = cc

last_two : (a b c d : Bool) → (a && b && c && d) ≡ true → (c ≡ true) × (d ≡ true)
last_two true true true d e = (refl, e)
last_two true true false d e = cc
last_two true false c d e = cc
last_two false b c d e = cc

neither : (a b : Bool) → a ≡ false → b ≡ false → (a || b) ≡ true → ⊥
neither false false p q e = cc
neither true b p q e = cc
neither false true p q e = cc

module _ (rules : List TriggerView) (causes : list_all has_cause rules ≡ true) (s : Status) where
  -- no event is supported by nothing
  unsupported : (x : HappenedView) → x.signals ≡ nothing.signals → (e : Prioritised) → supported rules nothing s x [] e ≡ true → ⊥
  unfolding has none
  unsupported x silent e h =
      elim (either_true (has nothing.events e) _ h) [
        | inl there ↦ cc
        | inr k ↦
            let (r, of_rules, fires) = any_elim (λ r. immediate r && same_prioritised r.head e && met r x s && list_all (stands x []) r.events) rules k in
            let (is_met, all_stand) = last_two (immediate r) (same_prioritised r.head e) (met r x s) (list_all (stands x []) r.events) fires in
            neither (is_some_item r.events) (is_some_item r.signals) (no_event x r.events all_stand)
            (no_signal r.signals (ap (λ z. list_all (has z) r.signals) (sym silent) ∙ (parts_met r x s is_met).signals))
            (all_elim has_cause rules r causes of_rules)
      ]

  no_order : (x : HappenedView) → x.signals ≡ nothing.signals → (order : List Prioritised) → grounded_after rules nothing s x [] order ≡ true → order ≡ []
  no_order x silent [] h = refl
  no_order x silent (e ∷ es) h = absurd (unsupported x silent e (both_true _ _ h).0)

  only_nothing : (x : HappenedView) → Settled rules nothing s x → x ≡ nothing
  only_nothing x is =
      let events : x.events ≡ nothing.events = is.grounding.lists ∙ ap set_of (no_order x is.signals is.order is.grounding.grounds) in
      λ i. record { events = events i; signals = is.signals i }

  pub settles_nothing : SettlesNothing rules s
  unfolding members none
  settles_nothing = record { settled = quiet.quiet_settles rules s causes; only = only_nothing; stays = refl }

pub quiet_settles : QuietSettles
quiet_settles p is s = settles_nothing p.triggers is.causes s

not_differ : (b : Bool) → differ b b ≡ false
not_differ true = refl
not_differ false = refl

-- where nothing happens, no fluent changes
pub quiet_at : (p : Policy) (birth : ℕ) (m : Model) (t : ℕ) → birth < t → m t ≡ nothing → IsQuiet p birth m t
unfolding members none
quiet_at p birth m t after_birth empty =
    let k : ℕ = t - 1 - birth in
    let is : t - birth ≡ suc k = omega (arith, after_birth) in
    let there : birth + suc k ≡ t = omega (arith, after_birth) in
    let same : status_after p birth m (suc k) ≡ status_after p birth m k = λ i. after ((ap m there ∙ empty) i) (status_after p birth m k) in
    record {
      empty = empty;
      status_stays = ap (status_after p birth m) is ∙ same;
      since_stays = λ f.
          let still : differ (status_after p birth m (suc k) f) (status_after p birth m k f) ≡ false = ap (λ (s : Status). differ (s f) (status_after p birth m k f)) same ∙ not_differ (status_after p birth m k f) in
          ap (changed_by p birth m f) is ∙ (λ i. if still i then birth + suc k else changed_by p birth m f k);
    }

pub empty_is_quiet : EmptyIsQuiet
empty_is_quiet p is birth h m of_m t after_birth le empty =
    quiet_at p birth m t after_birth
    ((quiet_settles p is (status p birth m (t - 1))).only (m t) (subst (λ b. Settled p.triggers b (status p birth m (t - 1)) (m t)) empty (of_m t after_birth le)))

no_item : {A : Type 0} (xs : List A) → is_some_item xs ≡ false → xs ≡ []
no_item [] e = refl
no_item (x ∷ xs) e = cc

first_two : (a b c : Bool) → (a || b || c) ≡ false → (a ≡ false) × (b ≡ false)
first_two false false c e = (refl, refl)
first_two true b c e = cc
first_two false true c e = cc

-- where an instant does not stir its base is empty
pub unstirred : (p : Policy) (birth : ℕ) (m : Model) (g : List Entry) (t : ℕ) → stirs p birth m g t ≡ false → base_at p birth m g t ≡ nothing
unstirred p birth m g t h =
    let (raised, signalled) = first_two (is_some_item (raised_at p birth m g t)) (is_some_item (signals_at p birth m g t)) (is_some_item (drops_at p birth m g t)) h in
    let no_events = no_item (raised_at p birth m g t) raised in
    let no_signals = no_item (signals_at p birth m g t) signalled in
    λ i. record { events = set_of (no_events i); signals = set_of (no_signals i) }

pub passed_are_quiet : PassedAreQuiet
passed_are_quiet p is birth g rest m who upto to legal t after_now lt =
    let steps : AreLegalAfter p birth m g (ticked who upto to ∷ rest) = steps_after p birth m [] g (ticked who upto to ∷ rest) legal.steps in
    let first : birth ≤ now_of birth g = goes_on p birth m [] g (front_steps p birth m [] g (ticked who upto to ∷ rest) legal.steps) in
    let at_to : now_of birth (g ++ ticked who upto to ∷ []) ≡ to = now_snoc birth g (ticked who upto to) in
    let on : now_of birth (g ++ ticked who upto to ∷ []) ≤ now_of birth (g ++ ticked who upto to ∷ [] ++ rest) = goes_on p birth m (g ++ ticked who upto to ∷ []) rest steps.1 in
    let whole : now_of birth (g ++ ticked who upto to ∷ [] ++ rest) ≡ now_of birth (g ++ ticked who upto to ∷ rest) = ap (now_of birth) (append_assoc g (ticked who upto to ∷ []) rest) in
    let base : base_at p birth m (g ++ ticked who upto to ∷ rest) t ≡ base_at p birth m g t =
    base_of_prefix p birth m g (ticked who upto to ∷ rest) t (later_requests p birth m (g ++ ticked who upto to ∷ []) rest t steps.1 (omega (arith, lt, at_to)))
    (tick_not_read p birth (status p birth m) (t - 1) who upto to rest (omega (arith, lt)) g birth empty_table) in
    empty_is_quiet p is birth (g ++ ticked who upto to ∷ rest) m legal.model t (omega (arith, first, after_now)) (omega (arith, lt, at_to, on, whole))
    (base ∙ unstirred p birth m g t (steps.0.none_before t after_now lt))
