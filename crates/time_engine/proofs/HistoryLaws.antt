-- A timeline that follows a history: its bases, and what steps do.
use Rattle.std.proofs.Common.{◌≡◌, ℕ, suc, ◌+◌, ◌-◌, ◌<◌, ◌≤◌, Bool, true, false, cond, not, nat_eq, nat_le, nat_lt, ◌&&◌, ◌||◌, List, [], ◌∷◌, ◌++◌, flat_map, inl, inr, refl, sym, ◌∙◌, ap, subst, arith, if◌then◌else◌}
use Rattle.std.specs.List.{list_any}
use Rattle.std.specs.Ordering.{eq_by_cmp}
use Rattle.std.proofs.lemmas.Bool.{ltb-true, ltb-false, leb-true, leb-false, eqb-true, eqb-false, eq-eqb, ne_eqb}
use Rattle.gt_base.specs.Held.{TriggerView}
use Rattle.gt_base.specs.Happening.{HappenedView, nothing}
use Rattle.gt_base.specs.Machines.{ticked, asked}
use Rattle.gt_base.specs.Orders.{prioritised_cmp, signal_cmp}
use Rattle.gt_base.specs.Sets.{SetOf, has, none, members, set_of}
use Rattle.gt_base.specs.declared.events.Fluent.{Fluent}
use Rattle.gt_base.specs.declared.events.Prioritised.{Prioritised}
use Rattle.gt_base.specs.declared.events.Signal.{Signal}
use Rattle.gt_base.specs.declared.requests.Request.TheVariants.{Raise}
use Rattle.gt_base.specs.declared.requests.Reply.TheVariants.{Queued}
use Rattle.gt_base.specs.declared.requests.Entry.{Entry}
use Rattle.gt_base.proofs.OrderLaws.{prioritised_cmp-IsAntisymmetric, signal_cmp-IsAntisymmetric}
use Rattle.gt_base.proofs.SetLaws.{same_sets, has-members, has-none, has-set_of, has-with_member}
use Rattle.gt_base.proofs.SetSteps.{prioritised_cmp_total, signal_cmp_total}
use Rattle.gt_base.specs.declared.limits.TheConstants.{LAST_MINUTE}
use Rattle.gtrbac_model.specs.Policy.{Policy}
use Rattle.gtrbac_model.specs.Base.{status, base_at, raised_at, signals_at, drops_at, periodic, limited, requested, when}
use Rattle.gtrbac_model.specs.Conflict.{after}
use Rattle.gtrbac_model.specs.History.{stirs, is_some_item, now_of}
use Rattle.gtrbac_model.specs.Instant.{Settled}
use Rattle.gtrbac_model.specs.Status.{Model, since, differ, status_after}
use Rattle.gtrbac_model.specs.Trigger.{met}
use Rattle.gtrbac_model.proofs.Append.{append-nil}
use Rattle.gtrbac_model.proofs.Elements.{tied, left_true, split, all_elim}
use Rattle.gtrbac_model.proofs.OneModel.{Agree, status_same, since_same}
use Rattle.gtrbac_model.proofs.Playing.{now_snoc}
use Rattle.history_laws.specs.Pending.{NothingBetween, pending, known_head}
use Rattle.gtrbac_model.specs.WholePolicy.{IsPolicy, has_cause}
use Rattle.history_laws.specs.Ticking.{with_set}
use Rattle.history_laws.proofs.AddingOne.{tick_adds_one_set}
use Rattle.history_laws.proofs.Continuing.{queue_goes_on}
use Rattle.history_laws.proofs.OnItsWay.{stretch_stays, pending_is_raised, pending_after_ask, heads_after_tick}
use Rattle.delay_agenda.specs.Due.{pending_cmp, pending_at, is_due_at}
use Rattle.delay_agenda.proofs.DueLaws.{tied_at}
use Rattle.delay_agenda.proofs.PendingLaws.{pending_cmp_total}
use Rattle.duration_limits.proofs.Steps.{by_steps}
use Rattle.instant_bases.specs.Timelines.{TimelineView, base_in, raised_in, signals_in, due_events, since_of, stirs_in, ClosedSet}
use Rattle.time_engine.specs.Histories.{Follows, BornFollows, BaseFollows, RaisedFollows, CloseIsLegal, CloseFollows, AskKeepsFollowing}
use Rattle.time_engine.specs.Plans.{joins}
use Rattle.time_engine.specs.Traces.{model_of, is_something, traced, AreClosedBy}
use Rattle.time_engine.proofs.Booleans.{any-append, both, is_false}
use Rattle.time_engine.proofs.DueEvents.{due_listed}
use Rattle.time_engine.proofs.FollowSteps.{known_same, one_joins, all_join}
use Rattle.time_engine.proofs.SignalSets.{some_any}
use Rattle.time_engine.proofs.TraceLaws.{model_past, model_before, model_there}

-- lists with the same items have one together
same_some : {K : Type 0} (eq : K → K → Bool) (xs ys : List K) → ((x : K) → eq x x ≡ true) → ((x : K) → list_any (eq x) xs ≡ list_any (eq x) ys) → is_some_item xs ≡ is_some_item ys
same_some {K} eq xs ys itself same = both (is_some_item xs) (is_some_item ys) (way xs ys same) (way ys xs (λ x. sym (same x)))
  where
    way : (ks ls : List K) → ((x : K) → list_any (eq x) ks ≡ list_any (eq x) ls) → is_some_item ks ≡ true → is_some_item ls ≡ true
    way [] ls h e = cc
    way (k ∷ ks) ls h e = some_any (eq k) ls (sym (h k) ∙ left_true (eq k k) _ (itself k))

itself_e : (e : Prioritised) → eq_by_cmp prioritised_cmp e e ≡ true
itself_e e = tied prioritised_cmp_total prioritised_cmp-IsAntisymmetric e e refl

itself_x : (x : Signal) → eq_by_cmp signal_cmp x x ≡ true
itself_x x = tied signal_cmp_total signal_cmp-IsAntisymmetric x x refl

module _ (p : Policy) (is : IsPolicy p) (birth : ℕ) (h : List Entry) (m : Model) (v : TimelineView) (f : Follows p birth h m v) (t : ℕ)
    (born : birth ≤ v.now) (later : v.now < t) (within : t ≤ LAST_MINUTE) (quiet : NothingBetween m v.now t) where
  abbrev k : ℕ
  k = t - 1 - v.now

  before_is : v.now + k ≡ t - 1
  before_is = omega (arith, later)

  quiet_k : NothingBetween m v.now (v.now + k + 1)
  quiet_k u a b = quiet u a (omega (arith, b, before_is, later))

  stays : (status p birth m (v.now + k) ≡ status p birth m v.now) × ((g : Fluent) → since p birth m g (v.now + k) ≡ since p birth m g v.now)
  stays = stretch_stays p birth m v.now k born quiet_k

  pub status_before : status p birth m (t - 1) ≡ has v.status
  status_before = ap (status p birth m) (sym before_is) ∙ stays.0 ∙ (λ i g. sym (f.status g) i)

  since_before : (λ g. since p birth m g (t - 1)) ≡ since_of v
  since_before = λ i g. (ap (since p birth m g) (sym before_is) ∙ stays.1 g ∙ sym (f.since g)) i

  raised_is : raised_at p birth m h t ≡ (periodic p v.birth t ++ pending p birth m h t) ++ limited p (has v.status) (since_of v) t
  raised_is =
      let quiet_h : NothingBetween m (now_of birth h) t = subst (λ n. NothingBetween m n t) f.now quiet in
      pending_is_raised p is birth h m t quiet_h
      ∙ (λ i. (periodic p (sym f.born i) t ++ pending p birth m h t) ++ limited p (status_before i) (since_before i) t)

  pending_listed : (e : Prioritised) → list_any (eq_by_cmp prioritised_cmp e) (pending p birth m h t) ≡ list_any (eq_by_cmp prioritised_cmp e) (due_events v.pending t)
  pending_listed e = sym (f.pending t e later within) ∙ sym (due_listed v.pending t e)

  raised_listed : (e : Prioritised) → list_any (eq_by_cmp prioritised_cmp e) (raised_at p birth m h t) ≡ list_any (eq_by_cmp prioritised_cmp e) (raised_in p v t)
  raised_listed e =
      let any : List Prioritised → Bool = list_any (eq_by_cmp prioritised_cmp e) in
      let ps : List Prioritised = periodic p v.birth t in
      let ls : List Prioritised = limited p (has v.status) (since_of v) t in
      ap any raised_is
      ∙ any-append (eq_by_cmp prioritised_cmp e) (ps ++ pending p birth m h t) ls
      ∙ ap (λ b. b || any ls) (any-append (eq_by_cmp prioritised_cmp e) ps (pending p birth m h t) ∙ ap (λ b. any ps || b) (pending_listed e) ∙ sym (any-append (eq_by_cmp prioritised_cmp e) ps (due_events v.pending t)))
      ∙ sym (any-append (eq_by_cmp prioritised_cmp e) (ps ++ due_events v.pending t) ls)

  pub raised_same : is_some_item (raised_at p birth m h t) ≡ is_some_item (raised_in p v t)
  raised_same = same_some (eq_by_cmp prioritised_cmp) (raised_at p birth m h t) (raised_in p v t) itself_e raised_listed

  pub base_same : ((x : Signal) → list_any (eq_by_cmp signal_cmp x) (signals_at p birth m h t) ≡ list_any (eq_by_cmp signal_cmp x) (signals_in v t)) → base_at p birth m h t ≡ base_in p v t
  base_same signals =
      let event_set : set_of (raised_at p birth m h t) ≡ set_of {R = prioritised_cmp} (raised_in p v t) =
      same_sets prioritised_cmp_total prioritised_cmp-IsAntisymmetric _ _ (λ e. has-set_of prioritised_cmp_total (raised_at p birth m h t) e ∙ raised_listed e ∙ sym (has-set_of prioritised_cmp_total (raised_in p v t) e)) in
      let signal_set : set_of (signals_at p birth m h t) ≡ set_of {R = signal_cmp} (signals_in v t) =
      same_sets signal_cmp_total signal_cmp-IsAntisymmetric _ _ (λ x. has-set_of signal_cmp_total (signals_at p birth m h t) x ∙ signals x ∙ sym (has-set_of signal_cmp_total (signals_in v t) x)) in
      λ i. record { events = event_set i; signals = signal_set i }

pub base_follows : BaseFollows
base_follows p is birth h m v f t born later within quiet signals = base_same p is birth h m v f t born later within quiet (signals t later (omega arith))

pub raised_follows : RaisedFollows
raised_follows p is birth h m v f t born later within quiet = raised_same p is birth h m v f t born later within quiet

-- at the birth nothing is on its way
no_heads : (p : Policy) (birth : ℕ) (m : Model) (t : ℕ) (r : TriggerView) → known_head p birth m birth t r ≡ []
no_heads p birth m t r = by (nat_lt 0 r.delay) (nat_lt birth (t - r.delay)) (nat_le (t - r.delay) birth) refl refl
  where
    by : (a b c : Bool) → nat_lt birth (t - r.delay) ≡ b → nat_le (t - r.delay) birth ≡ c
        → ◌≡◌ {A = List Prioritised} (if (a && b) && c then when (met r (m (t - r.delay)) (status p birth m (t - r.delay - 1))) r.head else []) []
    by true true true x y = absurd (omega (arith, ltb-true birth (t - r.delay) x, leb-true (t - r.delay) birth y))
    by true true false x y = refl
    by true false c x y = refl
    by false b c x y = refl

no_heads_all : (p : Policy) (birth : ℕ) (m : Model) (t : ℕ) (rs : List TriggerView) → flat_map (known_head p birth m birth t) rs ≡ []
no_heads_all p birth m t [] = refl
no_heads_all p birth m t (r ∷ rs) = λ i. no_heads p birth m t r i ++ no_heads_all p birth m t rs i

pub born_follows : BornFollows
born_follows p birth m v stands b n st ages trace pend = record {
  stands = stands;
  born = b;
  now = n;
  status = λ g.
      let none_after : v.now - birth ≡ 0 = omega (arith, n) in
      ap (λ s. has s g) st ∙ ap (λ j. status_after p birth m j g) (sym none_after);
  since = λ g. ages g ∙ sym (ap (since p birth m g) n ∙ (by_steps p birth m).begins g);
  sets = λ t a le. absurd (omega (arith, a, le, n));
  pending = λ t e later within.
      ap (λ (s : SetOf pending_cmp). has s (pending_at t e)) pend ∙ has-none pending_cmp (pending_at t e)
      ∙ sym (ap (list_any (eq_by_cmp prioritised_cmp e)) (no_heads_all p birth m t p.triggers));
}

-- models that are the same up to now have the same timelines
pub follows_same : (p : Policy) (birth : ℕ) (h : List Entry) (m n : Model) (v : TimelineView) → Agree p birth m n v.now → Follows p birth h m v → Follows p birth h n v
follows_same p birth h m n v same f = record {
  stands = f.stands;
  born = f.born;
  now = f.now;
  status = λ g. f.status g ∙ ap (λ s. s g) (status_same p birth m n v.now v.now same (omega arith));
  since = λ g. f.since g ∙ since_same p birth m n v.now v.now g same (omega arith);
  sets = λ t a le. f.sets t a le ∙ same t a le;
  pending = λ t e later within.
      f.pending t e later within
      ∙ ap (λ ks. list_any (eq_by_cmp prioritised_cmp e) (requested h t ++ ks))
      (each_rule p.triggers (λ r. known_same p birth m n (now_of birth h) t r (λ u a le. same u a (omega (arith, le, f.now)))));
}
  where
    each_rule : {B : Type 0} {g k : TriggerView → List B} (rs : List TriggerView) → ((r : TriggerView) → g r ≡ k r) → flat_map g rs ≡ flat_map k rs
    each_rule [] e = refl
    each_rule (r ∷ rs) e = λ i. e r i ++ each_rule rs e i

module _ (m : Model) (now to : ℕ) (x : HappenedView) where
  abbrev pub more : Model
  more = with_set m now to x

  pub more_before : (t : ℕ) → t ≤ now → m t ≡ more t
  more_before t le = by (nat_le t now) refl
    where
      by : (b : Bool) → nat_le t now ≡ b → m t ≡ (if b then m t else if nat_eq t to then x else nothing)
      by true q = refl
      by false q = absurd (omega (arith, le, leb-false t now q))

  pub more_at : now < to → more to ≡ x
  more_at lt =
      let late : nat_le to now ≡ false = is_false (nat_le to now) (λ q. omega (arith, lt, leb-true to now q)) in
      λ i. if late i then m to else if eq-eqb to to refl i then x else nothing

  pub more_between : (t : ℕ) → now < t → t < to → more t ≡ nothing
  more_between t lt before =
      let late : nat_le t now ≡ false = is_false (nat_le t now) (λ q. omega (arith, lt, leb-true t now q)) in
      let apart : nat_eq t to ≡ false = ne_eqb t to (λ q. omega (arith, q, before)) in
      λ i. if late i then m t else if apart i then x else nothing

-- a timeline also follows the model with one set more
pub follows_more : (p : Policy) (birth : ℕ) (h : List Entry) (m : Model) (v : TimelineView) (to : ℕ) (x : HappenedView) → Follows p birth h m v → Follows p birth h (with_set m (now_of birth h) to x) v
follows_more p birth h m v to x f = follows_same p birth h m (with_set m (now_of birth h) to x) v (λ u a le. more_before m (now_of birth h) to x u (omega (arith, le, f.now))) f

pub quiet_more : (birth : ℕ) (h : List Entry) (m : Model) (v : TimelineView) (to : ℕ) (x : HappenedView) → v.now ≡ now_of birth h → NothingBetween (with_set m (now_of birth h) to x) v.now to
quiet_more birth h m v to x now u a b = more_between m (now_of birth h) to x u (omega (arith, a, now)) b

pub close_is_legal : CloseIsLegal
close_is_legal p is birth h m v plan who upto legal kept f plans within signals stop =
    let now : ℕ = now_of birth h in
    let n : Model = with_set m now plan.at plan.set in
    let g : Follows p birth h n v = follows_more p birth h m v plan.at plan.set f in
    let quiet : NothingBetween n v.now plan.at = quiet_more birth h m v plan.at plan.set f.now in
    let born : birth ≤ v.now = omega (arith, kept.born, f.born) in
    let base : plan.base ≡ base_at p birth n h plan.at = plans.base ∙ sym (base_same p is birth h n v g plan.at born stop.later within quiet (signals plan.at stop.later (omega arith))) in
    let stirs_are : (t : ℕ) → v.now < t → t ≤ plan.at → (stirs_in p v t || is_some_item (drops_at p birth n h t)) ≡ stirs p birth n h t =
    λ t a le.
    (λ i. (sym (raised_same p is birth h n v g t born a (omega (arith, le, within)) (λ u c d. quiet u c (omega (arith, d, le)))) i
    || sym (same_some (eq_by_cmp signal_cmp) (signals_at p birth n h t) (signals_in v t) itself_x (signals t a le)) i) || is_some_item (drops_at p birth n h t)) in
    let st : status p birth n (plan.at - 1) ≡ has v.status = status_before p is birth h n v g plan.at born stop.later within quiet in
    record {
      legal = tick_adds_one_set p is birth h m legal who upto plan.at plan.set
          (record {
            later = subst (λ k. k < plan.at) f.now stop.later;
            bounded = stop.bounded;
            none_before = λ t a b. sym (stirs_are t (omega (arith, a, f.now)) (omega (arith, b))) ∙ stop.none_before t (omega (arith, a, f.now)) b;
            stop = elim stop.stop [ inl s ↦ inl (sym (stirs_are plan.at stop.later (omega arith)) ∙ s) | inr e ↦ inr e ];
          })
          (subst (λ b. Settled p.triggers b (status p birth n (plan.at - 1)) plan.set) base (subst (λ s. Settled p.triggers plan.base s plan.set) (sym st) plans.settled));
      base = base;
    }

-- a set in which nothing happens is empty
pub nothing_there : (x : HappenedView) → is_something x ≡ false → x ≡ nothing
nothing_there x e =
    let parts = both_false (is_some_item (members x.events)) (is_some_item (members x.signals)) e in
    let event_set : x.events ≡ none = same_sets prioritised_cmp_total prioritised_cmp-IsAntisymmetric _ _ (λ y. has-members x.events y ∙ nowhere (eq_by_cmp prioritised_cmp y) (members x.events) parts.0 ∙ sym (has-none prioritised_cmp y)) in
    let signal_set : x.signals ≡ none = same_sets signal_cmp_total signal_cmp-IsAntisymmetric _ _ (λ y. has-members x.signals y ∙ nowhere (eq_by_cmp signal_cmp y) (members x.signals) parts.1 ∙ sym (has-none signal_cmp y)) in
    λ i. record { events = event_set i; signals = signal_set i }
  where
    both_false : (a b : Bool) → (a || b) ≡ false → (a ≡ false) × (b ≡ false)
    both_false true b q = cc
    both_false false b q = (refl, q)

    nowhere : {A : Type 0} (test : A → Bool) (xs : List A) → is_some_item xs ≡ false → list_any test xs ≡ false
    nowhere test [] q = refl
    nowhere test (y ∷ ys) q = cc

-- the trace after a close stands for the model with one set more
traced_more : (cs : List ClosedSet) (m : Model) (birth now to : ℕ) (base x : HappenedView) → now < to → AreClosedBy now cs → ((t : ℕ) → birth < t → t ≤ now → model_of cs t ≡ m t)
    → (t : ℕ) → birth < t → t ≤ to → model_of (cs ++ traced to base x) t ≡ with_set m now to x t
traced_more cs m birth now to base x lt ends sets t a le =
    split (nat_le t now)
    (λ q.
    let early : t ≤ now = leb-true t now q in
    let before : t < to = omega (arith, early, lt) in
    front t before ∙ sets t a early ∙ more_before m now to x t early)
    (λ q.
    let late : now < t = leb-false t now q in
    split (nat_eq t to)
    (λ s. let at : t ≡ to = eqb-true t to s in ap (model_of (cs ++ traced to base x)) at ∙ there (is_something x) refl ∙ sym (ap (with_set m now to x) at ∙ more_at m now to x lt))
    (λ s.
    let before : t < to = less t to le (eqb-false t to s) in
    front t before ∙ model_past cs now t ends late ∙ sym (more_between m now to x t late before)))
  where
    d : ClosedSet
    d = record { at = to; base = base; set = x }

    less : (a b : ℕ) → a ≤ b → (a ≡ b → ⊥) → a < b
    less a b l ne = split (nat_lt a b) (λ q. ltb-true a b q) (λ q. absurd (ne (omega (arith, l, ltb-false a b q))))

    front : (u : ℕ) → u < to → model_of (cs ++ traced to base x) u ≡ model_of cs u
    front u before = by (is_something x)
      where
        by : (b : Bool) → model_of (cs ++ when b d) u ≡ model_of cs u
        by true = model_before cs d u before
        by false = ap (λ ds. model_of ds u) (append-nil cs)

    there : (b : Bool) → is_something x ≡ b → model_of (cs ++ when b d) to ≡ x
    there true q = model_there cs d now ends lt
    there false q = ap (λ ds. model_of ds to) (append-nil cs) ∙ model_past cs now to ends lt ∙ sym (nothing_there x q)

pub close_follows : CloseFollows
close_follows p is birth h m v w plan who upto kept f plans later ends =
    let now : ℕ = now_of birth h in
    let to : ℕ = plan.at in
    let n : Model = with_set m now to plan.set in
    let g : Follows p birth h n v = follows_more p birth h m v to plan.set f in
    let quiet : NothingBetween n v.now to = quiet_more birth h m v to plan.set f.now in
    let born : birth ≤ v.now = omega (arith, kept.born, f.born) in
    let set : n to ≡ plan.set = more_at m now to plan.set (omega (arith, later, f.now)) in
    let stays = stretch_stays p birth n v.now (to - 1 - v.now) born (λ u a b. quiet u a (omega (arith, b, later))) in
    let before : v.now + (to - 1 - v.now) ≡ to - 1 = omega (arith, later) in
    let st : status p birth n (to - 1) ≡ has v.status = ap (status p birth n) (sym before) ∙ stays.0 ∙ (λ i u. sym (g.status u) i) in
    let status_to : (u : Fluent) → status p birth n to u ≡ after plan.set (has v.status) u =
    λ u.
    let j : ℕ = to - 1 - birth in
    let here : to - birth ≡ suc j = omega (arith, later, born) in
    let at : birth + suc j ≡ to = omega (arith, later, born) in
    ap (λ q. status_after p birth n q u) here ∙ (λ i. after (n (at i)) (status_after p birth n j) u) ∙ (λ i. after (set i) (st i) u) in
    record {
      stands = ends.periods ∙ f.stands;
      born = ends.birth ∙ f.born;
      now = ends.now ∙ sym (now_snoc birth h (ticked who upto to));
      status = λ u. ap (λ s. has s u) ends.status ∙ plans.status u ∙ sym (ap (λ q. status p birth n q u) ends.now ∙ status_to u);
      since = λ u.
          ends.since u
          ∙ (λ i. cond (differ ((plans.status u ∙ sym (status_to u)) i) (sym st i u)) to (since_of v u))
          ∙ ap (λ q. cond (differ (status p birth n to u) (status p birth n (to - 1) u)) to q) (g.since u ∙ sym (stays.1 u) ∙ ap (since p birth n u) before)
          ∙ sym (ap (since p birth n u) ends.now ∙ (by_steps p birth n).follows u to (omega (arith, later, born)));
      sets = λ t a le.
          ap (λ cs. model_of cs t) ends.trace
          ∙ traced_more v.trace m birth v.now to plan.base plan.set later kept.ends f.sets t a (omega (arith, le, ends.now))
          ∙ ap (λ q. with_set m q to plan.set t) f.now;
      pending = λ t e past within.
          let after_to : to < t = omega (arith, past, ends.now) in
          let old_kept : (has v.pending (pending_at t e) && not (is_due_at to (pending_at t e))) ≡ has v.pending (pending_at t e) =
          ap (λ b. has v.pending (pending_at t e) && not b) (ne_eqb t to (λ q. omega (arith, q, after_to))) ∙ and_true_right (has v.pending (pending_at t e)) in
          ends.pending (pending_at t e)
          ∙ ap (λ b. b || list_any (eq_by_cmp pending_cmp (pending_at t e)) plan.joining) (old_kept ∙ g.pending t e (omega (arith, after_to, later)) within)
          ∙ ap (λ js. list_any (eq_by_cmp prioritised_cmp e) (pending p birth n h t) || list_any (eq_by_cmp pending_cmp (pending_at t e)) js) plans.joining
          ∙ on_way t e after_to within st set;
    }
  where
    and_true_right : (b : Bool) → (b && true) ≡ b
    and_true_right true = refl
    and_true_right false = refl

    or_assoc : (a b c : Bool) → ((a || b) || c) ≡ (a || (b || c))
    or_assoc true b c = refl
    or_assoc false b c = refl

    n_is : Model
    n_is = with_set m (now_of birth h) plan.at plan.set

    on_way : (t : ℕ) (e : Prioritised) → plan.at < t → t ≤ LAST_MINUTE → status p birth n_is (plan.at - 1) ≡ has v.status → n_is plan.at ≡ plan.set
        → (list_any (eq_by_cmp prioritised_cmp e) (pending p birth n_is h t) || list_any (eq_by_cmp pending_cmp (pending_at t e)) (joins p.triggers (has v.status) plan.set plan.at))
        ≡ list_any (eq_by_cmp prioritised_cmp e) (pending p birth n_is (h ++ ticked who upto plan.at ∷ []) t)
    on_way t e after_to within st set =
        let now : ℕ = now_of birth h in
        let lt : now < plan.at = omega (arith, later, f.now) in
        let le : birth ≤ now = omega (arith, kept.born, f.born, f.now) in
        let any : List Prioritised → Bool = list_any (eq_by_cmp prioritised_cmp e) in
        let old : List Prioritised = flat_map (known_head p birth n_is now t) p.triggers in
        let pairs : Bool = list_any (eq_by_cmp pending_cmp (pending_at t e)) (joins p.triggers (has v.status) plan.set plan.at) in
        let quiet : NothingBetween n_is now plan.at = λ u a b. more_between m now plan.at plan.set u a b in
        ap (λ b. b || pairs) (any-append (eq_by_cmp prioritised_cmp e) (requested h t) old)
        ∙ or_assoc (any (requested h t)) (any old) pairs
        ∙ ap (λ b. any (requested h t) || b)
        (all_join p birth n_is now plan.at t e lt after_to within p.triggers plan.set (has v.status)
        (λ r k. one_joins p birth n_is now plan.at t e lt after_to within r plan.set (has v.status) set st
        (heads_after_tick p birth n_is now plan.at t r (all_elim has_cause p.triggers r is.causes k) le lt quiet)))
        ∙ sym (any-append (eq_by_cmp prioritised_cmp e) (requested h t) (flat_map (known_head p birth n_is plan.at t) p.triggers))
        ∙ (λ i. any (sym ((queue_goes_on h t).ticks who upto plan.at) i ++ flat_map (known_head p birth n_is (sym (now_snoc birth h (ticked who upto plan.at)) i) t) p.triggers))

pub asks_follow : AskKeepsFollowing
asks_follow p birth h m v f who actor = record {
  others = λ request reply none. record {
    stands = f.stands;
    born = f.born;
    now = f.now ∙ sym (now_snoc birth h (asked who actor request reply));
    status = f.status;
    since = f.since;
    sets = f.sets;
    pending = λ t e later within.
        f.pending t e later within
        ∙ sym (ap (list_any (eq_by_cmp prioritised_cmp e)) (pending_after_ask p birth h m who actor request reply t
        ∙ ap (λ qs. (requested h t ++ qs) ++ flat_map (known_head p birth m (now_of birth h) t) p.triggers) (none t)
        ∙ ap (λ xs. xs ++ flat_map (known_head p birth m (now_of birth h) t) p.triggers) (append-nil (requested h t))));
  };
  raises = λ head delay due. record {
    stands = f.stands;
    born = f.born;
    now = f.now ∙ sym (now_snoc birth h (asked who actor (Raise head delay) (Queued due)));
    status = f.status;
    since = f.since;
    sets = f.sets;
    pending = λ t e later within.
        let any : List Prioritised → Bool = list_any (eq_by_cmp prioritised_cmp e) in
        let rs : List Prioritised = requested h t in
        let qs : List Prioritised = when (nat_eq due t) head in
        let ks : List Prioritised = flat_map (known_head p birth m (now_of birth h) t) p.triggers in
        has-with_member pending_cmp_total v.pending (pending_at due head) (pending_at t e)
        ∙ (λ i. sym (tied_at t e (pending_at due head)) i || (f.pending t e later within ∙ any-append (eq_by_cmp prioritised_cmp e) rs ks) i)
        ∙ queued (nat_eq due t) (eq_by_cmp prioritised_cmp e head) (any rs) (any ks)
        ∙ sym (ap any (pending_after_ask p birth h m who actor (Raise head delay) (Queued due) t)
        ∙ any-append (eq_by_cmp prioritised_cmp e) (rs ++ qs) ks ∙ ap (λ b. b || any ks) (any-append (eq_by_cmp prioritised_cmp e) rs qs ∙ ap (λ b. any rs || b) (one_listed (nat_eq due t) head e)));
  };
}
  where
    queued : (a b r k : Bool) → ((a && b) || (r || k)) ≡ ((r || (a && b)) || k)
    queued true true true k = refl
    queued true true false k = refl
    queued true false true k = refl
    queued true false false k = refl
    queued false b true k = refl
    queued false b false k = refl

    one_listed : (b : Bool) (head e : Prioritised) → list_any (eq_by_cmp prioritised_cmp e) (when b head) ≡ (b && eq_by_cmp prioritised_cmp e head)
    one_listed false head e = refl
    one_listed true head e = or_false (eq_by_cmp prioritised_cmp e head)
      where
        or_false : (c : Bool) → (c || false) ≡ c
        or_false true = refl
        or_false false = refl
