-- A step of a walk ahead.
use Rattle.std.proofs.Common.{◌≡◌, ℕ, ◌+◌, ◌-◌, ◌*◌, ◌<◌, ◌≤◌, Bool, false, not, ◌||◌, List, [], ◌∷◌, ◌++◌, map, filter, count_by, Option, Some, is_none, inl, inr, refl, sym, ◌∙◌, ap, subst, arith}
use Rattle.std.specs.List.{list_any}
use Rattle.std.specs.Ordering.{eq_by_cmp}
use Rattle.gt_base.specs.Machines.{ticked}
use Rattle.gt_base.specs.Orders.{signal_cmp}
use Rattle.gt_base.specs.Sets.{has}
use Rattle.gt_base.specs.declared.events.Fluent.TheVariants.{Enabled}
use Rattle.gt_base.specs.declared.events.RoleId.{RoleId}
use Rattle.gt_base.specs.declared.events.UserId.{UserId}
use Rattle.gt_base.specs.declared.events.Signal.{Signal}
use Rattle.gt_base.specs.declared.requests.Entry.{Entry}
use Rattle.gt_base.proofs.SetLaws.{has-none}
use Rattle.gt_base.specs.declared.limits.TheConstants.{LAST_MINUTE}
use Rattle.gtrbac_model.specs.Policy.{Policy}
use Rattle.gtrbac_model.specs.Calendar.{day_of}
use Rattle.gtrbac_model.specs.Conflict.{Status}
use Rattle.gtrbac_model.specs.Hierarchy.{activation_walk}
use Rattle.gtrbac_model.specs.History.{IsNextStop, now_of}
use Rattle.gtrbac_model.specs.Sessions.{Table, Activation, caps_of, reached, is_of, is_dropped, signal_of}
use Rattle.gtrbac_model.specs.Status.{Model}
use Rattle.gtrbac_model.specs.WholePolicy.{IsPolicy}
use Rattle.history_laws.specs.Pending.{NothingBetween}
use Rattle.history_laws.specs.Tables.{minutes_of_day}
use Rattle.history_laws.specs.Ticking.{with_set}
use Rattle.history_laws.proofs.Reading.{Onward, legal_onward}
use Rattle.instant_bases.specs.Timelines.{ClosedSet, TimelineView, Signals, stirs_in}
use Rattle.session_table.specs.Tables.{ForgetsDays, TableView, table_of, charged_through, closed_at, dropped_at}
use Rattle.time_engine.specs.Plans.{PlanView, ClosesTimeline, IsPlan, IsAfter, with_trace}
use Rattle.time_engine.specs.Traces.{model_of, traced}
use Rattle.policy_words.specs.Naming.{NamedPolicy}
use Rattle.core_machine.specs.Books.{BookView}
use Rattle.core_machine.specs.Steps.{moves, with_signals}
use Rattle.core_machine.proofs.Asks.{signals_only, signals_told}
use Rattle.core_machine.proofs.Closes.{quiet, model_is, abreast_after}
use Rattle.forecast.specs.Ahead.{nobody_asks}
use Rattle.forecast.specs.Going.{IsGoing, IsOnWay, Steps, StepsTo}
use Rattle.forecast.proofs.Horizons.{bases_stay}

module _ (p : Policy) (is : IsPolicy p) (birth : ℕ) (h : List Entry) (v : TimelineView) (tb : Table) (charged : Option ℕ) (k : IsGoing p birth h v tb charged)
    (upto : ℕ) (within : upto ≤ LAST_MINUTE) (plan : PlanView) (plans : IsPlan p v plan) (stop : IsNextStop (moves p v tb) v.now upto plan.at) (w : TimelineView) (after : IsAfter v plan w) where
  -- the timeline with its trace, before the close and after it
  abbrev u : TimelineView
  u = with_trace v k.sets

  abbrev sets : List ClosedSet
  sets = k.sets ++ traced plan.at plan.base plan.set

  abbrev z : TimelineView
  z = with_trace w sets

  abbrev e : Entry
  e = ticked nobody_asks upto plan.at

  abbrev n : Model
  n = with_set (model_of k.sets) (now_of birth k.gone) plan.at plan.set

  plans_u : IsPlan p u plan
  plans_u = record { base = plans.base; settled = plans.settled; only = plans.only; status = plans.status; joining = plans.joining }

  -- the table with all charges
  abbrev full : Table
  full = record tb { charged = k.charges }

  day_up : (a b : ℕ) → a ≤ b → day_of a ≤ day_of b
  day_up a b le = omega (arith, le)

  moves_alike : (t : ℕ) → v.now < t → moves p v tb t ≡ moves p u full t
  moves_alike t lt = λ i.
      stirs_in p v t
      || list_any (λ (a : Activation).
      reached (caps_of p.caps a.role).length (t - a.begun)
      || reached (caps_of p.caps a.role).day (k.kept a.user a.role (day_of t) (day_up v.now t (omega (arith, lt))) i + minutes_of_day v.now (t - v.now) (day_of t) * count_by (is_of a.user a.role) tb.active)) tb.active

  stop_u : IsNextStop (moves p u full) u.now upto plan.at
  stop_u = record {
    later = stop.later;
    bounded = stop.bounded;
    none_before = λ t a b. sym (moves_alike t a) ∙ stop.none_before t a b;
    stop = elim stop.stop [
      | inl y ↦ inl (sym (moves_alike plan.at stop.later) ∙ y)
      | inr e ↦ inr e
    ];
  }

  after_z : IsAfter u plan z
  after_z = record { periods = after.periods; birth = after.birth; now = after.now; status = after.status; since = after.since; trace = refl; pending = after.pending; signals = after.signals }

  still : NothingBetween n v.now plan.at
  still = quiet p is birth k.gone u full k.abreast nobody_asks upto within plan plans_u stop_u

  grown : n ≡ model_of sets
  grown = model_is p is birth k.gone u full k.abreast nobody_asks upto within plan plans_u stop_u z after_z

  onward : Onward birth k.gone
  onward = legal_onward p birth (model_of k.sets) [] k.gone k.abreast.legal.steps

  module _ (mid tb' : Table) (told : List Signal) (closed : record mid { signals = told } ≡ closed_at p.edges p.caps (has plan.status) v.now plan.at tb) (forgot : ForgetsDays (day_of plan.at) mid tb') where
    abbrev s : Status
    s = has plan.status

    unfinished : day_of v.now ≤ day_of plan.at
    unfinished = day_up v.now plan.at (omega (arith, stop.later))

    dropped_alike : (a : Activation) → is_dropped p.edges p.caps s plan.at (charged_through v.now plan.at tb) a ≡ is_dropped p.edges p.caps s plan.at (charged_through v.now plan.at full) a
    dropped_alike a = λ i.
        not (s (Enabled a.role))
        || is_none (activation_walk p.edges s a.user a.role)
        || reached (caps_of p.caps a.role).length (plan.at - a.begun)
        || reached (caps_of p.caps a.role).day (k.kept a.user a.role (day_of plan.at) unfinished i + minutes_of_day v.now (plan.at - v.now) (day_of plan.at) * count_by (is_of a.user a.role) tb.active)

    closed_full : record tb' { charged = (charged_through v.now plan.at full).charged; signals = told } ≡ closed_at p.edges p.caps s v.now plan.at full
    closed_full =
        let sessions : tb'.sessions ≡ tb.sessions = forgot.sessions ∙ ap (λ (t : Table). t.sessions) closed in
        let active : tb'.active ≡ filter (λ (a : Activation). not (is_dropped p.edges p.caps s plan.at (charged_through v.now plan.at full) a)) tb.active =
        forgot.active ∙ ap (λ (t : Table). t.active) closed ∙ (λ i. filter (λ (a : Activation). not (dropped_alike a i)) tb.active) in
        let begun : tb'.begun ≡ tb.begun = forgot.begun ∙ ap (λ (t : Table). t.begun) closed in
        let signals : told ≡ map (signal_of false) (dropped_at p.edges p.caps s v.now plan.at full) =
        ap (λ (t : Table). t.signals) closed ∙ (λ i. map (signal_of false) (filter (λ (a : Activation). dropped_alike a i) tb.active)) in
        λ i. record { sessions = sessions i; active = active i; charged = (charged_through v.now plan.at full).charged; begun = begun i; signals = signals i }

    kept : (u : UserId) (r : RoleId) (d : ℕ) → day_of plan.at ≤ d → tb'.charged u r d ≡ (charged_through v.now plan.at full).charged u r d
    kept u r d le =
        forgot.charged u r d le
        ∙ ap (λ (t : Table). t.charged u r d) closed
        ∙ ap (λ n. n + minutes_of_day v.now (plan.at - v.now) d * count_by (is_of u r) tb.active) (k.kept u r d (omega (arith, le, unfinished)))

    abbrev bare : TimelineView
    bare = with_trace w []

    abbrev sg : Signals
    sg = (with_signals bare told).signals

    waits : plan.at < LAST_MINUTE → (x : Signal) → list_any (eq_by_cmp signal_cmp x) told ≡ has sg x
    waits lt x =
        let any : Bool = list_any (eq_by_cmp signal_cmp x) told in
        sym (signals_told bare told (omega (arith, lt, after.now)) x
        ∙ ap (λ (s : Signals). has s x || any) after.signals
        ∙ ap (λ b. b || any) (has-none signal_cmp x))

    -- the walk after the step, whose timeline keeps no trace
    pub goes : Steps p birth h v (with_signals bare told) tb' (Some plan.at) upto
    goes =
        subst (λ (x : TimelineView). Steps p birth h v x tb' (Some plan.at) upto) (sym (signals_only bare told))
        (record {
          way = record {
            gone = k.gone ++ e ∷ [];
            sets = sets;
            charges = (charged_through v.now plan.at full).charged;
            abreast = abreast_after p is birth k.gone u full k.abreast nobody_asks upto within plan plans_u stop_u z after_z sg (record tb' { charged = (charged_through v.now plan.at full).charged }) told closed_full waits;
            kept = λ u r d le. kept u r d (omega (arith, le, after.now));
            bases = λ q t. bases_stay p birth k.gone onward nobody_asks upto plan.at (omega (arith, stop.later, k.abreast.follows.now)) q t ∙ k.bases q t;
            charged = omega (arith, after.now);
          };
          later = omega (arith, after.now, stop.later);
          bounded = omega (arith, after.now, stop.bounded);
          quiet = λ t a b. ap (λ (q : Model). q t) (sym grown) ∙ still t a (omega (arith, b, after.now));
        })

-- a close of the timeline to the next stop, the close of the table, whose signals the timeline gets, and trace and charges forgotten
pub stepped : (b : BookView) (np : NamedPolicy) → np ≡ b.named → IsPolicy np.policy → (v w x : TimelineView) (tv mid tw : TableView) → IsOnWay b v tv
    → (upto to : ℕ) → upto ≤ LAST_MINUTE → IsNextStop (moves np.policy v (table_of tv)) v.now upto to → ClosesTimeline np.policy v to w
    → (told : List Signal) → record (table_of mid) { signals = told } ≡ closed_at np.policy.edges np.policy.caps (has w.status) v.now to (table_of tv) → ForgetsDays (day_of to) (table_of mid) (table_of tw)
    → tw.charged_to ≡ Some to
    → x ≡ with_signals (with_trace w []) told → StepsTo b v x tw upto
stepped b np same is v w x tv mid tw k upto to within stop closing told closed forgot charged signalled =
    let p : Policy = np.policy in
    let plan : PlanView = closing.plan in
    let k' : IsGoing p b.birth b.entries v (table_of tv) tv.charged_to = subst (λ (q : NamedPolicy). IsGoing q.policy b.birth b.entries v (table_of tv) tv.charged_to) (sym same) k in
    let stop' : IsNextStop (moves p v (table_of tv)) v.now upto plan.at = subst (λ (t : ℕ). IsNextStop (moves p v (table_of tv)) v.now upto t) (sym closing.at) stop in
    let closed' : record (table_of mid) { signals = told } ≡ closed_at p.edges p.caps (has plan.status) v.now plan.at (table_of tv) =
    closed ∙ (λ i. closed_at p.edges p.caps (has (closing.after.status i)) v.now (sym closing.at i) (table_of tv)) in
    let gone : Steps p b.birth b.entries v (with_signals (with_trace w []) told) (table_of tw) (Some plan.at) upto =
    goes p is b.birth b.entries v (table_of tv) tv.charged_to k' upto within plan closing.is_plan stop' w closing.after (table_of mid) (table_of tw) told closed' (subst (λ (t : ℕ). ForgetsDays (day_of t) (table_of mid) (table_of tw)) (sym closing.at) forgot) in
    subst (λ (q : NamedPolicy). Steps q.policy b.birth b.entries v x (table_of tw) tw.charged_to upto) same
    (subst (λ (y : TimelineView). Steps p b.birth b.entries v y (table_of tw) tw.charged_to upto) (sym signalled)
    (subst (λ (o : Option ℕ). Steps p b.birth b.entries v (with_signals (with_trace w []) told) (table_of tw) o upto) (ap (λ (t : ℕ). Some t) closing.at ∙ sym charged) gone))
