-- A tick's close keeps timeline and table abreast of the history, whoever makes it.
use Rattle.std.proofs.Common.{◌≡◌, ℕ, suc, ◌+◌, ◌-◌, ◌<◌, ◌≤◌, Bool, true, false, not, ◌||◌, List, [], ◌∷◌, ◌++◌, Some, is_some, is_none, inl, inr, refl, sym, ◌∙◌, ap, subst, arith}
use Rattle.std.specs.List.{list_any}
use Rattle.std.specs.Ordering.{eq_by_cmp}
use Rattle.gt_base.specs.Machines.{ticked}
use Rattle.gt_base.specs.Orders.{signal_cmp}
use Rattle.gt_base.specs.Sets.{has}
use Rattle.gt_base.specs.declared.events.Fluent.TheVariants.{Enabled}
use Rattle.gt_base.specs.declared.events.Signal.{Signal}
use Rattle.gt_base.specs.declared.requests.Who.{Who}
use Rattle.gt_base.specs.declared.requests.Entry.{Entry}
use Rattle.gt_base.specs.declared.limits.TheConstants.{LAST_MINUTE}
use Rattle.gtrbac_model.specs.Policy.{Policy}
use Rattle.gtrbac_model.specs.Base.{status, drops_at, table_at}
use Rattle.gtrbac_model.specs.Calendar.{day_of}
use Rattle.gtrbac_model.specs.Conflict.{Status}
use Rattle.gtrbac_model.specs.Graph.{item_at}
use Rattle.gtrbac_model.specs.Hierarchy.{activation_walk}
use Rattle.gtrbac_model.specs.History.{Legal, IsNextStop, is_some_item, now_of}
use Rattle.gtrbac_model.specs.Sessions.{Table, Activation, drops, close_minutes, caps_of, reached, is_dropped}
use Rattle.gtrbac_model.specs.Status.{Model}
use Rattle.gtrbac_model.proofs.Elements.{either_true, left_true, right_true}
use Rattle.gtrbac_model.proofs.OneModel.{Agree, status_same, table_at_same}
use Rattle.history_laws.specs.Activations.{IsInOrder}
use Rattle.history_laws.specs.Pending.{NothingBetween}
use Rattle.gtrbac_model.specs.WholePolicy.{IsPolicy}
use Rattle.history_laws.specs.Tables.{EndNothing}
use Rattle.history_laws.specs.Ticking.{with_set}
use Rattle.history_laws.proofs.Continuing.{tables_go_on}
use Rattle.history_laws.proofs.InOrder.{active_in_order}
use Rattle.history_laws.proofs.OnItsWay.{stretch_stays}
use Rattle.history_laws.proofs.Reading.{Onward, legal_onward}
use Rattle.instant_bases.specs.Timelines.{TimelineView, Signals, stirs_in}
use Rattle.session_table.specs.NextDrops.{is_any_capped}
use Rattle.session_table.specs.Stretches.{StandsFirm, StretchCloses}
use Rattle.session_table.specs.Tables.{charged_through, dropped_at, closed_at, is_capped}
use Rattle.session_table.proofs.Closing.{stretches_close, firm_ends_nothing}
use Rattle.time_engine.specs.Histories.{Follows, SignalsFollow, ClosesLegally}
use Rattle.time_engine.specs.Plans.{PlanView, IsPlan, IsAfter, IsTimeline}
use Rattle.time_engine.specs.Traces.{model_of}
use Rattle.time_engine.proofs.Following.{after_kept, plan_fits}
use Rattle.time_engine.proofs.HistoryLaws.{quiet_more, more_before, close_is_legal, close_follows}
use Rattle.time_engine.proofs.WaitingLaws.{table_later, waiting_follow}
use Rattle.core_machine.specs.Coherent.{Abreast}
use Rattle.core_machine.specs.Steps.{moves}
use Rattle.core_machine.proofs.Growing.{both_false, not_none, some_pass, model_grows}

capped_drops : (off barred long spent : Bool) → (long || spent) ≡ true → (off || barred || long || spent) ≡ true
capped_drops true true true spent e = refl
capped_drops true true false spent e = refl
capped_drops true false true spent e = refl
capped_drops true false false spent e = refl
capped_drops false true true spent e = refl
capped_drops false true false spent e = refl
capped_drops false false true spent e = refl
capped_drops false false false spent e = e

-- a timeline follows whatever signals wait in it
pub follows_signals : (p : Policy) (birth : ℕ) (h : List Entry) (m : Model) (v : TimelineView) (sg : Signals) → Follows p birth h m v → Follows p birth h m (record v { signals = sg })
follows_signals p birth h m v sg f = record { stands = f.stands; born = f.born; now = f.now; status = f.status; since = f.since; sets = f.sets; pending = f.pending }

module _ (p : Policy) (is : IsPolicy p) (birth : ℕ) (h : List Entry) (v : TimelineView) (tb : Table) (k : Abreast p birth h v tb)
    (who : Who) (upto : ℕ) (within : upto ≤ LAST_MINUTE) (plan : PlanView) (plans : IsPlan p v plan) (stop : IsNextStop (moves p v tb) v.now upto plan.at) where
  abbrev m : Model
  m = model_of v.trace

  abbrev n : Model
  n = with_set m (now_of birth h) plan.at plan.set

  abbrev e : Entry
  e = ticked who upto plan.at

  -- the table with the signals that wait
  abbrev full : Table
  full = record tb { signals = k.waiting }

  born : birth ≤ v.now
  born = omega (arith, k.line.born, k.follows.born)

  pub agree : Agree p birth m n v.now
  agree u a b = more_before m (now_of birth h) plan.at plan.set u (omega (arith, b, k.follows.now))

  pub quiet : NothingBetween n v.now plan.at
  quiet = quiet_more birth h m v plan.at plan.set k.follows.now

  full_is : full ≡ table_at p birth n h v.now
  full_is = k.table ∙ table_at_same p birth m n v.now h agree

  in_order : (i : ℕ) (a : Activation) → item_at tb.active i ≡ Some a → IsInOrder p (status p birth m v.now) (table_at p birth m h v.now) a
  in_order i a at = active_in_order p birth h m k.legal v.now born a (i, subst (λ as'. item_at as' i ≡ Some a) (ap (λ (t : Table). t.active) k.table) at)

  -- before the stop the status stays
  still : (j : ℕ) → v.now + suc j < plan.at → status p birth n (v.now + suc j) ≡ status p birth m v.now
  still j lt =
      (stretch_stays p birth n v.now (suc j) born (λ u a b. quiet u a (omega (arith, b, lt)))).0
      ∙ sym (status_same p birth m n v.now v.now agree (omega arith))

  before_stop : (j : ℕ) → j < plan.at - v.now - 1 → v.now + suc j < plan.at
  before_stop j lt = omega (arith, lt)

  firm : (j : ℕ) → j < plan.at - v.now - 1 → StandsFirm p.edges p.caps (status p birth n) v.now full (v.now + suc j)
  firm j lt =
      let low : v.now + suc j < plan.at = before_stop j lt in
      record {
        on = λ i a at. ap (λ (s : Status). s (Enabled a.role)) (still j low) ∙ (in_order i a at).role_is_on;
        allowed = λ i a at. not_none _ (ap (λ (s : Status). is_some (activation_walk p.edges s a.user a.role)) (still j low) ∙ (in_order i a at).may_activate);
        uncapped = (both_false (stirs_in p v (v.now + suc j)) (is_any_capped p.caps v.now tb (v.now + suc j)) (stop.none_before (v.now + suc j) (omega arith) low)).1;
      }

  ends_nothing : EndNothing p.edges p.caps (status p birth n) v.now (plan.at - v.now - 1) full
  ends_nothing = firm_ends_nothing p.edges p.caps (status p birth n) v.now (plan.at - v.now - 1) full firm

  stretch : StretchCloses p.edges p.caps (status p birth n) v.now plan.at full
  stretch = stretches_close p.edges p.caps (status p birth n) v.now plan.at full stop.later ends_nothing

  onward : Onward birth h
  onward = legal_onward p birth m [] h k.legal.steps

  later_is : (t : ℕ) → v.now ≤ t → table_at p birth n h t ≡ close_minutes p.edges p.caps (status p birth n) v.now (t - v.now) full
  later_is t le =
      subst (λ x. x ≤ t → table_at p birth n h t ≡ close_minutes p.edges p.caps (status p birth n) x (t - x) (table_at p birth n h x)) (sym k.follows.now) (table_later p birth h n onward t) le
      ∙ ap (close_minutes p.edges p.caps (status p birth n) v.now (t - v.now)) (sym full_is)

  none_dropped : (t : ℕ) → v.now < t → t < plan.at → drops_at p birth n h t ≡ []
  none_dropped t a b =
      let j : ℕ = t - 1 - v.now in
      let at : v.now + suc j ≡ t = omega (arith, a) in
      ap (λ tb. drops p.edges p.caps (status p birth n t) t tb) (later_is (t - 1) (omega (arith, a)))
      ∙ subst (λ u. drops p.edges p.caps (status p birth n u) u (close_minutes p.edges p.caps (status p birth n) v.now j full) ≡ []) at (ends_nothing j (omega (arith, a, b)))

  dropped : drops_at p birth n h plan.at ≡ dropped_at p.edges p.caps (status p birth n plan.at) v.now plan.at tb
  dropped =
      let k : plan.at - 1 - v.now ≡ plan.at - v.now - 1 = omega arith in
      ap (λ tb. drops p.edges p.caps (status p birth n plan.at) plan.at tb) (later_is (plan.at - 1) (omega (arith, stop.later)) ∙ ap (λ j. close_minutes p.edges p.caps (status p birth n) v.now j full) k)
      ∙ stretch.drops

  capped_is_dropped : is_any_capped p.caps v.now tb plan.at ≡ true → is_some_item (drops_at p birth n h plan.at) ≡ true
  capped_is_dropped capped =
      let all : Table = charged_through v.now plan.at tb in
      let s : Status = status p birth n plan.at in
      ap is_some_item dropped
      ∙ some_pass (is_capped p.caps v.now tb plan.at) (is_dropped p.edges p.caps s plan.at all) tb.active
      (λ a c. capped_drops (not (s (Enabled a.role))) (is_none (activation_walk p.edges s a.user a.role)) (reached (caps_of p.caps a.role).length (plan.at - a.begun)) (reached (caps_of p.caps a.role).day (all.charged a.user a.role (day_of plan.at))) c)
      capped

  stops : IsNextStop (λ t. stirs_in p v t || is_some_item (drops_at p birth n h t)) v.now upto plan.at
  stops = record {
    later = stop.later;
    bounded = stop.bounded;
    none_before = λ t a b. (λ i. (both_false (stirs_in p v t) (is_any_capped p.caps v.now tb t) (stop.none_before t a b)).0 i || is_some_item (none_dropped t a b i));
    stop = elim stop.stop [
      | inl y ↦ inl (elim (either_true (stirs_in p v plan.at) (is_any_capped p.caps v.now tb plan.at) y) [
        | inl s ↦ left_true (stirs_in p v plan.at) (is_some_item (drops_at p birth n h plan.at)) s
        | inr c ↦ right_true (stirs_in p v plan.at) (is_some_item (drops_at p birth n h plan.at)) (capped_is_dropped c)
      ])
      | inr at ↦ inr at
    ];
  }

  in_time : plan.at ≤ LAST_MINUTE
  in_time = omega (arith, stop.bounded, within)

  signals : SignalsFollow p birth n h v plan.at
  signals =
      waiting_follow p birth h m n v plan.at k.legal k.follows.now
      (λ x. ap (λ (t : Table). list_any (eq_by_cmp signal_cmp x) t.signals) (sym full_is) ∙ k.signals (omega (arith, stop.later, in_time)) x)
      (subst (λ j. EndNothing p.edges p.caps (status p birth n) v.now j (table_at p birth n h v.now)) (omega arith)
      (subst (λ (t : Table). EndNothing p.edges p.caps (status p birth n) v.now (plan.at - v.now - 1) t) full_is ends_nothing))

  pub closes : ClosesLegally p birth h n plan who upto
  closes = close_is_legal p is birth h m v plan who upto k.legal k.line k.follows plans in_time signals stops

  module _ (w : TimelineView) (after : IsAfter v plan w) where
    follows_w : Follows p birth (h ++ e ∷ []) n w
    follows_w = close_follows p is birth h m v w plan who upto k.line k.follows plans stop.later after

    status_to : status p birth n plan.at ≡ has plan.status
    status_to = λ i f. (ap (λ u. status p birth n u f) (sym after.now) ∙ sym (follows_w.status f) ∙ ap (λ s. has s f) after.status) i

    table_to : table_at p birth n (h ++ e ∷ []) plan.at ≡ closed_at p.edges p.caps (has plan.status) v.now plan.at tb
    table_to =
        (tables_go_on p birth n h).ticks who upto plan.at closes.legal
        ∙ ap (λ x. close_minutes p.edges p.caps (status p birth n) x (plan.at - x) (table_at p birth n h x)) (sym k.follows.now)
        ∙ ap (close_minutes p.edges p.caps (status p birth n) v.now (plan.at - v.now)) (sym full_is)
        ∙ stretch.closes
        ∙ ap (λ s. closed_at p.edges p.caps s v.now plan.at tb) status_to

    pub model_is : n ≡ model_of w.trace
    model_is =
        ap (λ now. with_set m now plan.at plan.set) (sym k.follows.now)
        ∙ model_grows v.trace v.now plan.at plan.base plan.set stop.later k.line.ends
        ∙ ap model_of (sym after.trace)

    line_w : IsTimeline w
    line_w = after_kept v w plan k.line (plan_fits p v plan plan.at refl k.line plans stop.later (λ t a b. (both_false (stirs_in p v t) (is_any_capped p.caps v.now tb t) (stop.none_before t a b)).0)) after

    module _ (sg : Signals) (tb' : Table) (told : List Signal) (closed : record tb' { signals = told } ≡ closed_at p.edges p.caps (has plan.status) v.now plan.at tb)
        (waits : plan.at < LAST_MINUTE → (x : Signal) → list_any (eq_by_cmp signal_cmp x) told ≡ has sg x) where
      -- timeline and table after the close, whose signals the timeline gets
      pub abreast_after : Abreast p birth (h ++ e ∷ []) (record w { signals = sg }) tb'
      abreast_after = record {
        line = record { born = line_w.born; ages = line_w.ages; pending = line_w.pending; ascends = line_w.ascends; ends = line_w.ends; some = line_w.some };
        legal = subst (Legal p birth (h ++ e ∷ [])) model_is closes.legal;
        follows = follows_signals p birth (h ++ e ∷ []) (model_of w.trace) w sg (subst (λ q. Follows p birth (h ++ e ∷ []) q w) model_is follows_w);
        waiting = told;
        table = closed ∙ sym table_to ∙ (λ i. table_at p birth (model_is i) (h ++ e ∷ []) (sym after.now i));
        signals = λ lt x. waits (omega (arith, lt, after.now)) x;
      }
