-- What a walk ahead has found is what lies ahead.
use Rattle.std.proofs.Common.{◌≡◌, ◌≢◌, ℕ, ◌+◌, ◌-◌, ◌<◌, ◌≤◌, Bool, nat_lt, List, [], Option, Some, None, refl, sym, ◌∙◌, ap, subst, arith}
use Rattle.std.proofs.lemmas.Bool.{ltb-true, ltb-false}
use Rattle.gt_base.specs.Happening.{HappenedView}
use Rattle.gt_base.specs.Machines.{ticked}
use Rattle.gt_base.specs.Sets.{has}
use Rattle.gt_base.specs.declared.events.Fluent.{Fluent}
use Rattle.gt_base.specs.declared.requests.Entry.{Entry}
use Rattle.gtrbac_model.specs.Policy.{Policy}
use Rattle.gtrbac_model.specs.Base.{status, table_at}
use Rattle.gtrbac_model.specs.History.{Legal, now_of}
use Rattle.gtrbac_model.specs.Instant.{Settled}
use Rattle.gtrbac_model.specs.Safety.{IsSafe}
use Rattle.gtrbac_model.specs.Sessions.{Table}
use Rattle.gtrbac_model.specs.Status.{Model, status_at}
use Rattle.gtrbac_model.specs.Theorems.{SameUpTo}
use Rattle.gtrbac_model.proofs.Elements.{split}
use Rattle.gtrbac_model.proofs.Levels.{by_trigger}
use Rattle.gtrbac_model.proofs.OneModel.{status_same, only_model}
use Rattle.gtrbac_model.proofs.Playing.{now_snoc}
use Rattle.walk_laws.proofs.Climbing.{safe_is_levelled}
use Rattle.history_laws.specs.Pending.{NothingBetween}
use Rattle.history_laws.proofs.OnItsWay.{stretch_stays}
use Rattle.history_laws.proofs.Reading.{Onward, legal_onward, reaches}
use Rattle.instant_bases.specs.Timelines.{TimelineView}
use Rattle.session_table.specs.Tables.{TableView, NotBefore, table_of}
use Rattle.time_engine.specs.Histories.{Follows}
use Rattle.time_engine.specs.Plans.{IsTimeline, with_trace}
use Rattle.time_engine.specs.Traces.{model_of}
use Rattle.core_machine.specs.Books.{BookView, HasWaiting, IsLegalBook, IsTableIn, model_in, now_in, point_in}
use Rattle.forecast.specs.Ahead.{HasOneAhead, IsAhead, IsFirstChange, nobody_asks}
use Rattle.forecast.specs.Going.{IsGoing, IsOnWay, Steps, StepsTo}
use Rattle.forecast.specs.declared.changes.Change.{Change}
use Rattle.forecast.proofs.Existing.{ahead_is_one}
use Rattle.forecast.proofs.Horizons.{bases_stay}

-- the walk has come to this timeline, within the horizon, and in what lies ahead the fluent was so
-- at each minute from the book's now on
pub record StayedSo (b : BookView) (f : Fluent) (upto : ℕ) (was : Bool)
    (v : TimelineView) : Type 0 where
  pub from : now_in b ≤ v.now
  pub bounded : v.now ≤ upto
  pub here : has v.status f ≡ was
  pub ahead : (n : Model) → IsAhead b.named.policy b.birth b.entries upto n
      → (t : ℕ) → now_in b ≤ t → t ≤ v.now → status_at b.named.policy b.birth n t f ≡ was

-- a walk begins at the book's now
pub begins : (b : BookView) (v : TimelineView) (tv : TableView) → IsTimeline v → v.trace ≡ b.trace → Follows b.named.policy b.birth b.entries (model_in b) v → HasWaiting b v
    → IsTableIn b (table_of tv) → NotBefore tv.charged_to (now_in b) → IsLegalBook b → IsOnWay b (with_trace v []) tv
begins b v tv line trace follows waits table charged legal =
    let is : model_in b ≡ model_of v.trace = ap model_of (sym trace) in
    record {
      gone = b.entries;
      sets = v.trace;
      charges = (table_of tv).charged;
      abreast = record {
        line = line;
        legal = subst (λ (q : Model). Legal b.named.policy b.birth b.entries q) is legal;
        follows = subst (λ (q : Model). Follows b.named.policy b.birth b.entries q v) is follows;
        waiting = (point_in b).table.signals;
        table = table ∙ (λ i. table_at b.named.policy b.birth (is i) b.entries (sym follows.now i));
        signals = λ lt x. waits (omega (arith, lt, follows.now)) x;
      };
      kept = λ u r d le. refl;
      bases = λ q t. refl;
      charged = subst (λ (t : ℕ). NotBefore tv.charged_to t) (sym follows.now) charged;
    }

module _ (p : Policy) (safe : IsSafe p.triggers) (birth : ℕ) (h : List Entry) (o : Onward birth h) (upto : ℕ) (le : now_of birth h ≤ upto) (n : Model) (ahead : IsAhead p birth h upto n) where
  -- the sets that the walk has found are those of what lies ahead
  agrees : (v : TimelineView) (tb : Table) (c : Option ℕ) (k : IsGoing p birth h v tb c) → v.now ≤ upto → SameUpTo birth v.now n (model_of k.sets)
  agrees v tb c k within t a b =
      let levels = safe_is_levelled p.triggers safe in
      only_model p birth k.gone (model_of k.sets) levels.0 (by_trigger p.triggers levels.0 levels.1) k.abreast.legal.model n
      (λ u x y.
      subst (λ (base : HappenedView). Settled p.triggers base (status p birth n (u - 1)) (n u)) (bases_stay p birth h o nobody_asks upto upto le n u ∙ sym (k.bases n u))
      (ahead u x (omega (arith, y, k.abreast.follows.now, within, now_snoc birth h (ticked nobody_asks upto upto)))))
      t a (omega (arith, b, k.abreast.follows.now))

  pub on_now : (v : TimelineView) (tb : Table) (c : Option ℕ) → IsGoing p birth h v tb c → v.now ≤ upto → (f : Fluent) → status_at p birth n v.now f ≡ has v.status f
  on_now v tb c k within f =
      (λ i. status_same p birth n (model_of k.sets) v.now v.now (agrees v tb c k within) (omega arith) i f) ∙ sym (k.abreast.follows.status f)

  born : (v : TimelineView) (tb : Table) (c : Option ℕ) → IsGoing p birth h v tb c → birth ≤ v.now
  born v tb c k = omega (arith, k.abreast.follows.now, reaches birth k.gone (legal_onward p birth (model_of k.sets) [] k.gone k.abreast.legal.steps))

  module _ (v w : TimelineView) (tb tb' : Table) (c c' : Option ℕ) (k : IsGoing p birth h v tb c) (s : Steps p birth h v w tb' c' upto) where
    quiet : NothingBetween n v.now w.now
    quiet u a b = agrees w tb' c' s.way s.bounded u (omega (arith, a, born v tb c k)) (omega (arith, b)) ∙ s.quiet u a b

    -- between two stops the status is that of the first
    pub on_between : (t : ℕ) → v.now < t → t < w.now → (f : Fluent) → status_at p birth n t f ≡ has v.status f
    on_between t a b f =
        let j : ℕ = t - v.now in
        let at : v.now + j ≡ t = omega (arith, a) in
        ap (λ u. status_at p birth n u f) (sym at)
        ∙ (λ i. (stretch_stays p birth n v.now j (born v tb c k) (λ u x y. quiet u x (omega (arith, y, b, at)))).0 i f)
        ∙ on_now v tb c k (omega (arith, s.later, s.bounded)) f

module _ (b : BookView) (safe : IsSafe b.named.policy.triggers) (legal : IsLegalBook b) (f : Fluent) (upto : ℕ) (le : now_in b ≤ upto) where
  onward : Onward b.birth b.entries
  onward = legal_onward b.named.policy b.birth (model_in b) [] b.entries legal.steps

  abbrev Lies : Model → Type 0
  Lies n = IsAhead b.named.policy b.birth b.entries upto n

  abbrev on_at : Model → ℕ → Bool
  on_at n t = status_at b.named.policy b.birth n t f

  at_stop : (v : TimelineView) (tv : TableView) → IsOnWay b v tv → v.now ≤ upto → (n : Model) → Lies n → on_at n v.now ≡ has v.status f
  at_stop v tv k within n ahead = on_now b.named.policy safe b.birth b.entries onward upto le n ahead v (table_of tv) tv.charged_to k within f

  pub starts : (v : TimelineView) (tv : TableView) (was : Bool) → IsOnWay b v tv → v.now ≡ now_in b → was ≡ has v.status f → StayedSo b f upto was v
  starts v tv was k now is =
      let within : v.now ≤ upto = omega (arith, now, le) in
      record {
        from = omega (arith, now);
        bounded = within;
        here = sym is;
        ahead = λ n lies t lo hi. ap (on_at n) (same t v.now (now_in b) now lo hi) ∙ at_stop v tv k within n lies ∙ sym is;
      }
    where
      same : (t v now : ℕ) → v ≡ now → now ≤ t → t ≤ v → t ≡ v
      same t v now e lo hi = omega (arith, e, lo, hi)

  pub none_found : (v : TimelineView) (was : Bool) → StayedSo b f upto was v → upto ≤ v.now → IsFirstChange b.named.policy b.birth b.entries f upto None
  none_found v was s end =
      let one : HasOneAhead b.named.policy b.birth b.entries upto = ahead_is_one b.named.policy safe b.birth b.entries upto in
      record {
        model = one.model;
        ahead = one.ahead;
        first = λ t lo hi. s.ahead one.model one.ahead t (omega (arith, lo)) (omega (arith, hi, end)) ∙ sym (s.ahead one.model one.ahead (now_in b) (omega arith) s.from);
      }

  module _ (v w : TimelineView) (tv tw : TableView) (was : Bool) (k : IsOnWay b v tv) (step : StepsTo b v w tw upto) (s : StayedSo b f upto was v) where
    before : (n : Model) → Lies n → (t : ℕ) → now_in b ≤ t → t < w.now → on_at n t ≡ was
    before n lies t lo hi =
        split (nat_lt v.now t)
        (λ q.
        on_between b.named.policy safe b.birth b.entries onward upto le n lies v w (table_of tv) (table_of tw) tv.charged_to tw.charged_to k step t (ltb-true v.now t q) hi f ∙ s.here)
        (λ q. s.ahead n lies t lo (ltb-false v.now t q))

    pub stays : has w.status f ≡ was → StayedSo b f upto was w
    stays is =
        record {
          from = omega (arith, s.from, step.later);
          bounded = step.bounded;
          here = is;
          ahead = λ n lies t lo hi.
              split (nat_lt t w.now)
              (λ q. before n lies t lo (ltb-true t w.now q))
              (λ q. ap (on_at n) (last t w.now hi (ltb-false t w.now q)) ∙ at_stop w tw step.way step.bounded n lies ∙ is);
        }
      where
        last : (t w : ℕ) → t ≤ w → w ≤ t → t ≡ w
        last t w a b = omega (arith, a, b)

    pub change_found : (c : Change) → c.at ≡ w.now → c.on ≡ has w.status f → c.on ≢ was → IsFirstChange b.named.policy b.birth b.entries f upto (Some c)
    change_found c at on apart =
        let one : HasOneAhead b.named.policy b.birth b.entries upto = ahead_is_one b.named.policy safe b.birth b.entries upto in
        let there : on_at one.model c.at ≡ c.on = ap (on_at one.model) at ∙ at_stop w tw step.way step.bounded one.model one.ahead ∙ sym on in
        let start : on_at one.model (now_in b) ≡ was = s.ahead one.model one.ahead (now_in b) (omega arith) s.from in
        record {
          model = one.model;
          ahead = one.ahead;
          first = record {
            later = omega (arith, at, s.from, step.later);
            within = omega (arith, at, step.bounded);
            differs = λ e. apart (sym there ∙ e ∙ start);
            on = sym there;
            least = λ t lo hi. before one.model one.ahead t (omega (arith, lo)) (omega (arith, hi, at)) ∙ sym start;
          };
        }
