-- A tick keeps what holds between the parts of a book.
use Rattle.std.proofs.Common.{◌≡◌, ℕ, ◌-◌, ◌<◌, ◌≤◌, List, [], ◌∷◌, ◌++◌, length, Option, Some, refl, sym, ◌∙◌, ap, subst, arith}
use Rattle.std.specs.List.{list_any}
use Rattle.std.specs.Ordering.{eq_by_cmp}
use Rattle.gt_base.specs.Machines.{ticked}
use Rattle.gt_base.specs.Orders.{signal_cmp}
use Rattle.gt_base.specs.Sets.{has}
use Rattle.gt_base.specs.declared.events.Signal.{Signal}
use Rattle.gt_base.specs.declared.requests.Who.{Who}
use Rattle.gt_base.specs.declared.requests.Entry.{Entry}
use Rattle.gt_base.specs.declared.limits.TheConstants.{LAST_MINUTE, MAX_STEPS}
use Rattle.gtrbac_model.specs.Policy.{Policy}
use Rattle.gtrbac_model.specs.Base.{status, base_at}
use Rattle.gtrbac_model.specs.History.{IsNextStop, stirs, now_of}
use Rattle.gtrbac_model.specs.Sessions.{Table, empty_table}
use Rattle.gtrbac_model.specs.Status.{Model}
use Rattle.gtrbac_model.proofs.OneModel.{Agree}
use Rattle.gtrbac_model.proofs.Playing.{now_snoc, tick_not_read, base_of_prefix}
use Rattle.history_laws.specs.Ticking.{with_set}
use Rattle.history_laws.proofs.Lasting.{steps_after}
use Rattle.instant_bases.specs.Timelines.{TimelineView, Signals}
use Rattle.session_table.specs.Tables.{closed_at}
use Rattle.time_engine.specs.Histories.{ClosesLegally}
use Rattle.time_engine.specs.Plans.{PlanView, IsPlan, IsAfter, IsTimeline}
use Rattle.time_engine.specs.Traces.{model_of, traced}
use Rattle.policy_words.specs.Naming.{NamedPolicy}
use Rattle.core_machine.specs.Books.{TicksFurther, HasBases}
use Rattle.core_machine.specs.Coherent.{Abreast, Coherent}
use Rattle.core_machine.specs.Steps.{moves}
use Rattle.core_machine.proofs.Closes.{agree, closes, model_is, abreast_after}
use Rattle.core_machine.proofs.Growing.{named_more, one_more, bases_more, bases_traced, bases_stay}

module _ (p : Policy) (birth : ℕ) (h : List Entry) (v : TimelineView) (tb : Table) (charged : Option ℕ) (k : Coherent p birth h v tb charged) (line : IsTimeline v)
    (who : Who) (upto : ℕ) (within : upto ≤ LAST_MINUTE) (plan : PlanView) (plans : IsPlan p v plan) (stop : IsNextStop (moves p v tb) v.now upto plan.at) where
  abbrev m : Model
  m = model_of v.trace

  abbrev n : Model
  n = with_set m (now_of birth h) plan.at plan.set

  abbrev e : Entry
  e = ticked who upto plan.at

  abreast : Abreast p birth h v tb
  abreast = record { line = line; legal = k.legal; follows = k.follows; waiting = k.waiting; table = k.table; signals = k.signals }

  same_so_far : Agree p birth m n v.now
  same_so_far = agree p k.is_policy birth h v tb abreast who upto within plan plans stop

  legally : ClosesLegally p birth h n plan who upto
  legally = closes p k.is_policy birth h v tb abreast who upto within plan plans stop

  module _ (w : TimelineView) (after : IsAfter v plan w) where
    grown : n ≡ model_of w.trace
    grown = model_is p k.is_policy birth h v tb abreast who upto within plan plans stop w after

    base_is : plan.base ≡ base_at p birth n (h ++ e ∷ []) plan.at
    base_is =
        legally.base
        ∙ sym (base_of_prefix p birth n h (e ∷ []) plan.at refl (tick_not_read p birth (status p birth n) (plan.at - 1) who upto plan.at [] (omega (arith, stop.later)) h birth empty_table))

    bases : HasBases p birth n (h ++ e ∷ []) w.trace
    bases =
        subst (HasBases p birth n (h ++ e ∷ [])) (sym after.trace)
        (bases_more p birth n (h ++ e ∷ []) v.trace (traced plan.at plan.base plan.set)
        (bases_stay p birth m n h e v.now k.follows.now same_so_far (λ t le. refl) v.birth v.trace (omega (arith, k.follows.born)) line.ascends line.ends k.bases)
        (bases_traced p birth n (h ++ e ∷ []) plan.at plan.base plan.set base_is))

    module _ (sg : Signals) (tb' : Table) (told : List Signal) (closed : record tb' { signals = told } ≡ closed_at p.edges p.caps (has plan.status) v.now plan.at tb)
        (waits : plan.at < LAST_MINUTE → (x : Signal) → list_any (eq_by_cmp signal_cmp x) told ≡ has sg x) (room : length h < MAX_STEPS) where
      pub kept_tick : Coherent p birth (h ++ e ∷ []) (record w { signals = sg }) tb' (Some plan.at)
      kept_tick =
          let a : Abreast p birth (h ++ e ∷ []) (record w { signals = sg }) tb' = abreast_after p k.is_policy birth h v tb abreast who upto within plan plans stop w after sg tb' told closed waits in
          record {
            is_policy = k.is_policy;
            safe = k.safe;
            legal = a.legal;
            follows = a.follows;
            waiting = a.waiting;
            table = a.table;
            signals = a.signals;
            charged = omega (arith, after.now);
            few = omega (arith, ap (λ (t : Table). t.begun) closed, k.few, one_more h e);
            bases = subst (λ q. HasBases p birth q (h ++ e ∷ []) w.trace) grown bases;
            named = named_more p h e k.named within;
            short = omega (arith, room, one_more h e);
          }

      pub goes_tick : (np : NamedPolicy) → np.policy ≡ p → TicksFurther (record { named = np; birth = birth; entries = h; trace = v.trace }) (record { named = np; birth = birth; entries = h ++ e ∷ []; trace = w.trace }) who upto plan.at
      goes_tick np of = record {
        gains = record { named = refl; birth = refl; entries = refl };
        further = traced plan.at plan.base plan.set;
        trace = after.trace;
        stop = subst (λ r. IsNextStop (stirs r birth (model_of w.trace) h) (now_of birth h) upto plan.at) (sym of)
            (subst (λ q. IsNextStop (stirs p birth q h) (now_of birth h) upto plan.at) grown stop_is);
        now = now_snoc birth h e;
      }
        where
          -- the step of the longer history says where it stopped
          stop_is : IsNextStop (stirs p birth n h) (now_of birth h) upto plan.at
          stop_is = (steps_after p birth n [] h (e ∷ []) legally.legal.steps).0

-- what holds between parts holds between parts that are the same
pub kept_again : (p : Policy) (birth : ℕ) (h h' : List Entry) (v v' : TimelineView) (tb tb' : Table) (to to' : Option ℕ) → h' ≡ h → v' ≡ v → tb' ≡ tb → to' ≡ to → Coherent p birth h v tb to → Coherent p birth h' v' tb' to'
kept_again p birth h h' v v' tb tb' to to' eh ev et ec k =
    subst (λ x. Coherent p birth x v' tb' to') (sym eh) (subst (λ x. Coherent p birth h x tb' to') (sym ev) (subst (λ x. Coherent p birth h v x to') (sym et) (subst (λ x. Coherent p birth h v tb x) (sym ec) k)))
