-- A book at its birth.
use Rattle.std.proofs.Common.{◌≡◌, ℕ, ◌-◌, List, [], sym, ◌∙◌, ap, subst, arith, Option, None}
use Rattle.gt_base.specs.Sets.{has, none}
use Rattle.gt_base.specs.declared.events.Fluent.{Fluent}
use Rattle.gt_base.specs.declared.requests.Entry.{Entry}
use Rattle.gt_base.proofs.SetLaws.{has-none}
use Rattle.gt_base.specs.Orders.{signal_cmp}
use Rattle.gtrbac_model.specs.History.{Legal}
use Rattle.gtrbac_model.specs.Policy.{Policy}
use Rattle.gtrbac_model.specs.Status.{Model}
use Rattle.gtrbac_model.specs.Theorems.{IsOnlyModel}
use Rattle.gtrbac_model.proofs.Levels.{by_trigger}
use Rattle.gtrbac_model.proofs.OneModel.{only_model}
use Rattle.walk_laws.proofs.Climbing.{safe_is_levelled}
use Rattle.gtrbac_model.specs.Base.{status}
use Rattle.gtrbac_model.specs.Safety.{IsSafe}
use Rattle.gtrbac_model.specs.Sessions.{Table, empty_table, close_minutes}
use Rattle.gtrbac_model.specs.WholePolicy.{IsPolicy}
use Rattle.instant_bases.specs.Timelines.{TimelineView, Signals, ClosedSet, StandsFor, since_of}
use Rattle.time_engine.specs.Traces.{model_of}
use Rattle.time_engine.proofs.HistoryLaws.{born_follows}
use Rattle.core_machine.specs.Books.{HasBases}
use Rattle.core_machine.specs.Coherent.{Coherent}

pub born : (p : Policy) → IsPolicy p → IsSafe p.triggers → (birth : ℕ) (v : TimelineView) (tb : Table) (h : List Entry) (to : Option ℕ)
    → StandsFor p v → v.birth ≡ birth → v.now ≡ birth → v.status ≡ p.opening → ((f : Fluent) → since_of v f ≡ birth) → v.trace ≡ [] → v.pending ≡ none → v.signals ≡ none → tb ≡ empty_table → h ≡ [] → to ≡ None → Coherent p birth h v tb to
born p is safe birth v tb h to stands b n st ages tr pend sig table none_yet charged =
    subst (λ o. Coherent p birth h v tb o) (sym charged) (subst (λ k. Coherent p birth k v tb None) (sym none_yet) (subst (λ t. Coherent p birth [] v t None) (sym table) first))
  where
    none_passed : v.now - birth ≡ 0
    none_passed = omega (arith, n)

    first : Coherent p birth [] v empty_table None
    first = record {
      is_policy = is;
      safe = safe;
      legal = record { model = λ t a le. absurd (omega (arith, a, le)); steps = tt };
      follows = born_follows p birth (model_of v.trace) v stands b n st ages tr pend;
      waiting = [];
      table = ap (λ k. close_minutes p.edges p.caps (status p birth (model_of v.trace)) birth k empty_table) (sym none_passed);
      signals = λ lt x. sym (ap (λ (s : Signals). has s x) sig ∙ has-none signal_cmp x);
      charged = tt;
      few = omega arith;
      bases = subst (λ (cs : List ClosedSet). HasBases p birth (model_of v.trace) [] cs) (sym tr) tt;
      named = tt;
      short = omega arith;
    }

-- a safe policy's history has no other model
pub only_one : (p : Policy) → IsSafe p.triggers → (birth : ℕ) (h : List Entry) (m : Model) → Legal p birth h m → IsOnlyModel p birth h m
only_one p safe birth h m legal = let levels = safe_is_levelled p.triggers safe in only_model p birth h m levels.0 (by_trigger p.triggers levels.0 levels.1) legal.model
