-- What is due and what waits after an instant is closed.
use Rattle.std.proofs.Common.{◌≡◌, ℕ, ◌≤◌, List, ◌++◌, flat_map, Result, Ok, Err, IfOk, OnOk, ap, ◌∙◌}
use Rattle.gt_base.specs.Held.{TriggerView}
use Rattle.gt_base.specs.Happening.{HappenedView}
use Rattle.gt_base.specs.declared.events.Prioritised.{Prioritised}
use Rattle.gt_base.specs.declared.events.Signal.{Signal}
use Rattle.gt_base.specs.declared.limits.TheConstants.{LAST_MINUTE}
use Rattle.gtrbac_model.specs.Conflict.{Status}
use Rattle.gtrbac_model.specs.Sessions.{Table}
use Rattle.why_check.specs.Kept.{joins_at, with_signals}

-- the heads that join are those of the set and of the triggers that these are
pub joined : {T E : Type 0} (r : Result T E) (new old : ℕ → List Prioritised) (before : Status) (x : HappenedView) (at : ℕ) (rs qs : List TriggerView)
    → OnOk r ((k : ℕ) → k ≤ LAST_MINUTE → new k ≡ old k ++ flat_map (joins_at before x at k) rs) → rs ≡ qs
    → OnOk r ((k : ℕ) → k ≤ LAST_MINUTE → new k ≡ old k ++ flat_map (joins_at before x at k) qs)
joined (Ok v) new old before x at rs qs e g = λ k within. e k within ∙ (λ i. old k ++ flat_map (joins_at before x at k) (g i))
joined (Err w) new old before x at rs qs e g = tt

-- the signals that wait are these
pub waiting_so : {T E : Type 0} (items : T → List Signal) (r : Result T E) (table closed : Table) (waiting : List Signal) → IfOk r (λ v. items v ≡ waiting) → with_signals table waiting ≡ closed
    → IfOk r (λ v. with_signals table (items v) ≡ closed)
waiting_so items (Ok v) table closed waiting e f = ap (with_signals table) e ∙ f
waiting_so items (Err w) table closed waiting e f = tt

pub for_each : {T E P : Type 0} (r : Result T E) → P → IfOk r (λ v. P)
for_each (Ok v) p = p
for_each (Err w) p = tt
