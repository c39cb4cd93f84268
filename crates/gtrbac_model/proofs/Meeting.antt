-- A body that is met, by its parts.
use Rattle.std.proofs.Common.{◌≡◌, true, ◌&&◌}
use Rattle.std.specs.List.{list_all}
use Rattle.gt_base.specs.Held.{TriggerView}
use Rattle.gt_base.specs.Happening.{HappenedView}
use Rattle.gt_base.specs.Sets.{has}
use Rattle.gtrbac_model.specs.Conflict.{Status, won, after}
use Rattle.gtrbac_model.specs.Trigger.{met, holds}
use Rattle.gtrbac_model.proofs.Elements.{both_true, and_true}

pub record IsMet (r : TriggerView) (x : HappenedView) (s : Status) : Type 0 where
  pub events : list_all (won x) r.events ≡ true
  pub signals : list_all (has x.signals) r.signals ≡ true
  pub conds : list_all (holds s) r.conds ≡ true
  pub settled : list_all (holds (after x s)) r.settled ≡ true

pub parts_met : (r : TriggerView) (x : HappenedView) (s : Status) → met r x s ≡ true → IsMet r x s
parts_met r x s h =
    let all = both_true (list_all (won x) r.events && list_all (has x.signals) r.signals && list_all (holds s) r.conds) (list_all (holds (after x s)) r.settled) h in
    let before = both_true (list_all (won x) r.events && list_all (has x.signals) r.signals) (list_all (holds s) r.conds) all.0 in
    let both = both_true (list_all (won x) r.events) (list_all (has x.signals) r.signals) before.0 in
    record { events = both.0; signals = both.1; conds = before.1; settled = all.1 }

pub met_by : (r : TriggerView) (x : HappenedView) (s : Status) → IsMet r x s → met r x s ≡ true
met_by r x s m = and_true _ _ (and_true _ _ (and_true _ _ m.events m.signals) m.conds) m.settled
