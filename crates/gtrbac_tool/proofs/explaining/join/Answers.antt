use Rattle.std.proofs.Common.{◌≡◌, ℕ, List, ◌++◌, ◌∙◌, ap}
use Rattle.std.specs.Prelude.{Result, Ok, Err, OnOk, is_ok, if◌then◌else◌}
use Rattle.gtrbac_tool.proofs.explaining.join.Goals as goal

always : {A E P : Type 0} (r : Result A E) → P → OnOk r P
always (Ok x) p = p
always (Err e) p = tt

if_made : {A E X : Type 0} (r : Result A E) (x a b : X) → x ≡ (if is_ok r then a else b) → OnOk r (x ≡ a)
if_made (Ok y) x a b e = e
if_made (Err y) x a b e = tt

pub returns-clause-tracks : goal.returns-clause-tracks
returns-clause-tracks c = always c.extend_from_slice.result c.in_ok-push.ensures.tracks

pub returns-clause-events : goal.returns-clause-events
returns-clause-events c = always c.extend_from_slice.result c.in_ok-push.ensures.events

pub returns-clause-pending : goal.returns-clause-pending
returns-clause-pending c =
    if_made c.extend_from_slice.result _ _ c.args.pending.now.items
    (c.extend_from_slice.ensures.items ∙ ap (λ (ts : List ℕ). if is_ok c.extend_from_slice.result then c.args.pending.now.items ++ ts else c.args.pending.now.items) c.by_event.ensures)
