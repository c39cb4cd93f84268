use Rattle.std.proofs.Common.{◌≡◌, ◌++◌, [], ◌∷◌, cond, take}
use Rattle.std.specs.List.{list_any}
use Rattle.indexmap.specs.IndexMap.{get}
use Rattle.trigger_rules.specs.Indexed.{under}
use Rattle.trigger_rules.proofs.index.add_number.Given as goal

-- the number stands under the keys so far
abbrev pub invariant-loop-key : goal.invariant-loop-key
invariant-loop-key g l =
    let eq = g.K.PartialEq.eq in
    (k : g.row.K.Denot) → under (get eq l.index k) (λ v. v.items) ≡ under (get eq l.initial.index k) (λ v. v.items) ++ cond (list_any (eq k) (take l.key-index l.keys)) (l.n ∷ []) []
