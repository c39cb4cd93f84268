-- Levels leave no closed walk with a marked arc.
use Rattle.std.proofs.Common.{◌≡◌, ℕ, ◌<◌, ◌≤◌, List, [], ◌∷◌, Some, ap, arith}
use Rattle.gtrbac_model.specs.Graph.{Arc, LeadsAlong, item_at}
use Rattle.walk_laws.specs.Laws.{LevelsLeaveNoCycle}

-- what does not fall along an arc does not fall along a walk
pub along : {N : Type 0} (arcs : List (Arc N)) (level : N → ℕ) → ((n : ℕ) (arc : Arc N) → item_at arcs n ≡ Some arc → level arc.from ≤ level arc.to)
    → (a b : N) (walk : List ℕ) → LeadsAlong arcs a walk b → level a ≤ level b
along arcs level stays a b [] e = same _ _ (ap level e)
  where
    same : (m n : ℕ) → m ≡ n → m ≤ n
    same m n e = omega arith
along arcs level stays a b (n ∷ ns) (arc, is, _, from, rest) = up _ _ _ _ (ap level from) (stays n arc is) (along arcs level stays arc.to b ns rest)
  where
    up : (f a t b : ℕ) → f ≡ a → f ≤ t → t ≤ b → a ≤ b
    up f a t b p q r = omega arith

pub levels_leave_no_cycle : {N : Type 0} → LevelsLeaveNoCycle N
levels_leave_no_cycle arcs marked level climbs n back c =
    none _ _ ((climbs n c.arc c.is).rises c.is_marked) (along arcs level (λ m arc is. (climbs m arc is).stays) c.arc.to c.arc.from back c.leads)
  where
    none : (a b : ℕ) → a < b → b ≤ a → ⊥
    none a b p q = omega arith
