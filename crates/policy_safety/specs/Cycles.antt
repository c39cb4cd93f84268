-- What it means that a policy is refused.
use Rattle.std.specs.Prelude.{◌≡◌, ℕ, List, ◌∷◌, ◌++◌, map, filter_map, Some}
use Rattle.gt_base.specs.Held.{TriggerView}
use Rattle.gtrbac_model.specs.Graph.{item_at}
use Rattle.gtrbac_model.specs.Safety.{Dependency, dependencies, the_cycle, IsSafe}
use Rattle.dependency_graph.specs.Nets.{EventNet, IsGraphOf}
use Rattle.policy_words.specs.Naming.{NamedPolicy}
use Rattle.policy_safety.specs.declared.admitting.AdmitFault.{AdmitFault}
use Rattle.policy_safety.specs.declared.admitting.AdmitFault.TheVariants.{Unsafe, Memory}
use Rattle.policy_safety.specs.declared.admitting.CycleEdge.{CycleEdge}

-- the edge as a dependency among events
abbrev pub seen_edge : CycleEdge → Dependency
seen_edge e = record {
  source = e.source;
  target = e.target;
  conflict = e.conflict;
  trigger = e.trigger;
  place = e.place;
}

-- the dependencies of these numbers
abbrev pub dependencies_at : List TriggerView → List ℕ → List Dependency
dependencies_at rules ns = filter_map (item_at (dependencies rules)) ns

-- whatever rules the graph is of, these are their dependencies of these numbers
abbrev pub AreTold : EventNet → List CycleEdge → List ℕ → Type 0
AreTold g edges ns = (rules : List TriggerView) → IsGraphOf rules g
    → map seen_edge edges ≡ dependencies_at rules ns

-- the edges have grown by the dependency of this number, whatever numbers follow
abbrev pub AddsTold : EventNet → List CycleEdge → ℕ → List CycleEdge → Type 0
AddsTold g old n new =
    (rules : List TriggerView) → IsGraphOf rules g → (later : List ℕ)
    → map seen_edge new ++ dependencies_at rules later ≡ map seen_edge old
    ++ dependencies_at rules (n ∷ later)

abbrev pub IsToldEdge : EventNet → CycleEdge → ℕ → Type 0
IsToldEdge g edge n = (rules : List TriggerView) → IsGraphOf rules g
    → item_at (dependencies rules) n ≡ Some (seen_edge edge)

-- the edges are the least cycle with a conflict, so the rules are not safe
pub record IsCycleOf (rules : List TriggerView) (edges : List CycleEdge) : Type 0 where
  pub numbers : List ℕ
  pub cycle : the_cycle rules ≡ Some numbers
  pub edges_are : map seen_edge edges ≡ dependencies_at rules numbers
  pub unsafe : IsSafe rules → ⊥

-- the policy is handed back, and where it is not safe its cycle is told
abbrev pub IsRefused : NamedPolicy → AdmitFault → Type 0
IsRefused np (Unsafe p edges) = (p ≡ np) × IsCycleOf np.policy.triggers edges.items
IsRefused np (Memory p) = p ≡ np
