-- From the numbered edges of a graph to the dependencies of its triggers.
use Rattle.std.proofs.Common.{◌≡◌, ℕ, zero, suc, ◌≤◌, List, [], ◌∷◌, ◌++◌, length, map, filter_map, Option, Some, None, refl, ap, ◌∙◌, sym, arith, append_assoc, slice_get, rules, tests}
use Rattle.gt_base.specs.declared.events.Event.{Event}
use Rattle.gt_base.specs.Held.{TriggerView}
use Rattle.least_walk.specs.declared.graphs.GraphEdge.{GraphEdge}
use Rattle.gtrbac_model.specs.Graph.{item_at}
use Rattle.gtrbac_model.specs.Safety.{Dependency, dependencies}
use Rattle.dependency_graph.specs.Nets.{EventNet, IsGraphOf, event_at, dependency, read_off}
use Rattle.least_walk.proofs.Items.{item_get}
use Rattle.policy_safety.specs.Cycles.{seen_edge, dependencies_at}
use Rattle.policy_safety.specs.declared.admitting.CycleEdge.{CycleEdge}

event_is : (xs : List Event) (n : ℕ) (e : Event) → item_at xs n ≡ Some e → event_at xs n ≡ e
event_is [] n e p = cc
event_is (x ∷ xs) zero e p = cc
event_is (x ∷ xs) (suc n) e p = event_is xs n e p

read_here : (events : List Event) (es : List GraphEdge) (ps : List (ℕ × ℕ)) (n : ℕ) (e : GraphEdge) (p : ℕ × ℕ) → item_at es n ≡ Some e → item_at ps n ≡ Some p → item_at (read_off events es ps) n ≡ Some (dependency events e p)
read_here events [] ps n e p h k = cc
read_here events (x ∷ es) [] n e p h k = cc
read_here events (x ∷ es) (y ∷ ps) zero e p h k = cc
read_here events (x ∷ es) (y ∷ ps) (suc n) e p h k = read_here events es ps n e p h k

past_end : (events : List Event) (es : List GraphEdge) (ps : List (ℕ × ℕ)) (n : ℕ) → length es ≤ n → item_at (read_off events es ps) n ≡ None
past_end events [] ps n le = refl
past_end events (x ∷ es) [] n le = refl
past_end events (x ∷ es) (y ∷ ps) zero le = absurd (omega arith)
past_end events (x ∷ es) (y ∷ ps) (suc n) le = past_end events es ps n (omega arith)

-- the edge of a number, with its place and the events of its ends, is the dependency of that number
pub edge_told : (g : EventNet) (rs : List TriggerView) → IsGraphOf rs g → (n : ℕ) (e : GraphEdge) (p : ℕ × ℕ) (source target : Event) → slice_get g.net.edges n ≡ Some e → item_at g.places n ≡ Some p
    → item_at g.events e.from ≡ Some source → item_at g.events e.to ≡ Some target
    → item_at (dependencies rs) n ≡ Some (record { source = source; target = target; conflict = e.marked; trigger = p.0; place = p.1 })
edge_told g rs of n e p source target h k a b =
    ap (λ ds. item_at ds n) (sym of.edges) ∙ read_here g.events g.net.edges g.places n e p (item_get g.net.edges n ∙ h) k
    ∙ (λ i. Some (record { source = event_is g.events e.from source a i; target = event_is g.events e.to target b i; conflict = e.marked; trigger = p.0; place = p.1 }))

pub none_told : (g : EventNet) (rs : List TriggerView) → IsGraphOf rs g → (n : ℕ) → length g.net.edges ≤ n → item_at (dependencies rs) n ≡ None
none_told g rs of n le = ap (λ ds. item_at ds n) (sym of.edges) ∙ past_end g.events g.net.edges g.places n le

with_some : (f : ℕ → Option Dependency) (n : ℕ) (ns : List ℕ) (d : Dependency) → f n ≡ Some d → filter_map f (n ∷ ns) ≡ d ∷ filter_map f ns
with_some f n ns d h = search (rules, tests)

with_none : (f : ℕ → Option Dependency) (n : ℕ) (ns : List ℕ) → f n ≡ None → filter_map f (n ∷ ns) ≡ filter_map f ns
with_none f n ns h = search (rules, tests)

map_more : (es : List CycleEdge) (e : CycleEdge) → map seen_edge (es ++ e ∷ []) ≡ map seen_edge es ++ seen_edge e ∷ []
map_more [] e = refl
map_more (x ∷ es) e = ap (λ ds. seen_edge x ∷ ds) (map_more es e)

pub told_more : (g : EventNet) (rs : List TriggerView) (es : List CycleEdge) (e : CycleEdge) (n : ℕ) (later : List ℕ) → item_at (dependencies rs) n ≡ Some (seen_edge e)
    → map seen_edge (es ++ e ∷ []) ++ dependencies_at rs later ≡ map seen_edge es ++ dependencies_at rs (n ∷ later)
told_more g rs es e n later h =
    ap (λ ds. ds ++ dependencies_at rs later) (map_more es e) ∙ append_assoc (map seen_edge es) (seen_edge e ∷ []) (dependencies_at rs later)
    ∙ ap (λ ds. map seen_edge es ++ ds) (sym (with_some (item_at (dependencies rs)) n later (seen_edge e) h))

pub told_still : (rs : List TriggerView) (es : List CycleEdge) (n : ℕ) (later : List ℕ) → item_at (dependencies rs) n ≡ None
    → map seen_edge es ++ dependencies_at rs later ≡ map seen_edge es ++ dependencies_at rs (n ∷ later)
told_still rs es n later h = ap (λ ds. map seen_edge es ++ ds) (sym (with_none (item_at (dependencies rs)) n later h))
