-- A search through a hierarchy from its starts outward: what was found so far, and by which walks.
use Rattle.std.specs.Prelude.{◌≡◌, ℕ, ◌+◌, ◌-◌, ◌<◌, ◌≤◌, ◌⊎◌, Bool, true, false, not, nat_eq, List, [], ◌∷◌, ◌++◌, length, map, filter, Some}
use Rattle.std.specs.List.{slice_index_or, range_with_len}
use Rattle.gt_base.specs.declared.events.RoleId.{RoleId}
use Rattle.gt_base.specs.declared.policies.HierEdge.{HierEdge}
use Rattle.gt_base.specs.declared.limits.TheConstants.{MAX_ROLES}
use Rattle.gtrbac_model.specs.Graph.{LeadsAlong, IsLeastWalk, item_at}
use Rattle.gtrbac_model.specs.Hierarchy.{role_arcs}
use Rattle.gtrbac_model.specs.Same.{same_role, lists}
use Rattle.hybrid_hierarchy.specs.declared.searching.FoundRole.{FoundRole}
use Rattle.hybrid_hierarchy.specs.declared.outgoing.TheConstants.{NO_EDGE}

-- the first edge of the role from number b on, or none
pub record IsFirstEdge (es : List HierEdge) (v b n : ℕ) : Type 0 where
  pub nothing : (m : ℕ) (e : HierEdge) → b ≤ m → m < n → item_at es m ≡ Some e → e.senior.0 ≡ v → ⊥
  pub is : (n ≡ NO_EDGE) ⊎ ((b ≤ n) × ((e : HierEdge) × (item_at es n ≡ Some e) × (e.senior.0 ≡ v)))

-- for each role its first edge, and for each edge the next one of the same role
pub record IsOutgoing (es : List HierEdge) (first next : List ℕ) : Type 0 where
  pub size : length next ≡ length es
  pub firsts : (v : ℕ) → IsFirstEdge es v 0 (slice_index_or first v NO_EDGE)
  pub nexts : (n : ℕ) (e : HierEdge) → item_at es n ≡ Some e
      → IsFirstEdge es e.senior.0 (n + 1) (slice_index_or next n 0)

-- whether an edge leads from the role
abbrev pub leads_on : List ℕ → ℕ → Bool
leads_on first v = not (nat_eq (slice_index_or first v NO_EDGE) NO_EDGE)

-- the roles from which an edge leads, ascending
unfoldable pub seniors_in : List ℕ → List ℕ
seniors_in first = filter (leads_on first) (range_with_len 0 MAX_ROLES)

-- a walk: where it ends and where it begins, the place of its begin among the starts, and the
-- numbers of its edges
pub record Stop : Type 0 where
  pub node : ℕ
  pub start : ℕ
  pub place : ℕ
  pub arcs : List ℕ

-- a lesser number at the first place where the lists differ
abbrev pub Lesser : List ℕ → List ℕ → Type 0
Lesser [] ys = ⊥
Lesser (x ∷ xs) [] = ⊥
Lesser (x ∷ xs) (y ∷ ys) = (x < y) ⊎ ((x ≡ y) × Lesser xs ys)

-- fewer edges; or as many from an earlier start; or from the same one by lesser numbers
abbrev pub Before : ℕ → List ℕ → ℕ → List ℕ → Type 0
Before i xs j ys = (length xs < length ys)
    ⊎ ((length xs ≡ length ys) × ((i < j) ⊎ ((i ≡ j) × Lesser xs ys)))

abbrev pub NotLater : ℕ → List ℕ → ℕ → List ℕ → Type 0
NotLater i xs j ys = ((i ≡ j) × (xs ≡ ys)) ⊎ Before i xs j ys

-- the walk of what was found at place i: it stays at a start, or goes on by one edge from what was
-- found before
abbrev pub IsStop : List Stop → ℕ → FoundRole → Stop → Type 0
IsStop ws i f s =
    (s.node ≡ f.role)
    × (((f.by ≡ NO_EDGE) × (s.start ≡ f.role) × (s.place ≡ f.before) × (s.arcs ≡ []))
    ⊎ ((p : Stop) × (f.by < NO_EDGE) × (f.before < i) × (item_at ws f.before ≡ Some p)
    × (s.start ≡ p.start) × (s.place ≡ p.place) × (s.arcs ≡ p.arcs ++ f.by ∷ [])))

-- the walks of what was found
pub record TellsWalks (queue : List FoundRole) (ws : List Stop) : Type 0 where
  pub size : length ws ≡ length queue
  pub told : (i : ℕ) (f : FoundRole) → item_at queue i ≡ Some f
      → (s : Stop) × (item_at ws i ≡ Some s) × IsStop ws i f s

abbrev pub HasStops : List FoundRole → Type 0
HasStops queue = (ws : List Stop) × TellsWalks queue ws

-- the walk of what was found at this place, and on by an edge
abbrev pub IsWalkBy : List FoundRole → ℕ → ℕ → ℕ → List ℕ → Type 0
IsWalkBy queue at last start arcs = (ws : List Stop) (s : Stop) → TellsWalks queue ws
    → item_at ws at ≡ Some s → (start ≡ s.start) × (arcs ≡ s.arcs ++ last ∷ [])

-- found earlier than the head, or at the head and by a lesser edge
abbrev pub Earlier : ℕ → ℕ → ℕ → ℕ → Type 0
Earlier i n head lim = (i < head) ⊎ ((i ≡ head) × (n < lim))

-- the node was found by a walk that is not later
pub record IsFound (ws : List Stop) (v place : ℕ) (arcs : List ℕ) : Type 0 where
  pub at : ℕ
  pub stop : Stop
  pub is : item_at ws at ≡ Some stop
  pub ends : stop.node ≡ v
  pub rank : NotLater stop.place stop.arcs place arcs

abbrev pub is_seen : List Bool → ℕ → Bool
is_seen seen v = slice_index_or seen v false

-- what was found stands in the order of its walks, and none of it is a goal; of what was found
-- before the head the open edges are followed, and of the head those below lim
pub record Searched (ok : ℕ → HierEdge → Bool) (goal : RoleId → Bool) (es : List HierEdge)
    (starts : List ℕ) (begun : ℕ) (seen : List Bool) (queue : List FoundRole) (ws : List Stop)
    (head lim : ℕ) : Type 0 where
  pub tells : TellsWalks queue ws
  pub leads : (i : ℕ) (s : Stop) → item_at ws i ≡ Some s
      → (item_at starts s.place ≡ Some s.start)
      × LeadsAlong (role_arcs ok es) (record { 0 = s.start }) s.arcs (record { 0 = s.node })
  pub within : (i : ℕ) (s : Stop) → item_at ws i ≡ Some s → s.node < length seen
  pub places : (i : ℕ) (s : Stop) → item_at ws i ≡ Some s → s.place < begun
  pub order : (i j : ℕ) (a b : Stop) → i < j → item_at ws i ≡ Some a → item_at ws j ≡ Some b
      → Before a.place a.arcs b.place b.arcs
  pub marked : (v : ℕ) → is_seen seen v ≡ true
      → (j : ℕ) × (t : Stop) × (item_at ws j ≡ Some t) × (t.node ≡ v)
  pub begins : (p v : ℕ) → p < begun → item_at starts p ≡ Some v → IsFound ws v p []
  pub older : (k : ℕ) (f : FoundRole) → item_at queue k ≡ Some f
      → (f.by ≡ NO_EDGE) ⊎ Earlier f.before f.by head lim
  pub done : (i n : ℕ) (s : Stop) (e : HierEdge) → item_at ws i ≡ Some s → item_at es n ≡ Some e
      → ok n e ≡ true → e.senior.0 ≡ s.node → Earlier i n head lim
      → IsFound ws e.junior.0 s.place (s.arcs ++ n ∷ [])
  pub passed : (i : ℕ) (s : Stop) → item_at ws i ≡ Some s → goal (record { 0 = s.node }) ≡ false

abbrev pub HasSearched : (ℕ → HierEdge → Bool) → (RoleId → Bool) → List HierEdge → List ℕ → ℕ
    → List Bool → List FoundRole → ℕ → ℕ → Type 0
HasSearched ok goal es starts begun seen queue head lim = (ws : List Stop)
    × Searched ok goal es starts begun seen queue ws head lim

-- the nodes by their numbers
abbrev pub roles_of : List ℕ → List RoleId
roles_of ns = map (λ n. record { 0 = n }) ns

-- the same while the edges of the head are followed, which is role v, and of which the next is n
pub record Following (ok : ℕ → HierEdge → Bool) (goal : RoleId → Bool) (es : List HierEdge)
    (starts : List ℕ) (seen : List Bool) (queue : List FoundRole) (head v n : ℕ) : Type 0 where
  pub walks : List Stop
  pub stop : Stop
  pub here : item_at walks head ≡ Some stop
  pub node : stop.node ≡ v
  pub link : (n ≡ NO_EDGE) ⊎ ((e : HierEdge) × (item_at es n ≡ Some e) × (e.senior.0 ≡ stop.node))
  pub searched : Searched ok goal es starts (length starts) seen queue walks head n

-- no start is a goal
abbrev pub AreNoGoals : (RoleId → Bool) → List ℕ → Type 0
AreNoGoals goal starts = (i s : ℕ) → item_at starts i ≡ Some s → goal (record { 0 = s }) ≡ false

-- the walk of the head, and on by the edge n, is the least one to a goal
pub record IsGoalBy (ok : ℕ → HierEdge → Bool) (goal : RoleId → Bool) (es : List HierEdge)
    (starts : List ℕ) (queue : List FoundRole) (head n : ℕ) : Type 0 where
  pub walks : List Stop
  pub stop : Stop
  pub tells : TellsWalks queue walks
  pub here : item_at walks head ≡ Some stop
  pub least : IsLeastWalk (role_arcs ok es) goal (roles_of starts)
      (record { start = record { 0 = stop.start }; arcs = stop.arcs ++ n ∷ [] })

-- the roles of the list from number low on, ascending and each once
unfoldable pub listed_from : List RoleId → ℕ → List ℕ
listed_from roles low = filter (λ n. lists same_role roles (record { 0 = n }))
    (range_with_len low (MAX_ROLES - low))
