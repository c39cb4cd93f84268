-- From what was found back to its start.
use Rattle.std.proofs.Common.{◌≡◌, ℕ, ◌<◌, inl, inr, List, [], ◌∷◌, ◌++◌, Some, subst, arith}
use Rattle.gtrbac_model.specs.Graph.{item_at}
use Rattle.least_walk.proofs.Items.{one_item}
use Rattle.hybrid_hierarchy.specs.declared.searching.FoundRole.{FoundRole}
use Rattle.hybrid_hierarchy.specs.Searches.{Stop, IsStop, TellsWalks}
use Rattle.hybrid_hierarchy.specs.declared.outgoing.TheConstants.{NO_EDGE}

-- one step back
pub record IsBack (ws : List Stop) (i : ℕ) (f : FoundRole) (t : Stop) : Type 0 where
  pub last : Stop
  pub low : f.before < i
  pub is : item_at ws f.before ≡ Some last
  pub start : t.start ≡ last.start
  pub arcs : t.arcs ≡ last.arcs ++ f.by ∷ []

back_of : (ws : List Stop) (i : ℕ) (f : FoundRole) (t : Stop) → IsStop ws i f t → (f.by ≡ NO_EDGE → ⊥) → IsBack ws i f t
back_of ws i f t (node, inl h) ne = absurd (ne h.0)
back_of ws i f t (node, inr (p, by, low, is, start, place, arcs)) ne = record { last = p; low = low; is = is; start = start; arcs = arcs }

pub back_step : (queue : List FoundRole) (ws : List Stop) (i : ℕ) (f : FoundRole) (t : Stop) → TellsWalks queue ws → item_at queue i ≡ Some f → item_at ws i ≡ Some t → (f.by ≡ NO_EDGE → ⊥) → IsBack ws i f t
back_step queue ws i f t w isf ist ne =
    let (u, isu, told) = w.told i f isf in
    back_of ws i f t (subst (IsStop ws i f) (one_item ws i u t isu ist) told) ne

-- a start
start_of : (ws : List Stop) (i : ℕ) (f : FoundRole) (t : Stop) → IsStop ws i f t → f.by ≡ NO_EDGE → (t.start ≡ f.role) × (t.arcs ≡ [])
start_of ws i f t (node, inl h) e = (h.1, h.3)
start_of ws i f t (node, inr h) e = absurd (omega (arith, e, h.1))

pub back_start : (queue : List FoundRole) (ws : List Stop) (i : ℕ) (f : FoundRole) (t : Stop) → TellsWalks queue ws → item_at queue i ≡ Some f → item_at ws i ≡ Some t → f.by ≡ NO_EDGE → (t.start ≡ f.role) × (t.arcs ≡ [])
back_start queue ws i f t w isf ist e =
    let (u, isu, told) = w.told i f isf in
    start_of ws i f t (subst (IsStop ws i f) (one_item ws i u t isu ist) told) e
