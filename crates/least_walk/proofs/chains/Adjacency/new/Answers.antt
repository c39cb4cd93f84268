use Rattle.std.proofs.Common.{◌≡◌, ℕ, ◌<◌, List, map, Some, sym, ◌∙◌, subst}
use Rattle.gtrbac_model.specs.Graph.{item_at}
use Rattle.least_walk.specs.declared.graphs.GraphEdge.{GraphEdge}
use Rattle.least_walk.specs.Net.{EndsIn, HasEnds}
use Rattle.least_walk.proofs.Items.{item_map}
use Rattle.least_walk.proofs.chains.Adjacency.new.Goals as goal

-- the nodes of edges are nodes
inside : (key : GraphEdge → ℕ) (nodes : ℕ) (edges : List GraphEdge) → EndsIn nodes edges → ((e : GraphEdge) → HasEnds nodes e → key e < nodes) → (n v : ℕ) → item_at (map key edges) n ≡ Some v → v < nodes
inside key nodes edges ends low n v at = let (e, is, same) = item_map key edges n v at in subst (λ k. k < nodes) (sym same) (low e (ends n e is))

pub chains_of-requires-clause-keys : goal.chains_of-requires-clause-keys
chains_of-requires-clause-keys c =
    subst (λ ks. (n v : ℕ) → item_at ks n ≡ Some v → v < c.args.nodes) (sym (c.deref.ensures.value ∙ c.in_ok-begins.ensures))
    (inside (λ e. e.from) c.args.nodes c.args.edges.now c.requires.ends (λ e h. h.from_in))

pub chains_of-requires-2-clause-keys : goal.chains_of-requires-2-clause-keys
chains_of-requires-2-clause-keys c =
    subst (λ ks. (n v : ℕ) → item_at ks n ≡ Some v → v < c.args.nodes) (sym (c.deref-2.ensures.value ∙ c.in_ok-ends.ensures))
    (inside (λ e. e.to) c.args.nodes c.args.edges.now c.requires.ends (λ e h. h.to_in))
