use Rattle.std.proofs.Common.{◌≡◌, ℕ, List, Bool, Ok, Err, Result, IfOk, length, sym, ◌∙◌, ap, subst}
use Rattle.least_walk.specs.declared.graphs.GraphEdge.{GraphEdge}
use Rattle.least_walk.specs.Net.{Net, IsNet, EndsIn, every}
use Rattle.least_walk.specs.Distances.{AreDistances}
use Rattle.least_walk.specs.Walks.{is_goal, IsReach}
use Rattle.least_walk.proofs.Reachable.{marks, are_reached}
use Rattle.least_walk.proofs.walking.reaching.Goals as goal

reach : (g : Net) (edges : List GraphEdge) (goal : List Bool) (ds es : List ℕ) (found : List Bool) → IsNet g → length goal ≡ g.nodes → edges ≡ g.edges → AreDistances every edges goal ds → es ≡ ds → found ≡ marks es → IsReach g.edges (is_goal goal) found
reach g edges goal ds es found net size e dist q is =
    subst (λ m. IsReach g.edges (is_goal goal) m) (sym (is ∙ ap marks q))
    (are_reached g.edges goal ds (subst (λ n. EndsIn n g.edges) (sym size) net.ends) (subst (λ xs. AreDistances every xs goal ds) e dist))

if_ok : {T E : Type 0} {P Q : T → Type 0} (r : Result T E) → ((x : T) → P x → Q x) → IfOk r P → IfOk r Q
if_ok (Ok x) f p = f x p
if_ok (Err e) f p = p

pub returns-clause-reach : goal.returns-clause-reach
returns-clause-reach c =
    if_ok c.reached.result
    (λ m is. reach c.args.g.now _ c.args.goal.now _ _ m.items c.edges-edges.ensures.net c.requires c.edges-edges.ensures.edges c.in_ok-dist.ensures c.deref.ensures.value is)
    c.reached.ensures
