-- A policy that is not safe is told with its cycle.
use Rattle.std.proofs.Common.{◌≡◌, ℕ, List, [], ◌∷◌, ◌++◌, map, Option, Some, None, refl, sym, ap, ◌∙◌}
use Rattle.std.specs.Prelude.{Ok, Err, codes, flat_map}
use Rattle.gtrbac_model.specs.Graph.{item_at}
use Rattle.gtrbac_model.specs.Safety.{Dependency, dependencies, IsSafe}
use Rattle.walk_laws.proofs.Closing.{tells}
use Rattle.policy_words.specs.Naming.{NamedPolicy}
use Rattle.policy_words.specs.PolicyRead.{edge_text, numbered_edge}
use Rattle.policy_safety.specs.declared.admitting.CycleEdge.{CycleEdge}
use Rattle.policy_safety.specs.Cycles.{seen_edge, dependencies_at, IsCycleOf}
use Rattle.policy_commands.specs.Ends.{ending}
use Rattle.policy_commands.specs.Policies.{judged, safe_or_cycle}

told_edges : (np : NamedPolicy) (es : List CycleEdge) → flat_map (λ e. edge_text np.names (seen_edge e)) es ≡ flat_map (edge_text np.names) (map seen_edge es)
told_edges np [] = refl
told_edges np (e ∷ es) = ap (λ t. edge_text np.names (seen_edge e) ++ t) (told_edges np es)

abbrev put : Option Dependency → List Dependency → List Dependency
put o ds = (elim o as (λ x. List Dependency → List Dependency) [ None ↦ λ xs. xs | Some d ↦ λ xs. d ∷ xs ]) ds

module _ (np : NamedPolicy) where
  abbrev text_at : Option Dependency → List ℕ
  text_at o = elim o [ Some d ↦ edge_text np.names d | None ↦ [] ]

  one_edge : (o : Option Dependency) (ds : List Dependency) (rest : List ℕ) → flat_map (edge_text np.names) ds ≡ rest → flat_map (edge_text np.names) (put o ds) ≡ text_at o ++ rest
  one_edge (Some d) ds rest h = ap (λ t. edge_text np.names d ++ t) h
  one_edge None ds rest h = h

  numbered_edges : (ns : List ℕ) → flat_map (edge_text np.names) (dependencies_at np.policy.triggers ns) ≡ flat_map (numbered_edge np) ns
  numbered_edges [] = refl
  numbered_edges (n ∷ ns) = one_edge (item_at (dependencies np.policy.triggers) n) (dependencies_at np.policy.triggers ns) (flat_map (numbered_edge np) ns) (numbered_edges ns)

unsafe_told : (np : NamedPolicy) (es : List CycleEdge) → IsCycleOf np.policy.triggers es → judged np ≡ Err (ending 3 (codes "unsafe\n" ++ flat_map (λ e. edge_text np.names (seen_edge e)) es))
unfolding judged
unsafe_told np es cycle =
    ap (safe_or_cycle np) cycle.cycle
    ∙ ap (λ (t : List ℕ). Err (ending 3 (codes "unsafe\n" ++ t))) (sym (told_edges np es ∙ ap (flat_map (edge_text np.names)) cycle.edges_are ∙ numbered_edges np cycle.numbers))

-- a text that began with nothing
pub unsafe_is : (np : NamedPolicy) (es : List CycleEdge) (start text : List ℕ) → IsCycleOf np.policy.triggers es → start ≡ [] → text ≡ start ++ (codes "unsafe\n" ++ flat_map (λ e. edge_text np.names (seen_edge e)) es)
    → judged np ≡ Err (ending 3 text)
unsafe_is np es start text cycle none is =
    unsafe_told np es cycle ∙ ap (λ (t : List ℕ). Err (ending 3 t)) (sym (is ∙ ap (λ (t : List ℕ). t ++ (codes "unsafe\n" ++ flat_map (λ e. edge_text np.names (seen_edge e)) es)) none))

pub safe_told : (np : NamedPolicy) → IsSafe np.policy.triggers → judged np ≡ Ok np
unfolding judged
safe_told np safe = ap (safe_or_cycle np) ((tells np.policy.triggers).0 safe)
