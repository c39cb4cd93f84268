use Rattle.std.proofs.Common.{◌≡◌, ℕ, List, IsTrue, Some, ap, subst, sym}
use Rattle.gtrbac_model.specs.Graph.{item_at, LeadsAlong}
use Rattle.gtrbac_model.specs.Safety.{Dependency, arcs_of, first_closing}
use Rattle.former_laws.proofs.Dependencies.{all_as_before}
use Rattle.former_laws.proofs.laws.dependencies_as_before.Goals as goal

-- safety of a list of dependencies
abbrev IsSafeOf : List Dependency → Type 0
IsSafeOf ds =
    (n : ℕ) (d : Dependency) → item_at ds n ≡ Some d → IsTrue d.conflict → (walk : List ℕ) → LeadsAlong (arcs_of ds) d.target walk d.source → ⊥

pub returns : goal.returns
returns c = record {
  dependencies = all_as_before;
  safe = λ triggers bare. (λ now. subst IsSafeOf (all_as_before triggers bare) now, λ then. subst IsSafeOf (sym (all_as_before triggers bare)) then);
  cycle = λ triggers bare. ap (λ ds. first_closing ds 0 ds) (all_as_before triggers bare);
}
