use Rattle.std.proofs.Common.{refl, sym, subst, ◌∙◌}
use Rattle.dependency_graph.specs.Levelled.{IsLevelled}
use Rattle.instant_engine.specs.TriggerLevels.{AreLevels}
use Rattle.time_engine.proofs.grounds.Ground.new.Goals as goal

pub new-requires-2 : goal.new-requires-2
new-requires-2 c = subst (λ ts. IsLevelled ts c.args.graph c.args.strata) (sym (c.in-Ok.ensures ∙ c.triggers.ensures)) c.requires

pub returns-in_default-clause-handed_back : goal.returns-in_default-clause-handed_back
returns-in_default-clause-handed_back c = (refl, refl, refl)

pub returns-in_default-new-clause-handed_back : goal.returns-in_default-new-clause-handed_back
returns-in_default-new-clause-handed_back c = (refl, refl, refl)

pub invariant_of-result : goal.invariant_of-result
invariant_of-result c = (
  c.requires,
  c.in-Ok.ensures ∙ c.triggers.ensures,
  subst (λ ts. AreLevels ts c.args.graph c.args.strata c.in-Ok-new.levels) (c.in-Ok.ensures ∙ c.triggers.ensures) c.in-Ok-new.ensures,
)

pub returns-clause-ok : goal.returns-clause-ok
returns-clause-ok c = refl
