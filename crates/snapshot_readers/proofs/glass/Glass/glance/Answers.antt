use Rattle.snapshot_readers.proofs.glass.Glass.glance.Goals as goal

pub returns-clause-ok : goal.returns-clause-ok
returns-clause-ok c = c.replace_with.ensures.1.1 (c.self.inside.policy.value, c.self.inside.birth) c.self.invariant
