use Rattle.std.proofs.Common.{refl}
use Rattle.walk_laws.proofs.Closing.{tells}
use Rattle.policy_safety.proofs.admitting.refused.Goals as goal

pub returns-in-Ok : goal.returns-in-Ok
returns-in-Ok c = (
  refl,
  record {
    numbers = c.args.numbers.now;
    cycle = c.requires.cycle;
    edges_are = c.in-Ok.ensures c.args.policy.policy.triggers c.requires.graph;
    unsafe = λ safe. let none = (tells c.args.policy.policy.triggers).0 safe in cc (c.requires.cycle, none);
  },
)
