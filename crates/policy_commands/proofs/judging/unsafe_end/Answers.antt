use Rattle.std.proofs.Common.{ℕ, List, Err, refl, sym, ◌∙◌, ap}
use Rattle.policy_commands.specs.Ends.{ending}
use Rattle.policy_commands.proofs.Cycles.{unsafe_is}
use Rattle.policy_commands.proofs.judging.unsafe_end.Goals as goal

pub returns : goal.returns
returns c =
    record {
      told = unsafe_is c.args.policy.now c.args.edges.now c.new-text.result.items c.push_unsafe.new.text.items c.requires c.new-text.ensures.items c.in_ok-push_unsafe.ensures
          ∙ ap (λ (t : List ℕ). Err (ending 3 t)) (sym c.from.ensures);
      three = refl;
      unsafe = c.requires.unsafe;
    }
