use Rattle.std.proofs.Common.{◌≡◌, arith}
use Rattle.std.proofs.lemmas.Grind.{common_steps}
use Rattle.policy_gen.specs.Texts.{policy_text, script_text}
use Rattle.policy_gen.proofs.Lengths.{policy_of_size, script_of_size}
use Rattle.policy_gen.proofs.made.make.Goals as goal

pub returns-clause-short_policy : goal.returns-clause-short_policy
unfolding policy_text
returns-clause-short_policy c =
    let is : c.from.result.items ≡ policy_text c.args.size = grind (arith, common_steps) in
    policy_of_size c.args.size c.from.result.items is

pub returns-clause-short_script : goal.returns-clause-short_script
unfolding script_text
returns-clause-short_script c =
    let is : c.from-2.result.items ≡ script_text c.args.seed c.args.size = grind (arith, common_steps) in
    script_of_size c.args.seed c.args.size c.from-2.result.items c.requires.0 c.requires.1 is
