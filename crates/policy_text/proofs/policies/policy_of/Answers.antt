use Rattle.policy_text.proofs.ToldTexts.{is_built}
use Rattle.policy_text.proofs.policies.policy_of.Goals as goal

pub told_text-requires : goal.told_text-requires
told_text-requires c = c.in-Err.ensures.fault

pub told_book-requires : goal.told_book-requires
told_book-requires c = record { said = c.in-Ok.parts; read = c.in-Ok.ensures.ok; is_fault = c.in-Err-build.ensures.fault }

pub returns-in-Ok-build : goal.returns-in-Ok-build
returns-in-Ok-build c = is_built c.args.text.now c.in-Ok.parts c.in-Ok-build.policy c.in-Ok.ensures.ok c.in-Ok-build.ensures.ok
