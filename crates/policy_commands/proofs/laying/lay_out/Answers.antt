use Rattle.std.proofs.Common.{ℕ, List, ◌∙◌, ap, subst}
use Rattle.policy_commands.specs.Ends.{ending}
use Rattle.policy_text.specs.Texts.{IsPolicyText}
use Rattle.policy_commands.proofs.Ending.{laid_end, laid_status, laid_fault, told_end, has_fault}
use Rattle.policy_commands.proofs.laying.lay_out.Goals as goal

pub returns-in-Policy-clause-end : goal.returns-in-Policy-clause-end
returns-in-Policy-clause-end c = laid_end c.args.text.now c.in-Policy.policy (subst (IsPolicyText c.args.text.now) c.in-Policy.is c.in_ok-policy.ensures) c.laid.result c.laid.ensures

pub returns-in-Policy-clause-status : goal.returns-in-Policy-clause-status
returns-in-Policy-clause-status c = laid_status c.args.text.now c.in-Policy.policy (subst (IsPolicyText c.args.text.now) c.in-Policy.is c.in_ok-policy.ensures) c.laid.result c.laid.ensures

pub returns-in-Policy-clause-fault : goal.returns-in-Policy-clause-fault
returns-in-Policy-clause-fault c = laid_fault c.args.text.now c.in-Policy.policy (subst (IsPolicyText c.args.text.now) c.in-Policy.is c.in_ok-policy.ensures) c.laid.result c.laid.ensures

pub returns-in-Fault-clause-end : goal.returns-in-Fault-clause-end
returns-in-Fault-clause-end c = ap (λ (t : List ℕ). ending 2 t) c.from.ensures ∙ told_end c.args.text.now c.in-Fault.told.items (subst (IsPolicyText c.args.text.now) c.in-Fault.is c.in_ok-policy.ensures)

pub returns-in-Fault-clause-fault : goal.returns-in-Fault-clause-fault
returns-in-Fault-clause-fault c = λ _. has_fault c.args.text.now c.in-Fault.told.items (subst (IsPolicyText c.args.text.now) c.in-Fault.is c.in_ok-policy.ensures)
