use Rattle.std.proofs.Common.{ℕ, List, refl, sym, subst}
use Rattle.policy_text.specs.Texts.{IsPolicyText, IsToldFault}
use Rattle.policy_commands.proofs.Ending.{admitted_all, ended_of}
use Rattle.policy_commands.proofs.judging.admit.Goals as goal

pub returns-in-Policy : goal.returns-in-Policy
returns-in-Policy c = admitted_all c.args.text.now c.in-Policy.policy (subst (IsPolicyText c.args.text.now) c.in-Policy.is c.in_ok-policy.ensures) c.judge.result c.judge.ensures

pub returns-in-Fault : goal.returns-in-Fault
returns-in-Fault c =
    ended_of c.args.text.now (record { status = 2; text = c.from.result }) refl
    (subst (λ (t : List ℕ). IsToldFault c.args.text.now t) (sym c.from.ensures) (subst (IsPolicyText c.args.text.now) c.in-Fault.is c.in_ok-policy.ensures))
