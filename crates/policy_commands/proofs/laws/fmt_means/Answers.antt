use Rattle.policy_commands.proofs.Answered.{fmt_fault_means, fmt_keeps}
use Rattle.policy_commands.proofs.Fitting.{canonical_lines_fit, fmt_keeps_brief}
use Rattle.policy_commands.proofs.laws.fmt_means.Goals as goal

pub returns-clause-fault : goal.returns-clause-fault
returns-clause-fault c = fmt_fault_means

pub returns-clause-keeps : goal.returns-clause-keeps
returns-clause-keeps c = fmt_keeps

pub returns-clause-fit : goal.returns-clause-fit
returns-clause-fit c = canonical_lines_fit

pub returns-clause-brief : goal.returns-clause-brief
returns-clause-brief c = fmt_keeps_brief
