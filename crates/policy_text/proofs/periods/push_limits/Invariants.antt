use Rattle.std.proofs.Common.{◌≡◌, ◌++◌, take}
use Rattle.policy_words.specs.Canonical.{limit_line}
use Rattle.policy_text.specs.Sections.{lines_by, numbered}
use Rattle.policy_text.proofs.periods.push_limits.Given as goal

abbrev pub invariant-loop-n : goal.invariant-loop-n
invariant-loop-n l = l.text.items ≡ l.fn.text.items ++ lines_by (limit_line l.p.names) (take l.n (numbered l.p.policy.limits))
