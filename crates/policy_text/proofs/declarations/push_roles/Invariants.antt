use Rattle.std.proofs.Common.{◌≡◌, ◌++◌, take}
use Rattle.policy_words.specs.Sayings.{role}
use Rattle.policy_text.specs.Sections.{lines_by}
use Rattle.policy_text.proofs.declarations.push_roles.Given as goal

abbrev pub invariant-loop-r : goal.invariant-loop-r
invariant-loop-r l = l.text.items ≡ l.fn.text.items ++ lines_by (λ n. role n) (take l.r l.p.names.roles)
