use Rattle.std.proofs.Common.{◌≡◌, ◌++◌, take}
use Rattle.policy_words.specs.Sayings.{perm}
use Rattle.policy_text.specs.Sections.{lines_by}
use Rattle.policy_text.proofs.declarations.push_perms.Given as goal

abbrev pub invariant-loop-q : goal.invariant-loop-q
invariant-loop-q l = l.text.items ≡ l.fn.text.items ++ lines_by (λ n. perm n) (take l.q l.p.names.perms)
