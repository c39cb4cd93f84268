use Rattle.std.proofs.Common.{◌≡◌, ◌++◌, take}
use Rattle.policy_words.specs.Sayings.{user}
use Rattle.policy_text.specs.Sections.{lines_by}
use Rattle.policy_text.proofs.declarations.push_users.Given as goal

abbrev pub invariant-loop-u : goal.invariant-loop-u
invariant-loop-u l = l.text.items ≡ l.fn.text.items ++ lines_by (λ n. user n) (take l.u l.p.names.users)
