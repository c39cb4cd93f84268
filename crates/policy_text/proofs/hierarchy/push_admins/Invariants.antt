use Rattle.std.proofs.Common.{◌≡◌, ◌++◌, take}
use Rattle.policy_text.specs.Sections.{lines_by, admin_line}
use Rattle.policy_text.proofs.hierarchy.push_admins.Given as goal

abbrev pub invariant-loop-u : goal.invariant-loop-u
invariant-loop-u l = l.text.items ≡ l.fn.text.items ++ lines_by (admin_line l.p.names) (take l.u-index l.p.policy.admins)
