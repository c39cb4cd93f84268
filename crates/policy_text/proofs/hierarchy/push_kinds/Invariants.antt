use Rattle.std.proofs.Common.{◌≡◌, ◌++◌, take, flat_map}
use Rattle.policy_text.specs.Sections.{kind_text}
use Rattle.policy_text.proofs.hierarchy.push_kinds.Given as goal

abbrev pub invariant-loop-kind : goal.invariant-loop-kind
invariant-loop-kind l = l.text.items ≡ l.fn.text.items ++ flat_map (kind_text l.p.names (l.r.0, l.caps)) (take l.kind-index l.kinds)
