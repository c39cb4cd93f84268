use Rattle.std.proofs.Common.{◌≡◌, ◌++◌, take, flat_map}
use Rattle.policy_text.specs.Sections.{caps_text, numbered}
use Rattle.policy_text.proofs.hierarchy.push_caps.Given as goal

abbrev pub invariant-loop-r : goal.invariant-loop-r
invariant-loop-r l = l.text.items ≡ l.fn.text.items ++ flat_map (caps_text l.p.names) (take l.r (numbered l.p.policy.caps))
