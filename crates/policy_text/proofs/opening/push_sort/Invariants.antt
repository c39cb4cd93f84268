use Rattle.std.proofs.Common.{◌≡◌, ◌++◌, take, flat_map}
use Rattle.policy_text.specs.Sections.{opening_text}
use Rattle.policy_text.proofs.opening.push_sort.Given as goal

abbrev pub invariant-loop-f : goal.invariant-loop-f
invariant-loop-f l = l.text.items ≡ l.fn.text.items ++ flat_map (opening_text l.p.names l.sort) (take l.f-index l.fluents)
