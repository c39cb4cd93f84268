use Rattle.std.proofs.Common.{◌≡◌, ◌++◌, flat_map, take}
use Rattle.policy_text.specs.FaultTexts.{with_bar}
use Rattle.policy_text.proofs.telling.push_more.Given as goal

abbrev pub invariant-loop-name : goal.invariant-loop-name
invariant-loop-name l = l.text.items ≡ l.fn.text.items ++ flat_map with_bar (take l.name-index l.names)
