use Rattle.std.proofs.Common.{◌≡◌, ◌≤◌, ◌+◌, ◌++◌, length, drop}
use Rattle.trigger_rules.proofs.rules.copied.Given as goal

-- the triggers so far are copied
abbrev pub invariant-loop-t : goal.invariant-loop-t
invariant-loop-t l =
    record {
      room : length l.t-items ≤ l.copy.spare + l.t-index;
      so_far : l.copy.items ++ drop l.t-index l.t-items ≡ l.t-items;
    }
