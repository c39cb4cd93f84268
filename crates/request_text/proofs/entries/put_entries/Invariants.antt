use Rattle.std.proofs.Common.{◌≡◌, ◌≤◌, ◌<◌, ◌+◌, ◌++◌, flat_map, length}
use Rattle.request_text.specs.Fitting.{FitPages}
use Rattle.request_text.specs.Replies.{entry_line}
use Rattle.request_text.proofs.entries.put_entries.Given as goal

abbrev pub invariant-loop-rest : goal.invariant-loop-rest
invariant-loop-rest l =
    record {
      text : l.fn.into.items ++ flat_map (entry_line l.p) l.entries ≡ l.into.items ++ flat_map (entry_line l.p) l.rest;
      fit : FitPages l.p.policy l.rest;
      fewer : l.into.spare < 33_584 → length l.rest < length l.entries;
      within : length l.rest ≤ length l.entries;
      kept : l.fn.into.spare + length l.fn.into.items ≤ l.into.spare + length l.into.items;
    }

abbrev pub decreases-loop-rest : goal.decreases-loop-rest
decreases-loop-rest l = length l.rest
