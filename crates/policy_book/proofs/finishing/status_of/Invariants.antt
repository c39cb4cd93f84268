use Rattle.std.proofs.Common.{◌≡◌, ◌+◌, ◌-◌, ◌≤◌, length, drop}
use Rattle.gt_base.specs.Sets.{none}
use Rattle.policy_words.specs.Making.{edges_from}
use Rattle.policy_book.proofs.Openings.{with_all}
use Rattle.policy_book.proofs.finishing.status_of.Given as goal

-- those to come are added to those so far, and there is room for them and the edges
abbrev pub invariant-loop-fluent : goal.invariant-loop-fluent
invariant-loop-fluent l =
    record {
      on : with_all l.status.set (drop l.fluent-index l.fluents) ≡ with_all none l.fluents;
      room : length l.fluents + l.linked ≤ l.status.spare + l.fluent-index;
    }

abbrev pub invariant-loop-edge : goal.invariant-loop-edge
invariant-loop-edge l =
    record {
      on : with_all l.status.set (edges_from l.edge (l.linked - l.edge)) ≡ with_all (with_all none l.fluents) (edges_from 0 l.linked);
      room : l.linked ≤ l.status.spare + l.edge;
    }
