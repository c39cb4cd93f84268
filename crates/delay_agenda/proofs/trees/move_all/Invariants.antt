use Rattle.std.proofs.Common.{◌≡◌, ◌≤◌, vec_len, vec_capacity}
use Rattle.delay_agenda.specs.Rows.{BothRise, pairs_of}
use Rattle.delay_agenda.proofs.trees.move_all.Given as goal

-- the pairs are the same, and still in order
abbrev pub invariant-loop-tree : goal.invariant-loop-tree
invariant-loop-tree l =
    record {
      rise : BothRise l.tree.keys l.row.items;
      set : pairs_of l.tree.keys l.row.items ≡ pairs_of l.initial.tree.keys l.initial.row.items;
      capacity : vec_capacity l.row ≡ vec_capacity l.initial.row;
      len : vec_len l.row ≤ vec_len l.initial.row;
    }

abbrev pub decreases-loop-tree : goal.decreases-loop-tree
decreases-loop-tree l = vec_len l.row
