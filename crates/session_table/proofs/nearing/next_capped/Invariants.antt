use Rattle.std.proofs.Common.{take}
use Rattle.std.specs.List.{list_any}
use Rattle.session_table.specs.NextDrops.{IsFirstOrNone, capped_in}
use Rattle.session_table.proofs.nearing.next_capped.Given as goal

abbrev pub invariant-loop-a : goal.invariant-loop-a
invariant-loop-a l = IsFirstOrNone (λ t. list_any (capped_in l.caps l.charges.charged l.active.items l.now t) (take l.a-index l.rows)) l.now l.next
