use Rattle.std.proofs.Common.{◌≡◌, filter, take}
use Rattle.session_table.specs.NextDrops.{capped_in}
use Rattle.session_table.proofs.dropping.capped.Given as goal

abbrev pub invariant-loop-a : goal.invariant-loop-a
invariant-loop-a l =
    l.gone.items
    ≡ filter (capped_in l.caps l.over.charges.now.charged l.over.active.now.items l.over.after l.over.to)
    (take l.a-index l.active)
