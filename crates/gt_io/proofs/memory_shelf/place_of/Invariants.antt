use Rattle.std.proofs.Common.{◌≡◌, drop}
use Rattle.gt_io.specs.MemoryShelf.{file_text}
use Rattle.gt_io.proofs.memory_shelf.place_of.Given as goal

-- no file before this one has the name
abbrev pub invariant-loop-i : goal.invariant-loop-i
invariant-loop-i l = file_text (drop l.i l.files) l.name ≡ file_text l.files l.name
