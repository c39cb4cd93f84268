-- What is seen of the streams of bytes.
use Rattle.std.specs.Prelude.{ℕ, ◌+◌, List}
use Rattle.std.specs.declared.option.Option.{Option}

-- the bytes left, where that is told, how often a read has failed, and how often one has told the
-- end
pub record Intake : Type 0 where
  pub left : Option (List ℕ)
  pub faults : ℕ
  pub ends : ℕ

-- how often a read has failed or told the end, behind which nothing is to be read
abbrev pub stops : Intake → ℕ
stops i = i.faults + i.ends

-- the bytes written, where that is told, and how often a write has failed
pub record Output : Type 0 where
  pub written : Option (List ℕ)
  pub faults : ℕ
