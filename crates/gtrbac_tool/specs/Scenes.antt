-- What is seen of the surroundings of a call.
use Rattle.std.specs.Prelude.{ℕ, ◌+◌, List}
use Rattle.std.specs.declared.option.Option.{Option}
use Rattle.gt_io.specs.Shelf.{Contents, Stock}
use Rattle.gt_io.specs.Streams.{Intake, Output, stops}

-- The shelf, its texts, how often it failed, how often but for what it lacks, how often it was asked
-- for a text, and how often a call of it failed or told the end; the input, what it has left, how
-- often it failed, and how often it failed or told the end; what was written, and how often that
-- failed
pub record Scene (S I : Type 0) : Type 0 where
  pub shelf : S
  pub texts : Contents
  pub shelf_faults : ℕ
  pub hard_faults : ℕ
  pub asked : ℕ
  pub shelf_stops : ℕ
  pub input : I
  pub script : Option (List ℕ)
  pub input_faults : ℕ
  pub input_stops : ℕ
  pub written : Option (List ℕ)
  pub written_faults : ℕ

module _ {S I K : Type 0} (stock : S → Stock) (intake : I → Intake) (output : K → Output) where
  abbrev pub scene : S → I → K → Scene S I
  scene shelf input out =
      record {
        shelf = shelf;
        texts = (stock shelf).contents;
        shelf_faults = (stock shelf).faults;
        hard_faults = (stock shelf).hard_faults;
        asked = (stock shelf).asked;
        shelf_stops = (stock shelf).faults + (stock shelf).ends;
        input = input;
        script = (intake input).left;
        input_faults = (intake input).faults;
        input_stops = stops (intake input);
        written = (output out).written;
        written_faults = (output out).faults;
      }
