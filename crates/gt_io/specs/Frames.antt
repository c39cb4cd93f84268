-- What a framer knows of the line that it is in.
use Rattle.std.specs.Prelude.{◌≡◌, ℕ, zero, suc, ◌+◌, ◌==◌, List, [], ◌∷◌, ◌++◌, length, take, slice_index_or, min, nat_le, Bool, true, false, if◌then◌else◌}
use Rattle.gt_io.specs.declared.framer.Framed.{Framed}
use Rattle.gt_io.specs.declared.framer.Framed.TheVariants.{More, Whole, Long}
use Rattle.gt_base.specs.declared.limits.TheConstants.{LONGEST_LINE}

-- the number of the line's bytes, kept up to 513; the first 512 of them; whether its line feed has
-- come
pub record Frame : Type 0 where
  pub number : ℕ
  pub bytes : List ℕ
  pub ended : Bool

abbrev pub blank_frame : Frame
blank_frame = record { number = 0; bytes = []; ended = false }

-- where a line feed has come, the next byte begins a new line
abbrev pub begun : Frame → Frame
begun f = if f.ended then blank_frame else f

-- one more byte of the line
abbrev pub longer : Frame → ℕ → Frame
longer f b =
    record {
      number = min (f.number + 1) (LONGEST_LINE + 1);
      bytes = take LONGEST_LINE (f.bytes ++ b ∷ []);
      ended = false;
    }

abbrev pub pushed : Frame → ℕ → Frame
pushed f b = if b == 10 then record (begun f) { ended = true } else longer (begun f) b

-- the frame behind the first n of these bytes, of which none is a line feed
unfoldable pub PushesFront : Frame → List ℕ → ℕ → Frame → Type 0
PushesFront f bytes zero f' = f' ≡ f
PushesFront f bytes (suc n) f' =
    (m : Frame) × PushesFront f bytes n m × ((slice_index_or bytes n 0 == 10) ≡ false)
    × (f' ≡ pushed m (slice_index_or bytes n 0))

-- what the framer answers to a byte
abbrev pub framed : Frame → ℕ → Framed
framed f b =
    if b == 10 then (if nat_le (begun f).number LONGEST_LINE then Whole else Long) else More

-- the frame of a line that has these bytes so far
abbrev pub frame_of : List ℕ → Frame
frame_of line =
    record {
      number = min (length line) (LONGEST_LINE + 1);
      bytes = take LONGEST_LINE line;
      ended = false;
    }
