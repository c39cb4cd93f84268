-- What a framer knows of a text.
use Rattle.std.specs.Prelude.{◌≡◌, ℕ, List}
use Rattle.gt_io.specs.Frames.{Frame, begun, frame_of}
use Rattle.connection_laws.specs.Cuts.{open_line}

-- the frame stands for the line that is not ended
abbrev pub FrameFits : Frame → List ℕ → Type 0
FrameFits f text = begun f ≡ frame_of (open_line text)
