-- What a framer knows of the text so far.
use Rattle.std.proofs.Common.{◌≡◌, ℕ, zero, suc, ◌+◌, ◌<◌, ◌≤◌, true, false, List, [], ◌∷◌, ◌++◌, length, map, take, drop, get_or, add-zero, min, nat_le, refl, sym, ap, subst, ◌∙◌, arith, append_assoc, length-append, take-append-drop, Result}
use mathlib.Core.List.{IsPrefix}
use Rattle.std.proofs.Math.Seq.{take-add}
use Rattle.std.specs.Prelude.{if◌then◌else◌}
use mathlib.Core.Logic.{dite}
use native.Mathlib.Decide.{dec_le}
use Rattle.std.proofs.lemmas.Bool.{leb-true, leb-false}
use Rattle.std.proofs.lemmas.List.{append-nil, map-append, length-drop, get_or-drop, take_all, take_more, take-append-le, length-take-le}
use Rattle.gt_io.specs.declared.framer.Framed.{Framed}
use Rattle.gt_io.specs.declared.framer.Framed.TheVariants.{More, Whole, Long}
use Rattle.gt_io.specs.Frames.{Frame, begun, longer, pushed, framed, frame_of, PushesFront}
use Rattle.gt_base.specs.declared.requests.Actor.TheVariants.{Nobody}
use Rattle.policy_words.specs.Naming.{NamedPolicy}
use Rattle.request_text.specs.declared.lines.Line.{Line}
use Rattle.request_text.specs.declared.lines.LineFault.{LineFault}
use Rattle.request_text.specs.Phrases.{read_line}
use Rattle.connection_laws.specs.Attending.{AreRead}
use Rattle.connection_laws.specs.Cuts.{whole_lines, open_line}
use Rattle.gt_text.specs.Lines.{is_feed}
use Rattle.connection_laws.specs.Fits.{FrameFits}
use Rattle.connection_laws.proofs.Cutting.{lines_feed, open_feed, lines_byte, open_byte}

cut_again : (line : List ℕ) (b : ℕ) → take 512 (line ++ b ∷ []) ≡ take 512 (take 512 line ++ b ∷ [])
cut_again line b =
    dite (dec_le (length line) 512) (λ few. ap (λ (l : List ℕ). take 512 (l ++ b ∷ [])) (sym (take_all 512 line few))) (λ many.
    let full : 512 ≤ length line = omega arith in
    let front = length-take-le 512 line full in
    take-append-le 512 line (b ∷ []) full
    ∙ sym (take-append-le 512 (take 512 line) (b ∷ []) (omega (arith, front)) ∙ take_all 512 (take 512 line) (omega (arith, front))))

abbrev of_parts : ℕ → List ℕ → Frame
of_parts n bytes = record { number = n; bytes = bytes; ended = false }

-- one more byte of the line
frame_longer : (line : List ℕ) (b : ℕ) → frame_of (line ++ b ∷ []) ≡ longer (frame_of line) b
frame_longer line b =
    let long = length-append line (b ∷ []) in
    let number : min (length (line ++ b ∷ [])) 513 ≡ min (min (length line) 513 + 1) 513 = omega (arith, long) in
    ap (λ n. of_parts n (take 512 (line ++ b ∷ []))) number ∙ ap (of_parts (min (min (length line) 513 + 1) 513)) (cut_again line b)

pub fits_byte : (f : Frame) (text : List ℕ) (b : ℕ) → FrameFits f text → is_feed b ≡ false → FrameFits (pushed f b) (text ++ b ∷ [])
fits_byte f text b fits e =
    ap (λ c. begun (if c then record (begun f) { ended = true } else longer (begun f) b)) e
    ∙ ap (λ (g : Frame). longer g b) fits ∙ sym (frame_longer (open_line text) b) ∙ ap frame_of (sym (open_byte text b e))

pub fits_feed : (f : Frame) (text : List ℕ) (b : ℕ) → is_feed b ≡ true → FrameFits (pushed f b) (text ++ b ∷ [])
fits_feed f text b e =
    ap (λ c. begun (if c then record (begun f) { ended = true } else longer (begun f) b)) e ∙ ap frame_of (sym (open_feed text b e))

abbrev of_number : ℕ → Framed
of_number n = if nat_le n 512 then Whole else Long

-- what the answer to a byte says of it
answer_is : (f : Frame) (b : ℕ) → (framed f b ≡ More → is_feed b ≡ false) × (framed f b ≡ Whole → (is_feed b ≡ true) × (nat_le (begun f).number 512 ≡ true)) × (framed f b ≡ Long → (is_feed b ≡ true) × (nat_le (begun f).number 512 ≡ false))
answer_is f b =
    elim (is_feed b) as (λ c. ((if c then of_number (begun f).number else More) ≡ More → c ≡ false) × ((if c then of_number (begun f).number else More) ≡ Whole → (c ≡ true) × (nat_le (begun f).number 512 ≡ true))
    × ((if c then of_number (begun f).number else More) ≡ Long → (c ≡ true) × (nat_le (begun f).number 512 ≡ false))) [
      | true ↦ elim (nat_le (begun f).number 512) as (λ d. ((if d then Whole else Long) ≡ More → true ≡ false) × ((if d then Whole else Long) ≡ Whole → (true ≡ true) × (d ≡ true)) × ((if d then Whole else Long) ≡ Long → (true ≡ true) × (d ≡ false))) [
        | true ↦ (λ e. absurd cc, λ e. (refl, refl), λ e. absurd cc)
        | false ↦ (λ e. absurd cc, λ e. absurd cc, λ e. (refl, refl))
      ]
      | false ↦ (λ e. refl, λ e. absurd cc, λ e. absurd cc)
    ]

pub more_is : (f : Frame) (b : ℕ) → framed f b ≡ More → is_feed b ≡ false
more_is f b = (answer_is f b).0

-- a whole line is the one that was open
pub whole_is : (f : Frame) (text : List ℕ) (b : ℕ) → FrameFits f text → framed f b ≡ Whole → (is_feed b ≡ true) × ((pushed f b).bytes ≡ open_line text) × (length (open_line text) ≤ 512)
whole_is f text b fits h =
    let w = (answer_is f b).1 h in
    let low : (begun f).number ≤ 512 = leb-true (begun f).number 512 w.1 in
    let number = ap (λ (g : Frame). g.number) fits in
    let short : length (open_line text) ≤ 512 = omega (arith, low, number) in
    (w.0, ap (λ c. (if c then record (begun f) { ended = true } else longer (begun f) b).bytes) w.0 ∙ ap (λ (g : Frame). g.bytes) fits ∙ take_all 512 (open_line text) short, short)

-- a long one has more bytes than a line may have
pub long_is : (f : Frame) (text : List ℕ) (b : ℕ) → FrameFits f text → framed f b ≡ Long → (is_feed b ≡ true) × (512 < length (open_line text))
long_is f text b fits h =
    let w = (answer_is f b).2 h in
    let high : 512 < (begun f).number = leb-false (begun f).number 512 w.1 in
    let number = ap (λ (g : Frame). g.number) fits in
    (w.0, omega (arith, high, number))

-- the first bytes of a piece and the next ones begin it
pub piece_on : (piece rest : List ℕ) (i n : ℕ) → rest ≡ drop i piece → take i piece ++ take n rest ≡ take (i + n) piece
piece_on piece rest i n is = sym (take-add i n piece ∙ ap (λ (l : List ℕ). take i piece ++ take n l) (sym is))

pub begins_piece : {xs : List ℕ} (piece : List ℕ) (i : ℕ) → xs ≡ take i piece → IsPrefix xs piece
begins_piece piece i is = (drop i piece, ap (λ (l : List ℕ). l ++ drop i piece) is ∙ take-append-drop i piece)

-- lines that are read ahead of their turn
module _ (np : NamedPolicy) where
  -- a byte within a line ends none
  pub reads_byte : (text : List ℕ) (b : ℕ) (f : Frame) → FrameFits f text → is_feed b ≡ false → AreRead np text (b ∷ []) (pushed f b) []
  reads_byte text b f fits other = record { lines = []; lines_are = lines_byte text b other ∙ sym (append-nil (whole_lines text)); said_are = refl; frame_fits = fits_byte f text b fits other }

  -- a line feed ends the line that was open
  pub reads_feed : (text : List ℕ) (b : ℕ) (f : Frame) (r : Result Line LineFault) → is_feed b ≡ true → read_line np Nobody false (open_line text) ≡ r → AreRead np text (b ∷ []) (pushed f b) (r ∷ [])
  reads_feed text b f r feed is = record { lines = open_line text ∷ []; lines_are = lines_feed text b feed; said_are = ap (λ (x : Result Line LineFault). x ∷ []) is; frame_fits = fits_feed f text b feed }

  -- the next byte of a piece
  pub reads_next : (text piece : List ℕ) (i : ℕ) (f g : Frame) (rs ss : List (Result Line LineFault)) → i < length piece → AreRead np text (take i piece) f rs → AreRead np (text ++ take i piece) (get_or piece i 0 ∷ []) g ss → AreRead np text (take (i + 1) piece) g (rs ++ ss)
  reads_next text piece i f g rs ss low a b =
      let same : (text ++ take i piece) ++ get_or piece i 0 ∷ [] ≡ text ++ take (i + 1) piece = append_assoc text (take i piece) (get_or piece i 0 ∷ []) ∙ ap (λ (l : List ℕ). text ++ l) (sym (take_more piece i 0 low)) in
      record {
        lines = a.lines ++ b.lines;
        lines_are = ap whole_lines (sym same) ∙ b.lines_are ∙ ap (λ (ls : List (List ℕ)). ls ++ b.lines) a.lines_are ∙ append_assoc (whole_lines text) a.lines b.lines;
        said_are = map-append (read_line np Nobody false) a.lines b.lines ∙ ap (λ (l : List (Result Line LineFault)). l ++ map (read_line np Nobody false) b.lines) a.said_are ∙ ap (λ (l : List (Result Line LineFault)). rs ++ l) b.said_are;
        frame_fits = subst (FrameFits g) same b.frame_fits;
      }

  -- the front of a line ends none
  pub reads_past : (text piece rest : List ℕ) (i n : ℕ) (f g : Frame) (rs : List (Result Line LineFault)) → rest ≡ drop i piece → n ≤ length rest → AreRead np text (take i piece) f rs → PushesFront f rest n g → AreRead np text (take (i + n) piece) g rs
  unfolding PushesFront
  reads_past text piece rest i zero f g rs is low a front = subst (λ (h : Frame). AreRead np text (take (i + 0) piece) h rs) (sym front) (subst (λ (k : ℕ). AreRead np text (take k piece) f rs) (sym (add-zero i)) a)
  reads_past text piece rest i (suc n) f g rs is low a (m, front, other, e) =
      let long = ap (λ (l : List ℕ). length l) is ∙ length-drop i piece in
      let byte : get_or rest n 0 ≡ get_or piece (i + n) 0 = ap (λ (l : List ℕ). get_or l n 0) is ∙ get_or-drop i piece n 0 in
      let b = reads_past text piece rest i n f m rs is (omega (arith, low)) a front in
      let next = reads_byte (text ++ take (i + n) piece) (get_or piece (i + n) 0) m b.frame_fits (subst (λ (x : ℕ). is_feed x ≡ false) byte other) in
      let all = reads_next text piece (i + n) m (pushed m (get_or piece (i + n) 0)) rs [] (omega (arith, low, long)) b next in
      let one : i + n + 1 ≡ i + suc n = omega arith in
      subst (λ (k : ℕ). AreRead np text (take k piece) g rs) one (subst (λ (h : Frame). AreRead np text (take (i + n + 1) piece) h rs) (sym (e ∙ ap (pushed m) byte)) (subst (λ (l : List (Result Line LineFault)). AreRead np text (take (i + n + 1) piece) (pushed m (get_or piece (i + n) 0)) l) (append-nil rs) all))
