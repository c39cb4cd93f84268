use Rattle.std.proofs.Common.{◌≡◌, ◌<◌, ◌==◌, ℕ, zero, suc, ◌+◌, ◌-◌, List, [], ◌∷◌, ◌++◌, length, take, min, Bool, true, false, if◌then◌else◌, slice_index_or, append_assoc, refl, sym, ap, subst, ◌∙◌, arith}
use Rattle.std.proofs.lemmas.List.{take_more, length-take-le}
use Rattle.gt_io.specs.Frames.{Frame, blank_frame, begun, longer, pushed, PushesFront}
use Rattle.gt_io.proofs.framer.Framer.push_front.Goals as goal

-- the frame behind further bytes of its line
abbrev longer_by : Frame → List ℕ → Frame
longer_by g xs = record { number = min (g.number + length xs) 513; bytes = take 512 (g.bytes ++ xs); ended = false }

abbrev frame_with : ℕ → List ℕ → Bool → Frame
frame_with n xs t = record { number = n; bytes = xs; ended = t }

same_frame : {m n : ℕ} {xs ys : List ℕ} {t u : Bool} → m ≡ n → xs ≡ ys → t ≡ u → frame_with m xs t ≡ frame_with n ys u
same_frame p q r = λ i. frame_with (p i) (q i) (r i)

pushed_on : (f : Frame) (b : ℕ) → (b == 10) ≡ false → pushed f b ≡ longer (begun f) b
pushed_on f b other = ap (λ t. if t then record (begun f) { ended = true } else longer (begun f) b) other

not_ended : (f : Frame) → (begun f).ended ≡ false
not_ended f = go f.ended refl
  where
    go : (t : Bool) → f.ended ≡ t → (begun f).ended ≡ false
    go true e = ap (λ t. (if t then blank_frame else f).ended) e
    go false e = ap (λ t. (if t then blank_frame else f).ended) e ∙ e

take_front : (k : ℕ) (xs ys : List ℕ) → take k (take k xs ++ ys) ≡ take k (xs ++ ys)
take_front zero xs ys = refl
take_front (suc k) [] ys = refl
take_front (suc k) (x ∷ xs) ys = ap (λ l. x ∷ l) (take_front k xs ys)

one_more : (bytes : List ℕ) (n : ℕ) → n < length bytes → take (suc n) bytes ≡ take n bytes ++ slice_index_or bytes n 0 ∷ []
one_more bytes n low = let on : suc n ≡ n + 1 = omega arith in ap (λ k. take k bytes) on ∙ take_more bytes n 0 low

-- one byte more, as all of them at once
goes_on : (g : Frame) (bytes : List ℕ) (n : ℕ) → suc n < length bytes
    → longer_by g (take (suc (suc n)) bytes) ≡ longer (longer_by g (take (suc n) bytes)) (slice_index_or bytes (suc n) 0)
goes_on g bytes n low =
    let b = slice_index_or bytes (suc n) 0 in
    let some = take (suc n) bytes in
    let of_some : length some ≡ suc n = length-take-le (suc n) bytes (omega arith) in
    let of_more : length (take (suc (suc n)) bytes) ≡ suc (suc n) = length-take-le (suc (suc n)) bytes (omega arith) in
    same_frame (omega arith)
    (ap (λ xs. take 512 (g.bytes ++ xs)) (one_more bytes (suc n) low) ∙ ap (take 512) (sym (append_assoc g.bytes some (b ∷ []))) ∙ sym (take_front 512 (g.bytes ++ some) (b ∷ []))) refl

fronts : (f : Frame) (bytes : List ℕ) (n : ℕ) → n < length bytes → ((k : ℕ) → k < suc n → (slice_index_or bytes k 0 == 10) ≡ false)
    → PushesFront f bytes (suc n) (longer_by (begun f) (take (suc n) bytes))
unfolding PushesFront
fronts f bytes zero low others =
    let other = others 0 (omega arith) in
    let one = one_more bytes 0 low in
    (f, refl, other, ap (longer_by (begun f)) one ∙ sym (pushed_on f (slice_index_or bytes 0 0) other))
fronts f bytes (suc n) low others =
    let other = others (suc n) (omega arith) in
    let m = longer_by (begun f) (take (suc n) bytes) in
    (m, fronts f bytes n (omega arith) (λ k below. others k (omega arith)), other, goes_on (begun f) bytes n low ∙ sym (pushed_on m (slice_index_or bytes (suc n) 0) other))

pub returns-then-n-gt0-clause-frame : goal.returns-then-n-gt0-clause-frame
returns-then-n-gt0-clause-frame c =
    let f = c.args.self.now in
    let bytes = c.args.bytes.now in
    let n = c.front_len-n.result in
    let within = c.front_len-n.ensures.within in
    let some = c.if-n-gt0.true in
    let on : suc (n - 1) ≡ n = omega (arith, some) in
    let view = c.self.view_is ∙ c.begin.ensures in
    let number_is : min ((begun f).number + length (take n bytes)) 513 ≡ c.put_all-self-inside.result =
    ap (λ m. min (m + length (take n bytes)) 513) (sym (ap (λ (v : Frame). v.number) view)) ∙ sym c.put_all-self-inside.ensures.number in
    let bytes_are : take 512 ((begun f).bytes ++ take n bytes) ≡ take c.put_all-self-inside.result c.put_all-self-inside.new.line =
    ap (λ xs. take 512 (xs ++ take n bytes)) (sym (ap (λ (v : Frame). v.bytes) view)) ∙ sym c.put_all-self-inside.ensures.bytes in
    let ended_is : false ≡ c.self.inside.ended = sym (ap (λ (v : Frame). v.ended) view ∙ not_ended f) in
    subst (λ (g : Frame). PushesFront f bytes n g) (same_frame number_is bytes_are ended_is)
    (subst (λ k. PushesFront f bytes k (longer_by (begun f) (take k bytes))) on
    (fronts f bytes (n - 1) (omega (arith, some, within)) (λ k below. c.front_len-n.ensures.front k (omega (arith, below, some)))))

pub returns-else-n-gt0-clause-frame : goal.returns-else-n-gt0-clause-frame
unfolding PushesFront
returns-else-n-gt0-clause-frame c =
    let none : 0 ≡ c.front_len-n.result = omega (arith, c.if-n-gt0.false) in
    subst (λ k. PushesFront c.args.self.now c.args.bytes.now k c.args.self.now) none refl
