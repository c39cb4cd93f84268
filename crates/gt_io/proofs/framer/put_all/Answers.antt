use Rattle.std.proofs.Common.{◌≡◌, ◌≤◌, ℕ, ◌+◌, ◌-◌, List, ◌++◌, length, take, drop, min, sym, ap, ◌∙◌, arith}
use Rattle.std.proofs.lemmas.List.{take_min, length-take-le, length-drop}
use Rattle.std.proofs.lemmas.Slice.{take-put_mid}
use Rattle.std.proofs.Math.Seq.{take-append-add}
use borrow.Rule.Slice.PartMut.{put_mid, mid_of, same_len_mid}
use Rattle.gt_io.proofs.framer.put_all.Goals as goal

put_part : (line front ys : List ℕ) (number start kept k result : ℕ) → length line ≡ 512 → number ≤ 513
    → start ≡ min number 512 → kept ≡ min (length front) (512 - start) → k ≡ kept
    → result ≡ min (number + length front) 513 → ys ≡ take kept front
    → take result (put_mid start k line ys) ≡ take 512 (take number line ++ front)
put_part line front ys number start kept k result long top start_is kept_is k_is result_is ys_is =
    let P = put_mid start k line ys in
    let of_front : length (take kept front) ≡ kept = length-take-le kept front (omega arith) in
    let of_ys : length ys ≡ kept = ap length ys_is ∙ of_front in
    let of_start : length (take start line) ≡ start = length-take-le start line (omega arith) in
    let of_rest : length (drop start line) ≡ length line - start = length-drop start line in
    let of_mid : length (mid_of start k line) ≡ k = length-take-le k (drop start line) (omega arith) in
    let whole : length P ≡ length line = same_len_mid start k line ys (of_ys ∙ sym (of_mid ∙ k_is)) in
    let cut : min result (length P) ≡ start + length ys = omega arith in
    let kept' : min (512 - start) (length front) ≡ kept = omega arith in
    let start' : min number (length line) ≡ start = omega arith in
    let all : 512 ≡ length (take start line) + (512 - start) = omega arith in
    sym (take_min result P)
    ∙ take-put_mid start k line ys (min result (length P)) cut (omega arith)
    ∙ ap (λ xs. take start line ++ xs) (ys_is ∙ (ap (λ n. take n front) (sym kept') ∙ take_min (512 - start) front))
    ∙ sym (take-append-add (take start line) front (512 - start))
    ∙ ap (λ n. take n (take start line ++ front)) (sym all)
    ∙ ap (λ xs. take 512 (xs ++ front)) (ap (λ n. take n line) (sym start') ∙ take_min number line)

pub returns-clause-bytes : goal.returns-clause-bytes
returns-clause-bytes c =
    put_part c.args.line.now c.args.front.now c.copy_from_slice.new.self c.args.number c.min-start.result c.min-kept.result
    (c.min-start.result + c.min-kept.result - c.min-start.result) c.min.result c.requires.room c.requires.number
    c.min-start.ensures c.min-kept.ensures (omega arith) c.min.ensures c.copy_from_slice.ensures.after
