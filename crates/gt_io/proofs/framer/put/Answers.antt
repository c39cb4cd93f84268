use Rattle.std.proofs.Common.{◌≡◌, ℕ, ◌+◌, ◌<◌, ◌≤◌, List, [], ◌∷◌, ◌++◌, length, take, slice_set, sym, ap, ◌∙◌, arith, length-append}
use Rattle.std.proofs.lemmas.List.{take_all, take_more_set, take-append-le, length-take-le}
use Rattle.gt_io.proofs.framer.put.Goals as goal

put_in : (line : List ℕ) (n b : ℕ) → length line ≡ 512 → n < 512 → take (n + 1) (slice_set line n b) ≡ take 512 (take n line ++ b ∷ [])
put_in line n b long low =
    let one = length-append (take n line) (b ∷ []) in
    let front = length-take-le n line (omega (arith, long)) in
    take_more_set line n b (omega (arith, long)) ∙ sym (take_all 512 (take n line ++ b ∷ []) (omega (arith, one, front)))

put_past : (line : List ℕ) (n b : ℕ) → length line ≡ 512 → 512 ≤ n → take 513 line ≡ take 512 (take n line ++ b ∷ [])
put_past line n b long high =
    take_all 513 line (omega (arith, long))
    ∙ sym (ap (λ xs. take 512 (xs ++ b ∷ [])) (take_all n line (omega (arith, long))) ∙ take-append-le 512 line (b ∷ []) (omega (arith, long)) ∙ take_all 512 line (omega (arith, long)))

pub returns-then-number-lt-LONGEST_LINE-clause-bytes : goal.returns-then-number-lt-LONGEST_LINE-clause-bytes
returns-then-number-lt-LONGEST_LINE-clause-bytes c =
    put_in c.args.line.now c.args.number c.args.b c.requires.room c.if-number-lt-LONGEST_LINE.true

pub returns-clause-bytes : goal.returns-clause-bytes
returns-clause-bytes c = put_past c.args.line.now c.args.number c.args.b c.requires.room c.if-number-lt-LONGEST_LINE.false
