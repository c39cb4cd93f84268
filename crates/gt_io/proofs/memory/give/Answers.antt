use Rattle.std.proofs.Common.{◌≡◌, ℕ, ◌+◌, ◌≤◌, List, ◌++◌, length, take, drop, sym, ap, ◌∙◌, arith}
use Rattle.std.proofs.lemmas.List.{take-append-drop, take_all, take-append-le, drop-drop, length-take-le}
use Rattle.std.proofs.Math.Seq.{take-add}
use Rattle.gt_io.proofs.memory.give.Goals as goal

-- a copy of some bytes at the front of a buffer, and the bytes behind them
copied : (bytes copy rest : List ℕ) (at n : ℕ) → copy ≡ take n (drop at bytes) → n ≤ length (drop at bytes) → drop at bytes ≡ take n (copy ++ rest) ++ drop (at + n) bytes
copied bytes copy rest at n e h =
    let l : length copy ≡ n = ap length e ∙ length-take-le n (drop at bytes) h in
    sym (take-append-drop n (drop at bytes))
    ∙ ap (λ xs. xs ++ drop n (drop at bytes)) (sym e ∙ sym (take_all n copy (omega (arith, l))) ∙ sym (take-append-le n copy rest (omega (arith, l))))
    ∙ ap (λ ys. take n (copy ++ rest) ++ ys) (drop-drop n at bytes)

pub returns-clause-given : goal.returns-clause-given
returns-clause-given c = copied c.args.bytes.now c.copy_from_slice.new.self _ c.args.at c.min-n.result (cc) (grind arith)

pub returns-clause-taken : goal.returns-clause-taken
returns-clause-taken c = take-add c.args.at c.min-n.result c.args.bytes.now
