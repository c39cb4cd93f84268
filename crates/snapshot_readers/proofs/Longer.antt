-- The beginnings of a longer history.
use Rattle.std.proofs.Common.{◌≡◌, ℕ, ◌≤◌, List, length, take, sym, ap, ◌∙◌, arith, length-append}
use Rattle.std.proofs.lemmas.List.{take-append-le}
use mathlib.Core.List.{IsPrefix}
use Rattle.gt_base.specs.declared.requests.Entry.{Entry}

-- the first entries of a longer list
pub take_longer : (n : ℕ) (h h' : List Entry) → IsPrefix h h' → n ≤ length h → take n h' ≡ take n h
take_longer n h h' more low = ap (take n) (sym more.1) ∙ take-append-le n h more.0 low

pub longer : (h h' : List Entry) → IsPrefix h h' → length h ≤ length h'
longer h h' more = omega (arith, sym (ap length more.1) ∙ length-append h more.0)
