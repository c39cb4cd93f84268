-- A name that is copied into zeros is stored.
use Rattle.std.proofs.Common.{◌≡◌, ℕ, true, List, ◌++◌, length, take, drop, replicate, ap, ◌∙◌}
use Rattle.std.proofs.lemmas.List.{take_at, drop_at, drop-replicate}
use Rattle.gt_base.specs.Names.{is_name, IsStored}

pub stored_new : (text copied : List ℕ) → is_name text ≡ true → copied ≡ text
    → IsStored (copied ++ drop (length text) (replicate 32 0)) (length text)
stored_new text copied name e =
    let rest = drop (length text) (replicate 32 0) in
    let front : take (length text) (copied ++ rest) ≡ text = take_at copied rest (length text) (ap length e) ∙ e in
    record {
      name = ap is_name front ∙ name;
      zeros = drop_at copied rest (length text) (ap length e) ∙ drop-replicate (length text) 32 0;
      count = ap length front;
    }
