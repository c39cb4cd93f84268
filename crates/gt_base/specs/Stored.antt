-- A name gives its bytes back.
use Rattle.std.specs.Prelude.{◌≡◌, ℕ, ◌-◌, List, ◌++◌, length, take, replicate}
use Rattle.std.proofs.Common.{ap, sym, ◌∙◌}
use Rattle.std.proofs.lemmas.List.{take-append-drop}
use Rattle.gt_base.specs.Names.{IsStored}
use Rattle.gt_base.specs.declared.names.Name.TheInside.{Inside}
use Rattle.gt_base.specs.declared.limits.TheConstants.{LONGEST_NAME}

abbrev with_zeros : List ℕ → Inside
with_zeros n = record { bytes = n ++ replicate (LONGEST_NAME - length n) 0; len = length n }

pub stored_again : (a : Inside) → IsStored a.bytes a.len → with_zeros (take a.len a.bytes) ≡ a
stored_again a h =
    let built : List ℕ → ℕ → Inside = λ bs n. record { bytes = bs; len = n } in
    let name : List ℕ = take a.len a.bytes in
    let whole : name ++ replicate (LONGEST_NAME - length name) 0 ≡ a.bytes =
    ap (λ n. name ++ replicate (LONGEST_NAME - n) 0) h.count ∙ ap
    (λ zs. name ++ zs) (sym h.zeros) ∙ take-append-drop a.len a.bytes in
    let same : built (name ++ replicate (LONGEST_NAME - length name) 0) (length name)
    ≡ built a.bytes a.len =
    ap (λ bs. built bs (length name)) whole ∙ ap (built a.bytes) h.count in
    same
