-- Names with a bar between them.
use Rattle.std.proofs.Common.{◌≡◌, ℕ, List, [], ◌∷◌, ◌++◌, flat_map, refl, sym, ap, ◌∙◌, append_assoc}
use Rattle.std.specs.Prelude.{codes}
use Rattle.gtrbac_model.proofs.Append.{append-nil}
use Rattle.gt_text.specs.Words.{joined_by}
use Rattle.policy_text.specs.FaultTexts.{with_bar, joined}

-- the first name, and each other with a bar before it
first_joined : (n : List ℕ) (more : List (List ℕ)) → n ++ flat_map with_bar more ≡ joined_by (codes ">") (n ∷ more)
first_joined n [] = append-nil n
first_joined n (m ∷ more) =
    ap (λ t. n ++ t) (append_assoc (codes ">") m (flat_map with_bar more)) ∙ sym (append_assoc n (codes ">") (m ++ flat_map with_bar more))
    ∙ ap (λ t. n ++ codes ">" ++ t) (first_joined m more)

pub joined_is : (ns : List (List ℕ)) → joined ns ≡ joined_by (codes ">") ns
joined_is [] = refl
joined_is (n ∷ ns) = first_joined n ns
