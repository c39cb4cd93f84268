-- A text that is longer.
use Rattle.std.proofs.Common.{◌≡◌, ℕ, zero, suc, ◌≤◌, true, false, cond, List, [], ◌∷◌, ◌++◌, length, take, refl, sym, ap, subst, ◌∙◌, append-nil, append_assoc, arith}
use Rattle.std.proofs.lemmas.List.{append_cancel_left}
use mathlib.Core.List.{IsPrefix}
use Rattle.std.proofs.lemmas.List.Splits.{slice_split-cons_yes, slice_split-cons_no}
use Rattle.std.specs.List.{slice_split, onto_first}
use Rattle.connection_laws.specs.Cuts.{but_last, last_of, whole_lines, open_line}
use Rattle.gt_text.specs.Lines.{is_feed}

abbrev cut : List ℕ → List (List ℕ)
cut text = slice_split is_feed text

nonempty : (text : List ℕ) → (first : List ℕ) × (rest : List (List ℕ)) × (cut text ≡ first ∷ rest)
nonempty [] = ([], [], refl)
nonempty (x ∷ xs) =
    elim (is_feed x) as (λ c. (first : List ℕ) × (rest : List (List ℕ)) × (cond c ([] ∷ cut xs) (onto_first x (cut xs)) ≡ first ∷ rest)) [
      | true ↦ ([], cut xs, refl)
      | false ↦ let n = nonempty xs in (x ∷ n.0, n.1, ap (onto_first x) n.2)
    ]

abbrev onto_part : List ℕ → List (List ℕ) → List (List ℕ)
onto_part part [] = []
onto_part part (next ∷ more) = (part ++ next) ∷ more

-- the last part goes on in the first of the others
abbrev joined : List (List ℕ) → List (List ℕ) → List (List ℕ)
joined parts others = but_last parts ++ onto_part (last_of parts) others

joined_first : (x : ℕ) (first : List ℕ) (rest : List (List ℕ)) (next : List ℕ) (more : List (List ℕ)) → onto_first x (joined (first ∷ rest) (next ∷ more)) ≡ joined (onto_first x (first ∷ rest)) (next ∷ more)
joined_first x first [] next more = refl
joined_first x first (second ∷ rest) next more = refl

cut_on : (text more : List ℕ) → cut (text ++ more) ≡ joined (cut text) (cut more)
cut_on [] more = let k = nonempty more in subst (λ (s : List (List ℕ)). s ≡ joined ([] ∷ []) s) (sym k.2) refl
cut_on (x ∷ xs) more =
    let n = nonempty xs in
    let k = nonempty more in
    elim (is_feed x) as (λ c. cond c ([] ∷ cut (xs ++ more)) (onto_first x (cut (xs ++ more))) ≡ joined (cond c ([] ∷ cut xs) (onto_first x (cut xs))) (cut more)) [
      | true ↦
          ap (λ (s : List (List ℕ)). [] ∷ s) (cut_on xs more) ∙ subst (λ (s : List (List ℕ)). [] ∷ joined s (cut more) ≡ joined ([] ∷ s) (cut more)) (sym n.2) refl
      | false ↦
          ap (onto_first x) (cut_on xs more)
          ∙ subst (λ (s : List (List ℕ)). onto_first x (joined s (cut more)) ≡ joined (onto_first x s) (cut more)) (sym n.2)
          (subst (λ (s : List (List ℕ)). onto_first x (joined (n.0 ∷ n.1) s) ≡ joined (onto_first x (n.0 ∷ n.1)) s) (sym k.2) (joined_first x n.0 n.1 k.0 k.1))
    ]

but_last_behind : (parts : List (List ℕ)) (part : List ℕ) (more : List (List ℕ)) → but_last (parts ++ part ∷ more) ≡ parts ++ but_last (part ∷ more)
but_last_behind [] part more = refl
but_last_behind (p ∷ []) part more = refl
but_last_behind (p ∷ q ∷ rest) part more = ap (λ (s : List (List ℕ)). p ∷ s) (but_last_behind (q ∷ rest) part more)

last_behind : (parts : List (List ℕ)) (part : List ℕ) (more : List (List ℕ)) → last_of (parts ++ part ∷ more) ≡ last_of (part ∷ more)
last_behind [] part more = refl
last_behind (p ∷ []) part more = refl
last_behind (p ∷ q ∷ rest) part more = last_behind (q ∷ rest) part more

cut_feed : (text : List ℕ) (b : ℕ) → is_feed b ≡ true → cut (text ++ b ∷ []) ≡ whole_lines text ++ (open_line text ++ []) ∷ [] ∷ []
cut_feed text b e = cut_on text (b ∷ []) ∙ ap (joined (cut text)) (slice_split-cons_yes is_feed b [] e)

cut_byte : (text : List ℕ) (b : ℕ) → is_feed b ≡ false → cut (text ++ b ∷ []) ≡ whole_lines text ++ (open_line text ++ b ∷ []) ∷ []
cut_byte text b e = cut_on text (b ∷ []) ∙ ap (joined (cut text)) (slice_split-cons_no is_feed b [] e)

-- a line feed ends the line
pub lines_feed : (text : List ℕ) (b : ℕ) → is_feed b ≡ true → whole_lines (text ++ b ∷ []) ≡ whole_lines text ++ open_line text ∷ []
lines_feed text b e =
    ap but_last (cut_feed text b e) ∙ but_last_behind (whole_lines text) (open_line text ++ []) ([] ∷ []) ∙ ap (λ (l : List ℕ). whole_lines text ++ l ∷ []) (append-nil (open_line text))

pub open_feed : (text : List ℕ) (b : ℕ) → is_feed b ≡ true → open_line (text ++ b ∷ []) ≡ []
open_feed text b e = ap last_of (cut_feed text b e) ∙ last_behind (whole_lines text) (open_line text ++ []) ([] ∷ [])

-- another byte makes it longer
pub lines_byte : (text : List ℕ) (b : ℕ) → is_feed b ≡ false → whole_lines (text ++ b ∷ []) ≡ whole_lines text
lines_byte text b e = ap but_last (cut_byte text b e) ∙ but_last_behind (whole_lines text) (open_line text ++ b ∷ []) [] ∙ append-nil (whole_lines text)

pub open_byte : (text : List ℕ) (b : ℕ) → is_feed b ≡ false → open_line (text ++ b ∷ []) ≡ open_line text ++ b ∷ []
open_byte text b e = ap last_of (cut_byte text b e) ∙ last_behind (whole_lines text) (open_line text ++ b ∷ []) []

-- the lines of a text begin those of a longer one
pub lines_more : (text more : List ℕ) → IsPrefix (whole_lines text) (whole_lines (text ++ more))
lines_more text more =
    let k = nonempty more in
    (but_last ((open_line text ++ k.0) ∷ k.1), sym (ap but_last (cut_on text more ∙ ap (joined (cut text)) k.2) ∙ but_last_behind (whole_lines text) (open_line text ++ k.0) k.1))

-- each beginning of the lines that bytes end is what a beginning of the bytes ends
pub lines_begin : (text bytes : List ℕ) (lines : List (List ℕ)) (n : ℕ) → whole_lines (text ++ bytes) ≡ whole_lines text ++ lines → n ≤ length lines → (part : List ℕ) × IsPrefix part bytes × (whole_lines (text ++ part) ≡ whole_lines text ++ take n lines)
lines_begin text bytes lines zero is low = ([], (bytes, refl), ap whole_lines (append-nil text) ∙ sym (append-nil (whole_lines text)))
lines_begin text [] lines (suc n) is low =
    let none : lines ≡ [] = append_cancel_left (whole_lines text) lines [] (sym is ∙ ap whole_lines (append-nil text) ∙ sym (append-nil (whole_lines text))) in
    absurd (omega (arith, low, ap (λ (ls : List (List ℕ)). length ls) none))
lines_begin text (b ∷ bs) lines (suc n) is low =
    let next = text ++ b ∷ [] in
    let same : next ++ bs ≡ text ++ b ∷ bs = append_assoc text (b ∷ []) bs in
    let put : (part : List ℕ) → IsPrefix part bs → whole_lines (next ++ part) ≡ whole_lines text ++ take (suc n) lines → (part : List ℕ) × IsPrefix part (b ∷ bs) × (whole_lines (text ++ part) ≡ whole_lines text ++ take (suc n) lines) =
    λ part within e. (b ∷ part, (within.0, ap (λ (l : List ℕ). b ∷ l) within.1), ap whole_lines (sym (append_assoc text (b ∷ []) part)) ∙ e) in
    (elim (is_feed b) as (λ c. is_feed b ≡ c → (part : List ℕ) × IsPrefix part (b ∷ bs) × (whole_lines (text ++ part) ≡ whole_lines text ++ take (suc n) lines)) [
      | true ↦ λ e.
          let feed = lines_feed text b e in
          let more = lines_more next bs in
          let split : lines ≡ open_line text ∷ more.0 =
          append_cancel_left (whole_lines text) lines (open_line text ∷ more.0) (sym is ∙ ap whole_lines (sym same) ∙ sym more.1 ∙ ap (λ (ls : List (List ℕ)). ls ++ more.0) feed ∙ append_assoc (whole_lines text) (open_line text ∷ []) more.0) in
          let long = ap (λ (ls : List (List ℕ)). length ls) split in
          let r = lines_begin next bs more.0 n (sym more.1) (omega (arith, low, long)) in
          put r.0 r.1 (r.2 ∙ ap (λ (ls : List (List ℕ)). ls ++ take n more.0) feed ∙ append_assoc (whole_lines text) (open_line text ∷ []) (take n more.0) ∙ ap (λ (ls : List (List ℕ)). whole_lines text ++ take (suc n) ls) (sym split))
      | false ↦ λ e.
          let plain = lines_byte text b e in
          let r = lines_begin next bs lines (suc n) (ap whole_lines same ∙ is ∙ ap (λ (ls : List (List ℕ)). ls ++ lines) (sym plain)) low in
          put r.0 r.1 (r.2 ∙ ap (λ (ls : List (List ℕ)). ls ++ take (suc n) lines) plain)
    ]) refl
