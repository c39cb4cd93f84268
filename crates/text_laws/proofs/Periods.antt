-- A period line that is written is hardly longer than the one that was read.
use Rattle.std.proofs.Common.{◌≡◌, ℕ, ◌+◌, ◌<◌, ◌≤◌, Bool, true, false, cond, nat_lt, List, [], ◌∷◌, ◌++◌, length, take, refl, ◌∙◌, ap, arith, length-append, inl, inr}
use Rattle.std.specs.Prelude.{codes, ◌-◌, ◌==◌, slice_index, if◌then◌else◌}
use Rattle.std.specs.List.{slice_split, onto_first, filter}
use Rattle.std.proofs.lemmas.List.{length-take}
use Rattle.std.proofs.lemmas.List.Splits.{slice_split-cons_yes, slice_split-cons_no}
use Rattle.gtrbac_model.specs.Period.{Expr}
use Rattle.gtrbac_model.proofs.Elements.{split}
use Rattle.gt_text.specs.Lines.{without_return}
use Rattle.gt_text.specs.Words.{is_blank, blank_cut, spaced}
use Rattle.civil_time.specs.Text.{civil_text}
use Rattle.periodic_expr.specs.Printed.{expr_text}
use Rattle.policy_words.specs.Reading.{expr_of_line}
use Rattle.policy_words.specs.Sayings.{period, said_words}
use Rattle.policy_words.specs.Spelling.{IsBound, SpellsPeriod}
use Rattle.text_laws.proofs.Exprs.{printed_short}
use Rattle.text_laws.proofs.Cutting.{some_part, rest_cut}
use Rattle.text_laws.proofs.Others.{room, spaced_room}

-- the words of a text take no more room than the text

parts_room : (text : List ℕ) → room (slice_split is_blank text) ≡ length text + 1
parts_room [] = refl
parts_room (x ∷ xs) =
    split (is_blank x) (λ yes. ap room (slice_split-cons_yes is_blank x xs yes) ∙ omega (arith, parts_room xs))
    (λ no.
    let (part, parts, is) = some_part xs in
    let first : room (onto_first x (slice_split is_blank xs)) ≡ room ((x ∷ part) ∷ parts) = ap (λ ps. room (onto_first x ps)) is in
    let whole : room (slice_split is_blank xs) ≡ room (part ∷ parts) = ap room is in
    ap room (slice_split-cons_no is_blank x xs no) ∙ first ∙ omega (arith, whole, parts_room xs))

kept_room : (p : List ℕ → Bool) (ws : List (List ℕ)) → room (filter p ws) ≤ room ws
kept_room p [] = omega arith
kept_room p (w ∷ ws) = by (p w) (kept_room p ws)
  where
    by : (b : Bool) → room (filter p ws) ≤ room ws → room (cond b (w ∷ filter p ws) (filter p ws)) ≤ room (w ∷ ws)
    by true h = omega (arith, h)
    by false h = omega (arith, h)

words_room : (text : List ℕ) → room (blank_cut text) ≤ length text + 1
words_room text = omega (arith, kept_room (λ w. nat_lt 0 (length w)) (slice_split is_blank text), parts_room text)

returned : (line : List ℕ) → length (without_return line) ≤ length line
returned line = by (slice_index line (length line - 1) == 13)
  where
    by : (b : Bool) → length (if b then take (length line - 1) line else line) ≤ length line
    by true = omega (arith, length-take (length line - 1) line)
    by false = omega arith

civil_size : (t : ℕ) → length (civil_text t) ≡ 16
civil_size t = refl

some_bound : (open_end : ℕ) (w : List ℕ) (t : ℕ) → IsBound open_end w t → 0 < length w
some_bound open_end w t (inl (is, at)) = let same = ap length is in omega (arith, same)
some_bound open_end w t (inr (low, is)) = let same = ap length is in omega (arith, same, civil_size t)

pub periods_short : (line n : List ℕ) (first last : ℕ) (e : Expr) → SpellsPeriod line n first last e
    → length (spaced (said_words (period n first last e))) ≤ length line + 51
periods_short line n first last e (bounds, order, says) =
    let r = rest_cut 4 (without_return line) in
    let words : room (blank_cut r.front) ≡ room (codes "period" ∷ n ∷ bounds.first_word ∷ bounds.last_word ∷ []) = ap room (r.words ∙ bounds.words) in
    let whole = ap length r.whole in
    omega (
      arith,
      words,
      whole,
      words_room r.front,
      returned line,
      length-append (r.front ++ expr_of_line line) r.blanks,
      length-append r.front (expr_of_line line),
      some_bound 0 bounds.first_word first bounds.is_first,
      some_bound 52_595_999 bounds.last_word last bounds.is_last,
      printed_short (expr_of_line line) e says,
      spaced_room (codes "period") (n ∷ civil_text first ∷ civil_text last ∷ expr_text e ∷ []),
      civil_size first,
      civil_size last,
    )
