-- Lines that say one thing each, in their order.
use Rattle.std.proofs.Common.{◌≡◌, ℕ, zero, suc, ◌+◌, ◌≤◌, ◌<◌, true, List, [], ◌∷◌, ◌++◌, map, Ok, refl, sym, ap, ◌∙◌, subst, arith}
use Rattle.std.specs.List.{list_all, range_with_len}
use Rattle.gtrbac_model.proofs.Elements.{and_true}
use Rattle.policy_words.specs.declared.versions.TextVersion.{TextVersion}
use Rattle.policy_words.specs.declared.versions.TextVersion.TheVariants.{One}
use Rattle.policy_words.specs.Sayings.{SaidView}
use Rattle.policy_words.specs.Reading.{and_then, read_lines}
use Rattle.policy_book.specs.Laws.{numbered_from}
use Rattle.policy_lines.specs.Laws.{has_no_feed}
use Rattle.policy_text.proofs.LineByLine.{said_line}
use Rattle.gen_laws.proofs.Spelled.{Says}

abbrev pub Lines : List SaidView → List (List ℕ) → Type 0
Lines [] [] = Unit {0}
Lines (s ∷ ss) (l ∷ ls) = Says s l × Lines ss ls
Lines _ _ = ⊥

pub lines_joined : (as' bs : List SaidView) (ks ls : List (List ℕ)) → Lines as' ks → Lines bs ls → Lines (as' ++ bs) (ks ++ ls)
lines_joined [] bs [] ls h g = g
lines_joined (a ∷ as') bs (k ∷ ks) ls h g = (h.0, lines_joined as' bs ks ls h.1 g)
lines_joined [] bs (k ∷ ks) ls h g = absurd h
lines_joined (a ∷ as') bs [] ls h g = absurd h

-- a section without lines
pub no_lines : (as' bs : List SaidView) (ls : List (List ℕ)) → as' ≡ [] → Lines bs ls → Lines (as' ++ bs) ls
no_lines as' bs ls none h = subst (λ (xs : List SaidView). Lines (xs ++ bs) ls) (sym none) h

module _ {A : Type 0} (say : A → SaidView) (f : ℕ → A) (g : ℕ → List ℕ) where
  -- a line for each number
  pub lines_same : (a n : ℕ) → ((i : ℕ) → a ≤ i → i < a + n → Says (say (f i)) (g i)) → Lines (map say (map f (range_with_len a n))) (map g (range_with_len a n))
  lines_same a zero on = tt
  lines_same a (suc n) on = (on a (omega arith) (omega arith), lines_same (a + 1) n (λ i low high. on i (omega (arith, low)) (omega (arith, high))))

  -- the lines are numbered from the next number
  pub lines_up : (a n : ℕ) → ((i : ℕ) → a ≤ i → i < a + n → Says (say (f i)) (g (i + 1))) → Lines (map say (map f (range_with_len a n))) (map g (range_with_len (a + 1) n))
  lines_up a zero on = tt
  lines_up a (suc n) on = (on a (omega arith) (omega arith), lines_up (a + 1) n (λ i low high. on i (omega (arith, low)) (omega (arith, high))))

pub feedless : (ss : List SaidView) (ls : List (List ℕ)) → Lines ss ls → list_all has_no_feed ls ≡ true
feedless [] [] h = refl
feedless (s ∷ ss) (l ∷ ls) h = and_true _ _ h.0.no_feed (feedless ss ls h.1)
feedless [] (l ∷ ls) h = absurd h
feedless (s ∷ ss) [] h = absurd h

pub lines_read : (ss : List SaidView) (ls : List (List ℕ)) (n : ℕ) → Lines ss ls → read_lines One n ls ≡ Ok (numbered_from n ss)
lines_read [] [] n h = refl
lines_read (s ∷ ss) (l ∷ ls) n h =
    said_line One n l ls s h.0.read
    ∙ ap (λ (v : TextVersion). and_then (record { line = n; it = s }) (read_lines v (n + 1) ls)) h.0.stays
    ∙ ap (and_then (record { line = n; it = s })) (lines_read ss ls (n + 1) h.1)
lines_read [] (l ∷ ls) n h = absurd h
lines_read (s ∷ ss) [] n h = absurd h
