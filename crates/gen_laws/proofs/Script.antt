-- The lines of a made script, from the first to the last.
use Rattle.std.proofs.Common.{◌≡◌, ℕ, zero, suc, ◌+◌, ◌*◌, ◌≤◌, true, List, [], ◌∷◌, ◌++◌, map, flat_map, Result, Ok, Err, refl, ap, ◌∙◌, arith, mod-lt}
use Rattle.std.specs.Prelude.{IsOk}
use Rattle.std.specs.List.{list_all, range_with_len, AllByRecursion}
use Rattle.std.proofs.lemmas.List.Elements.{All-from_recursion}
use Rattle.gt_base.specs.declared.requests.Actor.TheVariants.{Operator}
use Rattle.gtrbac_model.proofs.Elements.{and_true}
use Rattle.gt_text.specs.Lines.{lines_of}
use Rattle.policy_lines.specs.Laws.{has_no_feed}
use Rattle.policy_lines.proofs.CutLines.{cut_lines}
use Rattle.policy_words.specs.Naming.{NamedPolicy}
use Rattle.policy_gen.specs.Draws.{draw, round, minute_after}
use Rattle.policy_gen.specs.Texts.{count_of, opening, round_lines, script_lines, script_text, all_for_each}
use Rattle.policy_gen.specs.declared.scripts.TheConstants.{FIRST_MINUTE}
use Rattle.request_text.specs.declared.lines.Line.{Line}
use Rattle.request_text.specs.Phrases.{read_line}
use Rattle.gen_laws.specs.Made.{made_of, made_policy}
use Rattle.gen_laws.specs.Played.{opening_said, round_said, lines_said, script_said}
use Rattle.gen_laws.specs.Laws.{IsBorn}
use Rattle.gen_laws.proofs.Heard.{Hears}
use Rattle.gen_laws.proofs.Rounds.{hears_minute, hears_open, hears_actor, hears_request}
use Rattle.gen_laws.proofs.ReadPolicy.{count_low, count_few}

abbrev Heard : NamedPolicy → List (List ℕ) → List Line → Type 0
Heard np [] [] = Unit {0}
Heard np (t ∷ ts) (l ∷ ls) = Hears np t l × Heard np ts ls
Heard np _ _ = ⊥

heard_both : (np : NamedPolicy) (ts us : List (List ℕ)) (ls ms : List Line) → Heard np ts ls → Heard np us ms → Heard np (ts ++ us) (ls ++ ms)
heard_both np [] us [] ms h g = g
heard_both np (t ∷ ts) us (l ∷ ls) ms h g = (h.0, heard_both np ts us ls ms h.1 g)
heard_both np [] us (l ∷ ls) ms h g = absurd h
heard_both np (t ∷ ts) us [] ms h g = absurd h

heard_feedless : (np : NamedPolicy) (ts : List (List ℕ)) (ls : List Line) → Heard np ts ls → list_all has_no_feed ts ≡ true
heard_feedless np [] [] h = refl
heard_feedless np (t ∷ ts) (l ∷ ls) h = and_true _ _ h.0.no_feed (heard_feedless np ts ls h.1)
heard_feedless np [] (l ∷ ls) h = absurd h
heard_feedless np (t ∷ ts) [] h = absurd h

heard_read : (np : NamedPolicy) (ts : List (List ℕ)) (ls : List Line) → Heard np ts ls → map (read_line np Operator true) ts ≡ map (λ l. Ok l) ls
heard_read np [] [] h = refl
heard_read np (t ∷ ts) (l ∷ ls) h = λ i. h.0.read i ∷ heard_read np ts ls h.1 i
heard_read np [] (l ∷ ls) h = absurd h
heard_read np (t ∷ ts) [] h = absurd h

is_ok : {T E : Type 0} (r : Result T E) (x : T) → r ≡ Ok x → IsOk r
is_ok (Ok y) x e = refl
is_ok (Err f) x e = cc

heard_fine : (np : NamedPolicy) (ts : List (List ℕ)) (ls : List Line) → Heard np ts ls → AllByRecursion (λ t. IsOk (read_line np Operator true t)) ts
heard_fine np [] [] h = tt
heard_fine np (t ∷ ts) (l ∷ ls) h = (is_ok (read_line np Operator true t) l h.0.read, heard_fine np ts ls h.1)
heard_fine np [] (l ∷ ls) h = absurd h
heard_fine np (t ∷ ts) [] h = absurd h

-- no round goes on more than an hour
pub minute_low : (seed k n : ℕ) → minute_after seed k n ≤ 13_681_920 + 60 * n
minute_low seed k zero = omega arith
minute_low seed k (suc n) =
    let before : minute_after seed k n ≤ 13_681_920 + 60 * n = minute_low seed k n in
    let hour : 1 ≤ 60 = omega arith in
    omega (arith, before, mod-lt (draw seed (4 * n + 1)) hour)

module _ (k : ℕ) (low : 1 ≤ k) (few : k ≤ 200) where
  abbrev np : NamedPolicy
  np = made_of k

  heard_openings : (a n : ℕ) → 1 ≤ a → a + n ≤ k + 1 → Heard np (flat_map opening (range_with_len a n)) (flat_map opening_said (range_with_len a n))
  heard_openings a zero from to = tt
  heard_openings a (suc n) from to = (hears_actor k low few a from (omega (arith, to)), (hears_open k low few, heard_openings (a + 1) n (omega arith) (omega (arith, to))))

  module _ (seed : ℕ) where
    user_low : (n : ℕ) → 1 ≤ (round seed k n).user
    user_low n = omega arith

    user_high : (n : ℕ) → (round seed k n).user ≤ k
    user_high n = omega (arith, mod-lt (draw seed (4 * n + 2)) low)

    other_low : (n : ℕ) → 1 ≤ (round seed k n).other
    other_low n = omega arith

    other_high : (n : ℕ) → (round seed k n).other ≤ k
    other_high n = omega (arith, mod-lt (draw seed (4 * n + 3)) low)

    heard_rounds : (a n : ℕ) → a + n ≤ 100_000 → Heard np (flat_map (round_lines seed k) (range_with_len a n)) (flat_map (round_said seed k) (range_with_len a n))
    heard_rounds a zero to = tt
    heard_rounds a (suc n) to = (
      hears_minute k low few (minute_after seed k (a + 1)) (omega (arith, minute_low seed k (a + 1), to)),
      (
        hears_actor k low few (round seed k a).user (user_low a) (user_high a),
        (hears_request k low few (round seed k a) (user_low a) (user_high a) (other_low a) (other_high a), heard_rounds (a + 1) n (omega (arith, to))),
      ),
    )

    pub heard_all : (rounds : ℕ) → rounds ≤ 100_000 → Heard np (script_lines seed k rounds) (lines_said seed k rounds)
    heard_all rounds many = (
      hears_minute k low few FIRST_MINUTE (omega arith),
      heard_both np (all_for_each opening k) (flat_map (round_lines seed k) (range_with_len 0 rounds)) (flat_map opening_said (range_with_len 1 k)) (flat_map (round_said seed k) (range_with_len 0 rounds))
          (heard_openings 1 k (omega arith) (omega arith)) (heard_rounds 0 rounds (omega (arith, many))),
    )

module _ (seed size : ℕ) (low : 1 ≤ size) (high : size ≤ 100_000) where
  heard : Heard (made_policy size) (script_lines seed (count_of size) size) (script_said seed size)
  heard = heard_all (count_of size) (count_low size low) (count_few size) seed size high

  cut : lines_of (script_text seed size) ≡ script_lines seed (count_of size) size
  unfolding script_text
  cut = cut_lines (script_lines seed (count_of size) size) (heard_feedless (made_policy size) (script_lines seed (count_of size) size) (script_said seed size) heard)

  pub script_is_said : map (read_line (made_policy size) Operator true) (lines_of (script_text seed size)) ≡ map (λ l. Ok l) (script_said seed size)
  script_is_said = ap (map (read_line (made_policy size) Operator true)) cut ∙ heard_read (made_policy size) (script_lines seed (count_of size) size) (script_said seed size) heard

  abbrev later : List (List ℕ)
  later = all_for_each opening (count_of size) ++ flat_map (round_lines seed (count_of size)) (range_with_len 0 size)

  pub script_is_born : IsBorn seed size
  script_is_born = record {
    behind = later;
    lines_are = cut;
    birth = heard.0.read;
    no_fault = All-from_recursion (λ t. IsOk (read_line (made_policy size) Operator true t)) later
        (heard_fine (made_policy size) later (flat_map opening_said (range_with_len 1 (count_of size)) ++ flat_map (round_said seed (count_of size)) (range_with_len 0 size)) heard.1);
  }
