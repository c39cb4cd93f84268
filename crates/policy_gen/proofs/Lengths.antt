-- How long the texts are.
use Rattle.std.proofs.Common.{◌≡◌, ℕ, zero, suc, ◌+◌, ◌-◌, ◌*◌, ◌≤◌, ◌<◌, List, [], ◌∷◌, ◌++◌, map, flat_map, length, codes, refl, ap, ◌∙◌, arith, mod-lt, length-append}
use Rattle.std.specs.Prelude.{Bool, true, false, nat_eq, decimal, if◌then◌else◌}
use Rattle.std.specs.List.{range_with_len}
use Rattle.std.proofs.lemmas.Fmt.{length-decimal-le}
use Rattle.gt_text.specs.Words.{as_text}
use Rattle.policy_gen.specs.Draws.{draw, Round, round, minute_after}
use Rattle.policy_gen.specs.Texts.{count_of, one, two, for_each, all_for_each, name_lines, edge_lines, holding_lines, chain, policy_lines, opening, request_line, time_line, round_lines, script_lines, policy_text, script_text}
use Rattle.policy_gen.proofs.Growing.{parts}
use Rattle.policy_gen.specs.declared.scripts.TheConstants.{FIRST_MINUTE}

digits : (i : ℕ) → i < 1_000 → length (decimal i) ≤ 3
digits i lt = length-decimal-le 3 i (omega arith) lt (omega arith)

one_short : (piece : List ℕ) (i : ℕ) → i < 1_000 → length (one piece i) ≤ length piece + 3
one_short piece i lt = omega (arith, length-append piece (decimal i), digits i lt)

two_short : (first second : List ℕ) (i j : ℕ) → i < 1_000 → j < 1_000 → length (two first i second j) ≤ length first + length second + 6
two_short first second i j lt_i lt_j = omega (arith, length-append (one first i) (one second j), one_short first i lt_i, one_short second j lt_j)

line_length : (line : List ℕ) (rest : List (List ℕ)) → length (as_text (line ∷ rest)) ≡ length line + 1 + length (as_text rest)
line_length line rest = omega (arith, length-append (line ++ 10 ∷ []) (as_text rest), length-append line (10 ∷ []))

both_length : (xs ys : List (List ℕ)) → length (as_text (xs ++ ys)) ≡ length (as_text xs) + length (as_text ys)
both_length xs ys = ap (λ (t : List ℕ). length t) (parts xs ys) ∙ length-append (as_text xs) (as_text ys)

-- lines for each number, each with no more bytes than c
all_short : (f : ℕ → List (List ℕ)) (c a n : ℕ) → ((i : ℕ) → i < a + n → length (as_text (f i)) ≤ c) → length (as_text (flat_map f (range_with_len a n))) ≤ n * c
all_short f c a zero each = omega arith
all_short f c a (suc n) each =
    let here : length (as_text (f a)) ≤ c = each a (omega arith) in
    let later : length (as_text (flat_map f (range_with_len (a + 1) n))) ≤ n * c = all_short f c (a + 1) n (λ i lt. each i (omega arith)) in
    let split = both_length (f a) (flat_map f (range_with_len (a + 1) n)) in
    omega (arith, here, later, split)

lines_short : (f : ℕ → List ℕ) (c a n : ℕ) → ((i : ℕ) → i < a + n → length (f i) + 1 ≤ c) → length (as_text (map f (range_with_len a n))) ≤ n * c
lines_short f c a zero each = omega arith
lines_short f c a (suc n) each =
    let here : length (f a) + 1 ≤ c = each a (omega arith) in
    let later : length (as_text (map f (range_with_len (a + 1) n))) ≤ n * c = lines_short f c (a + 1) n (λ i lt. each i (omega arith)) in
    let split = line_length (f a) (map f (range_with_len (a + 1) n)) in
    omega (arith, here, later, split)

-- four lines, with more behind each of them
four_short : (v w x y : List ℕ) (A B C D : List (List ℕ)) (most : ℕ)
    → length v + length w + length x + length y + 4 + length (as_text A) + length (as_text B) + length (as_text C) + length (as_text D) ≤ most → length (as_text (v ∷ A ++ w ∷ B ++ x ∷ C ++ y ∷ D)) ≤ most
four_short v w x y A B C D most le =
    let a = both_length (v ∷ A ++ w ∷ B ++ x ∷ C) (y ∷ D) in
    let b = both_length (v ∷ A ++ w ∷ B) (x ∷ C) in
    let c = both_length (v ∷ A) (w ∷ B) in
    let d = line_length v A in
    let e = line_length w B in
    let f = line_length x C in
    let g = line_length y D in
    omega (arith, a, b, c, d, e, f, g, le)

asked_short : (a b c : Bool) (r : Round) → r.user < 1_000 → r.other < 1_000
    → length (if a then two (codes "activate ") r.user (codes " r") r.user else if b then two (codes "check ") r.user (codes " p") r.other
    else if c then two (codes "deactivate ") r.user (codes " r") r.user else one (codes "status enabled r") r.other) ≤ 19
asked_short true b c r user other = omega (arith, two_short (codes "activate ") (codes " r") r.user r.user user user)
asked_short false true c r user other = omega (arith, two_short (codes "check ") (codes " p") r.user r.other user other)
asked_short false false true r user other = omega (arith, two_short (codes "deactivate ") (codes " r") r.user r.user user user)
asked_short false false false r user other = omega (arith, one_short (codes "status enabled r") r.other other)

-- the policy

module _ (k : ℕ) (le : k ≤ 200) where
  named_short : (piece : List ℕ) → length piece ≡ 6 → length (as_text (for_each (one piece) k)) ≤ k * 10
  named_short piece is = lines_short (one piece) 10 1 k (λ i lt. omega (arith, one_short piece i (omega arith), is))

  names_short : length (as_text (name_lines k)) ≤ k * 30
  names_short =
      let roles = for_each (one (codes "role r")) k in
      let users = for_each (one (codes "user u")) k in
      let perms = for_each (one (codes "perm p")) k in
      let split : length (as_text (name_lines k)) ≡ length (as_text (roles ++ users)) + length (as_text perms) = both_length (roles ++ users) perms in
      omega (arith, split, both_length roles users, named_short (codes "role r") refl, named_short (codes "user u") refl, named_short (codes "perm p") refl)

  edges_short : length (as_text (edge_lines (k - 1))) ≤ (k - 1) * 23
  edges_short =
      lines_short (λ i. two (codes "edge ia weak r") i (codes " r") (i + 1)) 23 1 (k - 1) (λ i lt. omega (arith, two_short (codes "edge ia weak r") (codes " r") i (i + 1) (omega arith) (omega arith)))

  held_short : (piece : List ℕ) → length piece ≤ 10 → length (as_text (for_each (λ i. two piece i (codes " r") i) k)) ≤ k * 19
  held_short piece short = lines_short (λ i. two piece i (codes " r") i) 19 1 k (λ i lt. omega (arith, two_short piece (codes " r") i i (omega arith) (omega arith), short))

  holding_short : length (as_text (holding_lines k)) ≤ k * 38
  holding_short =
      let users = for_each (λ i. two (codes "assigned u") i (codes " r") i) k in
      let perms = for_each (λ i. two (codes "granted p") i (codes " r") i) k in
      let split : length (as_text (holding_lines k)) ≡ length (as_text users) + length (as_text perms) = both_length users perms in
      omega (arith, split, held_short (codes "assigned u") (omega arith), held_short (codes "granted p") (omega arith))

  chain_short : (i : ℕ) → i < 1 + (k - 1) → length (as_text (chain i)) ≤ 80
  chain_short i lt =
      let on = two (codes "when enable r") i (codes " then 50:enable r") (i + 1) in
      let off = two (codes "when disable r") i (codes " then 50:disable r") (i + 1) in
      let split : length (as_text (chain i)) ≡ length on + 1 + length (as_text (off ∷ [])) = line_length on (off ∷ []) in
      omega (
        arith,
        split,
        line_length off [],
        two_short (codes "when enable r") (codes " then 50:enable r") i (i + 1) (omega arith) (omega arith),
        two_short (codes "when disable r") (codes " then 50:disable r") i (i + 1) (omega arith) (omega arith),
      )

  chains_short : length (as_text (all_for_each chain (k - 1))) ≤ (k - 1) * 80
  chains_short = all_short chain 80 1 (k - 1) chain_short

  pub policy_short : length (as_text (policy_lines k)) ≤ 40_000
  policy_short =
      four_short (codes "policy 1") (codes "period hours * * all.Days + {9}.Hours > 8.Hours") (codes "admin u1") (codes "span hours 50:enable r1")
      (name_lines k) (edge_lines (k - 1)) (holding_lines k) (all_for_each chain (k - 1)) 40_000
      (omega (arith, names_short, edges_short, holding_short, chains_short))

-- the script

opening_short : (k : ℕ) → k ≤ 200 → (i : ℕ) → i < 1 + k → length (as_text (opening i)) ≤ 13
opening_short k le i lt =
    let split : length (as_text (opening i)) ≡ length (one (codes "as u") i) + 1 + length (as_text (codes "open" ∷ [])) = line_length (one (codes "as u") i) (codes "open" ∷ []) in
    omega (arith, split, line_length (codes "open") [], one_short (codes "as u") i (omega arith))

time_short : (minute : ℕ) → length (time_line minute) ≡ 18
time_short minute = refl

request_short : (r : Round) → r.user < 1_000 → r.other < 1_000 → length (request_line r) ≤ 19
request_short r user other = asked_short (nat_eq r.choice 0) (nat_eq r.choice 1) (nat_eq r.choice 2) r user other

module _ (seed k : ℕ) (low : 1 ≤ k) (le : k ≤ 200) where
  round_short : (n : ℕ) → n < 0 + 100_000 → length (as_text (round_lines seed k n)) ≤ 47
  round_short n lt =
      let r : Round = round seed k n in
      let user : r.user < 1_000 = omega (arith, mod-lt (draw seed (4 * n + 2)) low) in
      let other : r.other < 1_000 = omega (arith, mod-lt (draw seed (4 * n + 3)) low) in
      let time = time_line (minute_after seed k (n + 1)) in
      let act = one (codes "as u") r.user in
      let split : length (as_text (round_lines seed k n)) ≡ length time + 1 + length (as_text (act ∷ request_line r ∷ [])) = line_length time (act ∷ request_line r ∷ []) in
      omega (arith, split, line_length act (request_line r ∷ []), line_length (request_line r) [], time_short (minute_after seed k (n + 1)), one_short (codes "as u") r.user user, request_short r user other)

  pub script_short : (rounds : ℕ) → rounds ≤ 100_000 → length (as_text (script_lines seed k rounds)) < 5_000_000
  script_short rounds many =
      let first = time_line FIRST_MINUTE in
      let opened = all_for_each opening k in
      let played = flat_map (round_lines seed k) (range_with_len 0 rounds) in
      let split : length (as_text (script_lines seed k rounds)) ≡ length (as_text (first ∷ opened)) + length (as_text played) = both_length (first ∷ opened) played in
      omega (
        arith,
        split,
        line_length first opened,
        time_short FIRST_MINUTE,
        all_short opening 13 1 k (opening_short k le),
        all_short (round_lines seed k) 47 0 rounds (λ i lt. round_short i (omega (arith, lt, many))),
      )

-- of each size

count_low : (size : ℕ) → 1 ≤ size → 1 ≤ count_of size
count_low size le = omega arith

count_high : (size : ℕ) → count_of size ≤ 200
count_high size = omega arith

pub policy_of_size : (size : ℕ) (text : List ℕ) → text ≡ policy_text size → length text ≤ 40_000
unfolding policy_text
policy_of_size size text is = omega (arith, ap (λ (t : List ℕ). length t) is, policy_short (count_of size) (count_high size))

pub script_of_size : (seed size : ℕ) (text : List ℕ) → 1 ≤ size → size ≤ 100_000 → text ≡ script_text seed size → length text < 5_000_000
unfolding script_text
script_of_size seed size text low high is = omega (arith, ap (λ (t : List ℕ). length t) is, script_short seed (count_of size) (count_low size low) (count_high size) size high)
