-- The draws of a round.
use Rattle.std.proofs.Common.{◌≡◌, ℕ, ◌+◌, ◌*◌, ◌%◌, sym, ap, ◌∙◌, arith, add-one}
use Rattle.policy_gen.specs.Draws.{drawn_after, draw, round, minute_after}
use Rattle.policy_gen.specs.declared.scripts.Round.{Round as Drawn}
use Rattle.policy_gen.specs.Texts.{round_lines}
use Rattle.policy_gen.specs.Steps.{four_after, round_from, lines_at, seen_round}

draw_more : (seed n : ℕ) → draw seed (n + 1) ≡ drawn_after (draw seed n)
draw_more seed n = ap (draw seed) (add-one n)

draw_two : (seed n : ℕ) → draw seed (n + 2) ≡ drawn_after (drawn_after (draw seed n))
draw_two seed n = let e : n + 2 ≡ (n + 1) + 1 = omega arith in ap (draw seed) e ∙ draw_more seed (n + 1) ∙ ap drawn_after (draw_more seed n)

draw_three : (seed n : ℕ) → draw seed (n + 3) ≡ drawn_after (drawn_after (drawn_after (draw seed n)))
draw_three seed n = let e : n + 3 ≡ (n + 2) + 1 = omega arith in ap (draw seed) e ∙ draw_more seed (n + 2) ∙ ap drawn_after (draw_two seed n)

draw_four : (seed n : ℕ) → draw seed (n + 4) ≡ four_after (draw seed n)
draw_four seed n = let e : n + 4 ≡ (n + 3) + 1 = omega arith in ap (draw seed) e ∙ draw_more seed (n + 3) ∙ ap drawn_after (draw_three seed n)

pub draws_on : (seed n x y : ℕ) → x ≡ draw seed (4 * n) → y ≡ four_after x → y ≡ draw seed (4 * (n + 1))
draws_on seed n x y is next = let e : 4 * (n + 1) ≡ 4 * n + 4 = omega arith in next ∙ ap four_after is ∙ sym (draw_four seed (4 * n)) ∙ ap (draw seed) (sym e)

pub round_is : (seed k n x : ℕ) → x ≡ draw seed (4 * n) → round_from k x ≡ round seed k n
round_is seed k n x is =
    ap (round_from k) is
    ∙ (λ i. record {
      minutes = sym (draw_more seed (4 * n)) i % 60 + 1;
      user = sym (draw_two seed (4 * n)) i % k + 1;
      other = sym (draw_three seed (4 * n)) i % k + 1;
      choice = sym (draw_four seed (4 * n)) i % 4;
    })

module _ (seed k n : ℕ) where
  -- a round that was drawn is the round of this number
  pub drawn_round : (x : ℕ) (r : Drawn) → x ≡ draw seed (4 * n) → seen_round r ≡ round_from k x → seen_round r ≡ round seed k n
  drawn_round x r is drawn = drawn ∙ round_is seed k n x is

  pub minute_on : (x minute : ℕ) (r : Drawn) → x ≡ draw seed (4 * n) → seen_round r ≡ round_from k x → minute ≡ minute_after seed k n → minute + r.minutes ≡ minute_after seed k (n + 1)
  minute_on x minute r is drawn so_far =
      (λ i. so_far i + (drawn_round x r is drawn i).minutes) ∙ sym (ap (minute_after seed k) (add-one n))

  pub lines_on : (x minute : ℕ) (r : Drawn) → x ≡ draw seed (4 * n) → seen_round r ≡ round_from k x → minute ≡ minute_after seed k (n + 1)
      → lines_at minute (seen_round r) ≡ round_lines seed k n
  lines_on x minute r is drawn at = λ i. lines_at (at i) (drawn_round x r is drawn i)
