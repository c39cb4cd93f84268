-- A round from the number that was drawn before it.
use Rattle.std.specs.Prelude.{ℕ, ◌+◌, ◌%◌, List, [], ◌∷◌, codes}
use Rattle.policy_gen.specs.declared.scripts.Round.{Round as Drawn}
use Rattle.policy_gen.specs.Draws.{drawn_after, Round}
use Rattle.policy_gen.specs.Texts.{one, time_line, request_line}

abbrev pub seen_round : Drawn → Round
seen_round r = record { minutes = r.minutes; user = r.user; other = r.other; choice = r.choice }

-- the number that is drawn after four
abbrev pub four_after : ℕ → ℕ
four_after x = drawn_after (drawn_after (drawn_after (drawn_after x)))

abbrev pub round_from : ℕ → ℕ → Round
round_from k x = record {
  minutes = drawn_after x % 60 + 1;
  user = drawn_after (drawn_after x) % k + 1;
  other = drawn_after (drawn_after (drawn_after x)) % k + 1;
  choice = four_after x % 4;
}

-- the lines of a round at its minute
abbrev pub lines_at : ℕ → Round → List (List ℕ)
lines_at minute r = time_line minute ∷ one (codes "as u") r.user ∷ request_line r ∷ []
