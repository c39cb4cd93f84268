-- The numbers that a seed draws, and the rounds that they make.
use Rattle.std.specs.Prelude.{ℕ, zero, suc, ◌+◌, ◌*◌, ◌%◌}
use Rattle.policy_gen.specs.declared.scripts.TheConstants.{FIRST_MINUTE}

-- the number that is drawn after x
abbrev pub drawn_after : ℕ → ℕ
drawn_after x = (75 * x + 74) % 65_537

-- the number that is drawn at last in n draws; before the first it is the seed's rest by 65,537
abbrev pub draw : ℕ → ℕ → ℕ
draw seed zero = seed % 65_537
draw seed (suc n) = drawn_after (draw seed n)

-- what a round does: how many minutes time goes on, a user with its session, a second number, and
-- the choice of a request
pub record Round : Type 0 where
  pub minutes : ℕ
  pub user : ℕ
  pub other : ℕ
  pub choice : ℕ

module _ (seed k : ℕ) where
  -- a round, numbered from 0, makes four draws; k is the number of users
  abbrev pub round : ℕ → Round
  round n = record {
    minutes = draw seed (4 * n + 1) % 60 + 1;
    user = draw seed (4 * n + 2) % k + 1;
    other = draw seed (4 * n + 3) % k + 1;
    choice = draw seed (4 * n + 4) % 4;
  }

  -- the minute behind n rounds
  abbrev pub minute_after : ℕ → ℕ
  minute_after zero = FIRST_MINUTE
  minute_after (suc n) = minute_after n + (round n).minutes
