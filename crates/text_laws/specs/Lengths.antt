-- How long written expressions and lines are.
use Rattle.std.specs.Prelude.{◌≡◌, ℕ, ◌+◌, ◌≤◌, Bool, true, false, List, length, Ok}
use Rattle.gtrbac_model.specs.Period.{Expr}
use Rattle.gt_text.specs.Words.{spaced}
use Rattle.periodic_expr.specs.Reading.{read_expr}
use Rattle.periodic_expr.specs.Printed.{expr_text}
use Rattle.policy_words.specs.Sayings.{SaidView, period, said_words, is_saying}
use Rattle.policy_words.specs.Spelling.{SpellsPeriod}

-- at most four more parts, with a space on each side of the sign before each, and a length
abbrev pub PrintedStayShort : Type 0
PrintedStayShort = (text : List ℕ) (e : Expr) → read_expr text ≡ Ok e
    → length (expr_text e) ≤ length text + 20

-- besides, an instant in place of each `*`
abbrev pub PeriodsStayShort : Type 0
PeriodsStayShort =
    (line n : List ℕ) (first last : ℕ) (e : Expr) → SpellsPeriod line n first last e
    → length (spaced (said_words (period n first last e))) ≤ length line + 51

abbrev pub is_period_line : SaidView → Bool
is_period_line (period n first last e) = true
is_period_line _ = false

abbrev pub OthersAreShort : Type 0
OthersAreShort = (said : SaidView) → is_saying said ≡ true → is_period_line said ≡ false
    → length (spaced (said_words said)) ≤ 2_000
