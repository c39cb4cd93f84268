-- What holds of the lines of a policy.
use Rattle.std.specs.Prelude.{◌≡◌, ◌↔◌, ℕ, ◌<◌, ◌≤◌, ◌^◌, Bool, not, List, length, decimal, Option, Some, Result, Ok, IsTrue}
use Rattle.std.specs.List.{list_all, list_any}
use Rattle.gt_base.specs.Names.{number_in}
use Rattle.gt_base.specs.declared.limits.TheConstants.{LONGEST_POLICY_LINE}
use Rattle.gt_text.specs.Lines.{lines_of, is_feed}
use Rattle.gt_text.specs.Words.{spaced, as_text}
use Rattle.policy_words.specs.declared.faults.TextKind.{TextKind}
use Rattle.policy_words.specs.declared.versions.TextVersion.{TextVersion}
use Rattle.policy_words.specs.Sayings.{SaidView, said_words, is_saying}
use Rattle.policy_words.specs.Reading.{read_said}
use Rattle.policy_words.specs.Spelling.{IsPlaced, IsSaid}

-- reading a number by its digits is reading it by its text
abbrev pub NumbersAreDecimal : Type 0
NumbersAreDecimal = (word : List ℕ) (n : ℕ) → n < 2 ^ 64
    → (number_in word ≡ Some n) ↔ (word ≡ decimal n)

-- reading a line by its words is what the spellings of sayings and the table of faults say of it
abbrev pub SayingsAreRead : Type 0
SayingsAreRead = (v : TextVersion) (line : List ℕ) (r : Result (Option SaidView) TextKind)
    → (read_said v line ≡ r) ↔ IsSaid v line r

-- a saying in range is read from the line that it writes
abbrev pub WrittenIsRead : Type 0
WrittenIsRead =
    (said : SaidView) (v : TextVersion) → IsTrue (is_saying said) → IsPlaced v said
    → length (spaced (said_words said)) ≤ LONGEST_POLICY_LINE
    → read_said v (spaced (said_words said)) ≡ Ok (Some said)

abbrev pub has_no_feed : List ℕ → Bool
has_no_feed line = not (list_any is_feed line)

-- lines that are written with their line feeds are the lines of the text that they make, and each
-- saying is written in one
pub record LinesAreCut : Type 0 where
  pub cut : (lines : List (List ℕ)) → IsTrue (list_all has_no_feed lines)
      → lines_of (as_text lines) ≡ lines
  pub one_line : (said : SaidView) → IsTrue (is_saying said)
      → IsTrue (has_no_feed (spaced (said_words said)))
