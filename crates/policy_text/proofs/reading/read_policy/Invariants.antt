use Rattle.std.proofs.Common.{◌≡◌, ◌+◌, ◌≤◌, length}
use Rattle.std.specs.Prelude.{IsTrue}
use Rattle.gt_text.specs.Lines.{lines_of}
use Rattle.policy_words.specs.Reading.{read_lines}
use Rattle.policy_book.specs.Said.{are_before}
use Rattle.policy_words.specs.declared.versions.TextVersion.TheVariants.{Open}
use Rattle.policy_text.specs.Lines.{behind, version_told}
use Rattle.policy_text.proofs.reading.read_policy.Given as goal

-- what the lines so far say, before what those to come say, is what all say
abbrev pub invariant-loop-line : goal.invariant-loop-line
invariant-loop-line l =
    record {
      read : behind l.parts (read_lines l.version (l.number + 1) l.lines) ≡ read_lines Open 1 (lines_of l.text);
      told : version_told l.parts ≡ l.version;
      before : IsTrue (are_before (l.number + 1) l.parts);
      count : l.number + length l.lines ≤ length l.text;
    }

abbrev pub decreases-loop-line : goal.decreases-loop-line
decreases-loop-line l = length l.lines
