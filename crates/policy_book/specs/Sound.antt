-- What lines without a fault make.
use Rattle.std.specs.Prelude.{◌≡◌, List, [], None}
use Rattle.gtrbac_model.specs.EdgeCycles.{edge_cycle}
use Rattle.policy_words.specs.Sayings.{SaidView}
use Rattle.policy_words.specs.Reading.{Numbered}
use Rattle.policy_words.specs.Naming.{Names}
use Rattle.policy_words.specs.Making.{DraftView, fresh, drafted}
use Rattle.policy_words.specs.LinesTogether.{said_in, first_fault}

-- no line has a fault, the draft is of all lines, and its edges have no cycle
pub record IsSound (ss : List (Numbered SaidView)) (ns : Names) (d : DraftView) : Type 0 where
  pub free : first_fault ns [] ss ≡ None
  pub whole : d ≡ drafted ns (fresh ns) (said_in ss)
  pub open_ended : edge_cycle d.edges ≡ None
