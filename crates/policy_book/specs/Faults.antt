-- What a fault tells of the lines.
use Rattle.std.specs.Prelude.{◌≡◌, ℕ, List, ◌++◌, map, Option, Some, Err}
use Rattle.policy_words.specs.Sayings.{SaidView}
use Rattle.policy_words.specs.Reading.{Numbered}
use Rattle.gt_base.specs.declared.policies.HierEdge.{HierEdge}
use Rattle.policy_words.specs.Naming.{Names, role_name}
use Rattle.policy_words.specs.Making.{names_of}
use Rattle.policy_words.specs.LinesTogether.{LinesFault, unknown, twice, many, cycle, said_in, build}
use Rattle.policy_words.specs.PolicyRead.{again}
use Rattle.policy_book.specs.declared.faults.BookFault.{BookFault}
use Rattle.policy_book.specs.declared.faults.BookFault.TheVariants.{Unknown, Twice, TooMany, HierarchyCycle, Memory}

-- the names of the edges' seniors, the first of them again at the end
abbrev pub seniors : Names → List HierEdge → List (List ℕ)
seniors ns es = map (λ e. role_name ns e.senior) (es ++ again es)

-- the fault is that of the lines; want of memory tells nothing of them
abbrev pub IsFault : List (Numbered SaidView) → BookFault → Type 0
IsFault ss (Unknown n) = build ss ≡ Err (unknown n)
IsFault ss (Twice n) = build ss ≡ Err (twice n)
IsFault ss (TooMany n k) = build ss ≡ Err (many n k)
IsFault ss (HierarchyCycle es names) = (build ss ≡ Err (cycle es.items))
    × (names.items ≡ seniors (names_of (said_in ss)) es.items)
IsFault ss Memory = Unit {0}

-- the fault of a line is this
abbrev pub IsLineFault : Option LinesFault → BookFault → Type 0
IsLineFault o (Unknown n) = o ≡ Some (unknown n)
IsLineFault o (Twice n) = o ≡ Some (twice n)
IsLineFault o (TooMany n k) = o ≡ Some (many n k)
IsLineFault o (HierarchyCycle es names) = ⊥
IsLineFault o Memory = Unit {0}
