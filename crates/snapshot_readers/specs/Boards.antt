-- What a clause sees of a board.
use Rattle.std.specs.Prelude.{refl, List}
use Rattle.std.specs.Coded.{Coded, code_by, coded×, coded_list}
use Rattle.gt_base.specs.declared.requests.Entry.{Entry}
use Rattle.gt_base.specs.contracts.requests.Entry as entry
use Rattle.core_machine.specs.Books.{BookView, book_code, SameRoot, SameRoot-refl, SameRoot-sym, SameRoot-trans}

-- its ledger, and the entries that are published
pub record BoardView : Type 0 where
  pub ledger : BookView
  pub shown : List Entry

abbrev pub board_code : Coded BoardView
board_code =
    code_by (BookView × List Entry) (coded× book_code (coded_list entry.the_row.coded))
    (λ b. (b.ledger, b.shown)) (λ (l, s). record { ledger = l; shown = s }) (λ _. refl)

-- boards over ledgers of one policy and birth
abbrev pub SameBoard : BoardView → BoardView → Type 0
SameBoard a b = SameRoot a.ledger b.ledger

pub SameBoard-refl : (a : BoardView) → SameBoard a a
SameBoard-refl a = SameRoot-refl a.ledger

pub SameBoard-sym : (a b : BoardView) → SameBoard a b → SameBoard b a
SameBoard-sym a b s = SameRoot-sym a.ledger b.ledger s

pub SameBoard-trans : (a b c : BoardView) → SameBoard a b → SameBoard b c → SameBoard a c
SameBoard-trans a b c s t = SameRoot-trans a.ledger b.ledger c.ledger s t
