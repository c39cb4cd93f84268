-- Books whose legal lists are of named moves.
use Rattle.std.specs.Prelude.{List}
use Rattle.std.proofs.Common.{subst}
use Rattle.gt_base.specs.declared.requests.Entry.{Entry}
use Rattle.core_machine.specs.Books.{BookView, SameRoot, IsLegalFor, IsLegalFor-by_root}
use Rattle.history_laws.specs.Named.{AreNamed}

-- some model makes the history legal for the book's policy and birth, and its moves are the
-- policy's
pub record IsLegalLedger (b : BookView) (h : List Entry) : Type 0 where
  pub legal : IsLegalFor b h
  pub named : AreNamed b.named.policy h

pub IsLegalLedger-by_root : (a b : BookView) (h : List Entry) → SameRoot a b → IsLegalLedger a h
    → IsLegalLedger b h
IsLegalLedger-by_root a b h s l =
    record {
      legal = IsLegalFor-by_root a b h s l.legal;
      named = subst (λ p. AreNamed p.policy h) s.0 l.named;
    }
