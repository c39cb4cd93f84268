-- What the policy of a ledger has to do with the connections that ask it.
use Rattle.core_machine.specs.Books.{BookView, IsNamedFor, now_after}
use Rattle.core_machine.specs.Ledgers.{IsLegalLedger}
use Rattle.connection_laws.specs.Connection.{IsTimed}
use Rattle.connection_laws.specs.Desks.{MayBeAsked, RepliesCanBeTold}

-- Its policy's connections can ask it: what the policy names is named for it, each reply of its
-- legal lists can be told, and its birth keeps the time of them
pub record CanBeServed (b : BookView) : Type 0 where
  pub named : MayBeAsked b.named (IsNamedFor b)
  pub replies : RepliesCanBeTold b.named (IsLegalLedger b)
  pub timed : IsTimed b.birth (IsLegalLedger b) (now_after b)
